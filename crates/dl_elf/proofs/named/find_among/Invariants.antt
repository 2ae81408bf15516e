use Rattle.std.proofs.Common.{◌-◌, ◌≤◌}
use Rattle.dl_elf.specs.Source.{ForBytes}
use Rattle.dl_elf.specs.Window.{Shows}
use Rattle.dl_elf.specs.SlotsFound.{AreFoundBefore}
use Rattle.dl_elf.specs.SectionsHeld.{slots, forward_of}
use Rattle.dl_elf.specs.Forward.{NoneForward}
use Rattle.dl_elf.proofs.named.find_among.Given as goal

abbrev pub invariant-loop-number : goal.invariant-loop-number
invariant-loop-number g l = record {
  headers : Shows (g.S.ReadAt.all_bytes l.source) l.headers;
  names : Shows (g.S.ReadAt.all_bytes l.source) l.names;
  upto : l.number - 1 ≤ l.elf.count - 1;
  found : ForBytes (g.S.ReadAt.all_bytes l.source) (λ f. AreFoundBefore l.elf f l.number (slots l.sections));
  reached : forward_of l.sections ≤ l.number;
  forward : ForBytes (g.S.ReadAt.all_bytes l.source) (λ f. NoneForward l.elf f (forward_of l.sections));
}
