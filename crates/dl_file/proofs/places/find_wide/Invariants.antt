-- None of the sections so far is one.
use Rattle.std.proofs.Common.{◌≡◌, ◌≤◌, ◌-◌, None}
use Rattle.dl_elf.specs.Source.{ForBytes}
use Rattle.dl_elf.specs.Window.{Shows}
use Rattle.dl_file.specs.OneByOne.{wide_upto}
use Rattle.dl_file.proofs.places.find_wide.Given as goal

abbrev pub invariant-loop-at : goal.invariant-loop-at
invariant-loop-at g l = record {
  from : 1 ≤ l.at;
  upto : l.at - 1 ≤ l.elf.count - 1;
  shows : Shows (g.S.ReadAt.all_bytes l.source) l.window;
  none : ForBytes (g.S.ReadAt.all_bytes l.source) (λ f. wide_upto l.elf f l.number (l.at - 1) ≡ None);
}
