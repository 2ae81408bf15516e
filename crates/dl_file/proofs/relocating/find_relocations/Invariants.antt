-- How many of the sections so far are of relocations.
use Rattle.std.proofs.Common.{◌≡◌, ◌≤◌, ◌-◌, Some}
use Rattle.dl_elf.specs.Source.{ForBytes}
use Rattle.dl_elf.specs.Window.{Shows}
use Rattle.dl_file.specs.OneByOne.{relocations_upto}
use Rattle.dl_file.proofs.relocating.find_relocations.Given as goal

abbrev pub invariant-loop-at : goal.invariant-loop-at
invariant-loop-at g l = record {
  from : 1 ≤ l.at;
  upto : l.at - 1 ≤ l.elf.count - 1;
  few : l.count ≤ l.at - 1;
  past : 1 ≤ l.first;
  before : l.first - 1 ≤ l.elf.count - 1;
  shows : Shows (g.S.ReadAt.all_bytes l.source) l.window;
  counted : ForBytes (g.S.ReadAt.all_bytes l.source) (λ f.
      relocations_upto l.elf f l.number (l.at - 1) ≡ Some l.count);
  none : ForBytes (g.S.ReadAt.all_bytes l.source) (λ f. relocations_upto l.elf f l.number (l.first - 1) ≡ Some 0);
}
