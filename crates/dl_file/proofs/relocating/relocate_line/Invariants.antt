-- What the sections so far made of the line section's bytes.
use Rattle.std.proofs.Common.{◌≡◌, ◌≤◌, ◌-◌, Ok}
use Rattle.dl_elf.specs.Source.{ForBytes}
use Rattle.dl_elf.specs.Window.{Shows}
use Rattle.dl_file.specs.OneByOne.{relocated_upto}
use Rattle.dl_file.proofs.relocating.relocate_line.Given as goal

abbrev pub invariant-loop-at : goal.invariant-loop-at
invariant-loop-at g l = record {
  from : 1 ≤ l.at;
  upto : l.at - 1 ≤ l.elf.count - 1;
  shows : Shows (g.S.ReadAt.all_bytes l.source) l.window;
  made : ForBytes (g.S.ReadAt.all_bytes l.source) (λ f. relocated_upto l.elf f l.line l.fn.bytes (l.at - 1) ≡ Ok l.bytes);
}
