-- The places of the sections so far.
use Rattle.std.proofs.Common.{◌≡◌, ◌≤◌, ◌-◌, [], length, Ok}
use Rattle.dl_elf.specs.Source.{ForBytes}
use Rattle.dl_elf.specs.Window.{Shows}
use Rattle.dl_file.specs.OneByOne.{GrowsBy, placed_upto, relocations_upto}
use Rattle.dl_file.proofs.places.list_places.Given as goal

abbrev pub invariant-loop-at : goal.invariant-loop-at
invariant-loop-at g l = record {
  from : 1 ≤ l.at;
  upto : l.at - 1 ≤ l.elf.count - 1;
  shows : Shows (g.S.ReadAt.all_bytes l.source) l.window;
  listed : ForBytes (g.S.ReadAt.all_bytes l.source) (λ f. placed_upto l.elf f l.line (l.at - 1) ≡ Ok l.places.items);
  few : ForBytes (g.S.ReadAt.all_bytes l.source)
      (λ f. GrowsBy (relocations_upto l.elf f l.line.number (l.at - 1)) (length f) [] l.places.items);
}
