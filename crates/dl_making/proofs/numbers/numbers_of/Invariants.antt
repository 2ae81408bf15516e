use Rattle.std.proofs.Common.{◌≡◌, ◌+◌, ◌*◌, ◌<◌, ◌^◌, take, length}
use Rattle.std.specs.List.{All}
use Rattle.dl_pack.specs.Named.{Grows}
use Rattle.dl_pack.specs.Shown.{named_files}
use Rattle.dl_stretch.specs.declared.run.Run.{Run}
use Rattle.dl_stretch.specs.ToldUnits.{file_of}
use Rattle.dl_making.specs.Few.{AddsFew, unit_text}
use Rattle.dl_making.specs.Numbers.{AreSeen, IsNumbered}
use Rattle.dl_making.proofs.numbers.numbers_of.Given as goal

abbrev pub invariant-loop-run : goal.invariant-loop-run
invariant-loop-run g l = record {
  len : length l.numbers.items ≡ l.end + 1;
  small : All (λ n. n < 2 ^ 63) l.numbers.items;
  seen : AreSeen l.unit (named_files l.names) l.numbers.items;
  numbered : All (λ (run : Run). IsNumbered l.unit (named_files l.names) l.numbers.items (file_of run)) (take l.run-index l.runs);
  few : AddsFew (3 * l.run-index) l.run-index (unit_text l.unit) l.fn.names l.names;
  grows : Grows (named_files l.fn.names) (named_files l.names);
}
