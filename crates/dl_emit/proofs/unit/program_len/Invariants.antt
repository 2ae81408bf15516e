-- The rows so far are in range, and their bytes are counted.
use Rattle.std.proofs.Common.{◌≡◌, take, drop}
use Rattle.std.specs.List.{AllByRecursion}
use Rattle.dl_emit.specs.Laws.{IsRow}
use Rattle.dl_emit.specs.WrittenUnit.{out_of_range}
use Rattle.dl_emit.proofs.ProgramLemmas.{Counts}
use Rattle.dl_emit.proofs.unit.program_len.Given as goal

abbrev pub invariant-loop-i : goal.invariant-loop-i
invariant-loop-i l = record {
  in_range : out_of_range l.params l.i (drop l.i l.rows) ≡ out_of_range l.params 0 l.rows;
  ranged : AllByRecursion IsRow (take l.i l.rows);
  counted : Counts l.params l.rows l.len l.before (drop l.i l.rows);
}
