-- The program of the rows so far is out, but for what is held.
use Rattle.std.proofs.Common.{ℕ, List, Option, ◌≤◌, take}
use Rattle.dl_emit.specs.declared.bytes.TheConstants.{BUFFER_LEN}
use Rattle.dl_table.specs.Writing.{IsOut}
use Rattle.dl_emit.proofs.GatherLemmas.{Gone}
use Rattle.dl_emit.proofs.unit.write_program.Given as goal

abbrev pub invariant-loop-row : goal.invariant-loop-row
invariant-loop-row g l = record {
  fits : l.held ≤ BUFFER_LEN;
  gone : (start : Option (List ℕ)) (text : List ℕ)
      → IsOut start (g.W.Write.contents l.initial.output) text l.initial.out
      → Gone l.order l.params l.rows start (g.W.Write.contents l.output) text (take l.held l.buffer) l.out l.row-index
      l.before;
}
