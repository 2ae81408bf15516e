use Rattle.std.proofs.Common.{ℕ, ◌≡◌, ◌≤◌, List, length}
use Rattle.dl_num.specs.Laws.{AllBytes}
use Rattle.dl_rows.specs.Items.{Item}
use Rattle.dl_rows.specs.Programs.{ProgramStands, Telling}
use Rattle.dl_rows.specs.Sums.{FitsProgram}
use Rattle.dl_rows.proofs.program.Program.runs.Given as goal

abbrev pub invariant-loop-order : goal.invariant-loop-order
invariant-loop-order g l = record {
  between : l.self.phase ≡ l.fn.self.phase;
  begun : l.self.begun ≡ l.fn.self.begun;
  fewer : length l.bytes ≤ length l.fn.bytes;
  tells : (b : List ℕ) (before : List Item) (first : g.row.S.Denot) → FitsProgram l.fn.params → AllBytes l.fn.bytes
      → ProgramStands l.fn.order l.fn.params l.fn.self b → (g.S.OperationSink.story first).hears l.fn.sink before
      → Telling (g.S.OperationSink.story first) l.fn.order l.fn.params l.fn.header b l.fn.bytes before l.self l.bytes l.sink;
}

abbrev pub decreases-loop-order : goal.decreases-loop-order
decreases-loop-order g l = length l.bytes
