use Rattle.std.proofs.Common.{ℕ, ◌≡◌, ◌+◌, ◌-◌, ◌<◌, ◌≤◌, ◌++◌, List, length}
use Rattle.dl_num.specs.Laws.{AllBytes}
use Rattle.dl_field.specs.HeaderData.{HeaderData}
use Rattle.dl_rows.specs.Plain.{along_from}
use Rattle.dl_rows.specs.Programs.{ProgramStands}
use Rattle.dl_rows.specs.Sums.{FitsProgram}
use Rattle.dl_rows.proofs.PlainTells.{SoFar}
use Rattle.dl_rows.proofs.program.Program.plain_run.Given as goal

abbrev pub invariant-loop-operation : goal.invariant-loop-operation
invariant-loop-operation l = record {
  phase : l.walk.program.phase ≡ l.fn.self.phase;
  begun : l.walk.program.begun ≡ l.fn.self.begun;
  room : length l.files.items < 64;
  count : l.walk.rows.count + length l.rest ≤ length l.fn.bytes;
  before : length l.rest ≤ l.before_last;
  front : (front : List ℕ) × (l.fn.bytes ≡ front ++ l.rest);
  far : (b : List ℕ) (header : HeaderData) → FitsProgram l.fn.params → AllBytes l.fn.bytes
      → ProgramStands l.fn.order l.fn.params l.fn.self b
      → SoFar l.fn.order l.fn.params header b l.fn.bytes (along_from l.fn.self.registers.address l.fn.self.registers.file) l.walk l.files.items front.0
      (l.before_last - length l.rest) l.rest;
}

abbrev pub decreases-loop-operation : goal.decreases-loop-operation
decreases-loop-operation l = length l.rest
