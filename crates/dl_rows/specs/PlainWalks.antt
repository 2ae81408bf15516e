-- What a reader in a plain run stands for. No promise rests on this file.
use Rattle.std.specs.Prelude.{◌≡◌, ◌≤◌, ℕ, true, false, Bool, List, [], Option}
use Rattle.dl_num.specs.declared.fixed.Order.{Order}
use Rattle.dl_num.specs.Laws.{AllBytes}
use Rattle.dl_field.specs.declared.params.Params.{Params}
use Rattle.dl_field.specs.HeaderData.{HeaderData}
use Rattle.dl_rows.specs.declared.operation.Operation.{Operation}
use Rattle.dl_rows.specs.declared.operation.Operation.TheVariants as op
use Rattle.dl_rows.specs.declared.plain_run.PlainRun.{PlainRun}
use Rattle.dl_rows.specs.declared.program.Program.{Program}
use Rattle.dl_rows.specs.declared.program.plain.PlainWalk.{PlainWalk}
use Rattle.dl_rows.specs.declared.row.Row.{Row}
use Rattle.dl_rows.specs.Plain.{Along, IsPlain, IsPlainRun, PlainOne, along_with, items_of_plain}
use Rattle.dl_rows.specs.Programs.{Finishing, ProgramStands, Telling}
use Rattle.dl_rows.specs.Sinks.{Story}
use Rattle.dl_rows.specs.Sums.{FitsProgram, HasRange}

-- it appends a row and ends no sequence
abbrev pub is_row : Operation → Bool
is_row (op.Special b) = true
is_row op.Copy = true
is_row o = false

-- it moves the address on, and appends no row
abbrev pub is_move : Operation → Bool
is_move (op.AdvancePc n) = true
is_move op.ConstAddPc = true
is_move o = false

-- it neither moves the address, sets the file nor appends a row
abbrev pub is_still : Operation → Bool
is_still (op.AdvanceLine i) = true
is_still (op.SetColumn n) = true
is_still op.NegateStatement = true
is_still op.SetBasicBlock = true
is_still op.SetPrologueEnd = true
is_still op.SetEpilogueBegin = true
is_still (op.SetIsa n) = true
is_still (op.SetDiscriminator n) = true
is_still o = false

-- what the operations of a run have come to; files: those that rows named before the current one
abbrev pub along_of : PlainWalk → (files : List ℕ) → Along
along_of w files = record {
  address = w.program.registers.address;
  file = w.program.registers.file;
  is_named = w.is_named;
  files = files;
  count = w.rows.count;
  first = w.rows.first;
  last = w.rows.last;
  has_statement = w.rows.has_statement;
}

-- each instruction has one operation, and the smallest one few bytes
pub record MayBePlain (h : Params) : Type 0 where
  pub one : h.maximum_operations_per_instruction ≡ 1
  pub least : h.minimum_instruction_length ≤ 16

-- each instruction has one operation
pub record IsSingle (h : Params) (p : Program) : Type 0 where
  pub one : h.maximum_operations_per_instruction ≡ 1
  pub first : p.registers.op_index ≡ 0

-- an operation is taken that may follow
pub record TakesPlain (h : Params) (old : PlainWalk) (files : List ℕ) (o : Operation) (new : PlainWalk) (named : List ℕ) : Type 0 where
  pub made : Option Row
  pub phase : new.program.phase ≡ old.program.phase
  pub begun : new.program.begun ≡ old.program.begun
  pub finishes : Finishing h old.program o made new.program
  pub single : IsSingle h old.program → IsSingle h new.program
  pub plain : HasRange o → IsSingle h old.program → IsPlain h (along_of old files) o made
  pub along : HasRange o → IsSingle h old.program → along_of new named ≡ along_with h (along_of old files) o made

-- what is told of the operations of a run
abbrev pub plain_story : HeaderData → Story (List PlainOne)
plain_story header = record {
  hears = λ ss items. items ≡ items_of_plain header ss;
  stops = λ ss items. ⊥;
}

-- the run of some operations at the front of these bytes, after b
pub record IsRunAt (order : Order) (h : Params) (header : HeaderData) (b bytes : List ℕ) (new : Program) (run : PlainRun)
    (rest : List ℕ) : Type 0 where
  pub ones : List PlainOne
  pub is : IsPlainRun h run ones
  pub told : Telling (plain_story header) order h header b bytes [] new rest ones

-- it was taken, and the program goes on after it
pub record IsTakenRun (order : Order) (h : Params) (bytes : List ℕ) (old new : Program) (rest : List ℕ) (run : PlainRun) : Type 0 where
  pub phase : new.phase ≡ old.phase
  pub begun : new.begun ≡ old.begun
  pub at : (b : List ℕ) (header : HeaderData) → FitsProgram h → AllBytes bytes → ProgramStands order h old b
      → IsRunAt order h header b bytes new run rest
