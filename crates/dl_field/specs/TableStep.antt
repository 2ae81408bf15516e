-- What the phases of the reader of a table say of its vectors. No promise rests on how this is said.
use Rattle.std.specs.Prelude.{ℕ, ◌+◌, max}
use Rattle.dl_field.specs.declared.table_reader.TablePhase.{TablePhase}
use Rattle.dl_field.specs.declared.table_reader.TablePhase.TheVariants as phase
use Rattle.dl_field.specs.declared.value_phase.ValuePhase.{ValuePhase}
use Rattle.dl_field.specs.declared.value_phase.ValuePhase.TheVariants as value

-- where the current text begins in the pool
abbrev pub value_start : ValuePhase → ℕ
value_start (value.Text start) = start
value_start v = 0

-- how many bytes of the pool are those of complete values, where it has n
abbrev pub value_filled : ValuePhase → ℕ → ℕ
value_filled (value.Text start) n = start
value_filled v n = n

-- how many bytes of the current block are to come
abbrev pub value_due : ValuePhase → ℕ
value_due (value.Block left) = left
value_due v = 0

-- how many pairs are to come at most
abbrev pub pairs_due : TablePhase → ℕ
pairs_due phase.PairCount = 255
pairs_due (phase.ContentCode left code) = max 1 left
pairs_due (phase.FormCode left content code) = max 1 left
pairs_due p = 0

-- one more than the column of the current value
abbrev pub row_end : TablePhase → ℕ
row_end (phase.Value at v) = at.column + 1
row_end p = 0

abbrev pub text_start : TablePhase → ℕ
text_start (phase.Value at v) = value_start v
text_start p = 0

abbrev pub bytes_due : TablePhase → ℕ
bytes_due (phase.Value at v) = value_due v
bytes_due p = 0
