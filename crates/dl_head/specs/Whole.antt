-- What comes of bytes that are taken at once. No promise rests on this file.
use Rattle.std.specs.Prelude.{◌≡◌, ◌≢◌, ℕ, ◌+◌, ◌<◌, ◌≤◌, Bool, true, false, List, ◌++◌, length, take, Some, None}
use Rattle.std.specs.List.{concat}
use Rattle.dl_head.specs.declared.dialect.Dialect.{Dialect}
use Rattle.dl_field.specs.FieldRuns.{EndEach}
use Rattle.dl_field.specs.Layout.{Layout, Item, following_all}
use Rattle.dl_field.specs.declared.field_step.FieldStep.{FieldStep}
use Rattle.dl_field.specs.declared.field_step.FieldStep.TheVariants as byte_makes
use Rattle.dl_head.specs.declared.reader.HeadReader.{HeadReader}
use Rattle.dl_head.specs.declared.reader.HeadStep.{HeadStep}
use Rattle.dl_head.specs.declared.reader.HeadStep.TheVariants as answer
use Rattle.dl_head.specs.declared.reader.Phase.{Phase}
use Rattle.dl_head.specs.declared.reader.Phase.TheVariants as phase
use Rattle.dl_head.specs.Standing.{StandsFor}
use Rattle.dl_head.specs.Reading.{Answers}
use Rattle.dl_head.specs.HeaderLayout.{header_layout}
use Rattle.dl_head.specs.Place.{Past, At, BytesFollow, Keeps, held_cells}
use Rattle.dl_head.specs.Runs.{Took}

-- whether the reader is in a table
abbrev pub in_table : Phase → Bool
in_table phase.Directories = true
in_table phase.Files = true
in_table phase.OlderDirectories = true
in_table phase.OlderFiles = true
in_table p = false

-- the first bytes of a piece, which end before the end that is known
pub record IsInside (r : HeadReader) (piece bytes : List ℕ) : Type 0 where
  pub len : ℕ
  pub bytes_are : bytes ≡ take len piece
  pub below : (end : ℕ) → r.end ≡ Some end → r.taken < end → r.taken + length bytes < end

-- `up_to_end`: the first bytes of a piece, at least one, which don't go past the end that is known
pub record IsFront (r : HeadReader) (piece bytes : List ℕ) : Type 0 where
  pub len : ℕ
  pub bytes_are : bytes ≡ take len piece
  pub some : 1 ≤ length bytes
  pub within : (end : ℕ) → r.end ≡ Some end → r.taken < end → r.taken + length bytes ≤ end
  pub single : r.end ≡ None → length bytes ≡ 1

-- `push`: what the first bytes make of the field that they fall in; several end it
pub record Pushed (old : HeadReader) (bytes : List ℕ) (used : ℕ) (result : FieldStep) (new : HeadReader) : Type 0 where
  pub some : 1 ≤ used
  pub within : used ≤ length bytes
  pub one : result ≢ byte_makes.Ends → used ≡ 1
  pub follows : BytesFollow old (take used bytes) result new
  pub kept : Keeps old result new

-- `advance`: the first bytes of a piece after b are taken
pub record Advances (dialect : Dialect) (b piece : List ℕ) (used : ℕ) (last : HeadStep)
    (new : HeadReader) : Type 0 where
  pub took : Took dialect b piece used last
  pub stands : StandsFor new (b ++ take used piece)

-- no shorter front of the bytes after b comes to anything
abbrev pub Before : Dialect → (b bytes : List ℕ) → Type 0
Before dialect b bytes = (j : ℕ) → j < length bytes → Answers dialect (b ++ take j bytes) answer.More

-- the bytes after b are taken, and the header goes on after them, as after each front
pub record TakesAll (dialect : Dialect) (b bytes : List ℕ) (new : HeadReader) : Type 0 where
  pub stands : StandsFor new (b ++ bytes)
  pub goes : Answers dialect (b ++ bytes) answer.More
  pub before : Before dialect b bytes

-- the bytes are values, of the field that the reader is in and of later ones; after them it is after these fields too
pub record TakesFieldsOf (old : HeadReader) (items : List Item) (rest : List ℕ) (values : List (List ℕ))
    (new : HeadReader) : Type 0 where
  pub more : List Item
  pub left : List ℕ
  pub ends : EndEach old.dialect.order (following_all (header_layout old.dialect) items) rest values more
      (held_cells old) (held_cells new) left
  pub at : At new (items ++ more) left
  -- there are none before the tables
  pub past : 1 ≤ length values → (layout : Layout) × Past old items layout

-- `table_values`: these bytes are values of the current table, and the table goes on after them
pub record TakesValues (old : HeadReader) (bytes : List ℕ) (new : HeadReader) : Type 0 where
  pub values : List (List ℕ)
  pub bytes_are : bytes ≡ concat values
  pub each : (items : List Item) (rest : List ℕ) → At old items rest → TakesFieldsOf old items rest values new
  pub phase : new.phase ≡ old.phase
  pub end : new.end ≡ old.end
