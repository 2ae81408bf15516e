-- What bytes of a header come to that are offered at once. DWARF 5, section 6.2.4.
use Rattle.std.specs.Prelude.{◌≡◌, ◌<◌, ◌≤◌, ℕ, List, ◌∷◌, ◌++◌, length, take, drop}
use Rattle.dl_head.specs.declared.dialect.Dialect.{Dialect}
use Rattle.dl_head.specs.declared.reader.HeadStep.{HeadStep}
use Rattle.dl_head.specs.declared.reader.HeadStep.TheVariants as answer
use Rattle.dl_head.specs.declared.reader.HeadReader.{HeadReader}
use Rattle.dl_head.specs.Standing.{StandsFor}
use Rattle.dl_head.specs.Reading.{Answers, RefusesCell}
use Rattle.dl_head.specs.Turns.{Answer}

-- what the bytes taken come to, where an answer was given; want of memory ends nothing
abbrev pub so_far : HeadStep → HeadStep
so_far answer.NoMemory = answer.More
so_far last = last

-- after b the first used of some bytes were taken, and the last answer was this
pub record Took (dialect : Dialect) (b bytes : List ℕ) (used : ℕ) (last : HeadStep) : Type 0 where
  pub within : used ≤ length bytes
  pub answers : Answers dialect (b ++ take used bytes) (so_far last)
  -- no shorter front of them came to anything
  pub before : (i : ℕ) → i < used → Answers dialect (b ++ take i bytes) answer.More
  -- memory was refused before a byte that adds a cell
  pub unfed : last ≡ answer.NoMemory → (byte : ℕ) × (later : List ℕ) × (drop used bytes ≡ byte ∷ later)
      × RefusesCell dialect (b ++ take used bytes) byte

-- what a piece may be answered after b
pub record Answered (dialect : Dialect) (b piece : List ℕ) (a : Answer HeadStep) : Type 0 where
  pub took : Took dialect b piece a.used a.gave
  -- the header goes on only after the whole piece
  pub whole : a.gave ≡ answer.More → a.used ≡ length piece

-- bytes offered at once
pub record Offered (dialect : Dialect) (b piece : List ℕ) (used : ℕ) (last : HeadStep) (new : HeadReader) : Type 0 where
  pub answered : Answered dialect b piece (record { used = used; gave = last })
  pub stands : StandsFor new (b ++ take used piece)
