-- What a reader of headers answers, by the bytes that it has taken. DWARF 5, section 6.2.4.
use Rattle.std.specs.Prelude.{◌≡◌, ◌≢◌, ◌<◌, ℕ, List, [], ◌∷◌, ◌++◌, Option, Some, None}
use Rattle.dl_memory.specs.Refusals.{SystemRefuses, WasRefused}
use Rattle.dl_head.specs.declared.dialect.Dialect.{Dialect}
use Rattle.dl_table.specs.declared.fault.FaultKind.{FaultKind}
use Rattle.dl_head.specs.declared.reader.HeadStep.{HeadStep}
use Rattle.dl_head.specs.declared.reader.HeadStep.TheVariants as answer
use Rattle.dl_head.specs.declared.reader.HeadReader.{HeadReader}
use Rattle.dl_field.specs.HeaderData.{HeaderData}
use Rattle.dl_head.specs.declared.header.HeaderLengths.{HeaderLengths}
use Rattle.dl_head.specs.Header.{IsHeader, foreign_in, lengths_in}
use Rattle.dl_head.specs.Refusal.{HeaderRefused}
use Rattle.dl_head.specs.Cells.{cells}
use Rattle.dl_head.specs.Standing.{StandsFor}

-- what b comes to, where no shorter front of it is refused
abbrev pub Answers : Dialect → List ℕ → HeadStep → Type 0
Answers dialect b answer.Done = (h : HeaderData) × IsHeader dialect h b
Answers dialect b (answer.Foreign version) = foreign_in dialect b ≡ Some version
Answers dialect b (answer.Fault f) = HeaderRefused dialect b f.offset f.kind
Answers dialect b answer.More =
    ((h : HeaderData) → IsHeader dialect h b → ⊥) × (foreign_in dialect b ≡ None)
    × ((at : ℕ) (kind : FaultKind) → HeaderRefused dialect b at kind → ⊥)
Answers dialect b answer.NoMemory = ⊥

-- the byte after b makes a header hold a cell more, and the system refused memory
abbrev pub RefusesCell : Dialect → List ℕ → ℕ → Type 0
RefusesCell dialect b byte = (cells dialect b < cells dialect (b ++ byte ∷ [])) × WasRefused SystemRefuses

-- a step of a reader that has taken b
pub record Steps (dialect : Dialect) (b : List ℕ) (byte : ℕ) (result : HeadStep) (new : HeadReader) : Type 0 where
  -- once b has come to something, the answer stays the same, and the byte isn't taken
  pub ended : (r : HeadStep) → Answers dialect b r → r ≢ answer.More → (result ≡ r) × StandsFor new b
  -- where memory is refused, the byte isn't taken
  pub unfed : result ≡ answer.NoMemory → RefusesCell dialect b byte × StandsFor new b
  -- else the byte is taken, and the answer is what the bytes then come to
  pub taken : Answers dialect b answer.More → result ≢ answer.NoMemory
      → Answers dialect (b ++ byte ∷ []) result × StandsFor new (b ++ byte ∷ [])

-- the header that a reader gives, some exactly where the bytes taken are one
abbrev pub Gives : Dialect → HeadReader → Option HeaderData → Type 0
Gives dialect r (Some h) = (b : List ℕ) → StandsFor r b → IsHeader dialect h b
Gives dialect r None = (b : List ℕ) → StandsFor r b → (h : HeaderData) → IsHeader dialect h b → ⊥

-- how long the header that it has read, and its unit, are; some exactly where the bytes taken are one
abbrev pub GivesLengths : Dialect → HeadReader → Option HeaderLengths → Type 0
GivesLengths dialect r (Some lengths) = (b : List ℕ) → StandsFor r b
    → (h : HeaderData) × IsHeader dialect h b × (lengths ≡ lengths_in dialect b h)
GivesLengths dialect r None = (b : List ℕ) → StandsFor r b → (h : HeaderData) → IsHeader dialect h b → ⊥

-- Law: bytes come to one thing alone.
abbrev pub OneAnswer : Type 0
OneAnswer = (dialect : Dialect) (b : List ℕ) (p q : HeadStep) → Answers dialect b p → Answers dialect b q → p ≡ q
