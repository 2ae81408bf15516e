-- What was printed, and how much of it a writer holds.
use Rattle.std.specs.Prelude.{◌≡◌, ℕ, ◌+◌, ◌^◌, ◌<◌, ◌≤◌, List, ◌++◌, length, take, drop, Option, Result, IfErr, MatchResult}
use Rattle.std.specs.Io.KnownBytes.{Appends}
use Rattle.dl_print.specs.Printed.{Printed}
use Rattle.dl_print.specs.declared.fault.WriteFault.{WriteFault}

-- of the text the first `out` bytes are out, on top of what the writer held at the start
pub record HasOut (start now : Option (List ℕ)) (text : List ℕ) (out : ℕ) : Type 0 where
  pub within : out ≤ length text
  pub written : Appends start now (take out text)

-- the text was printed: its first bytes are out, and the others are held
pub record HasPrinted (start now : Option (List ℕ)) (text : List ℕ) (p : Printed) : Type 0 where
  pub first : HasOut start now text p.out
  pub rest : drop p.out text ≡ p.pending

-- not all of the text is out, and the fault tells how much is
abbrev pub TellsOut : (start now : Option (List ℕ)) (text : List ℕ) → WriteFault → Type 0
TellsOut start now text fault = (fault.out < length text) × HasOut start now text fault.out

-- Below, `old` and `new` are what the writer held before a call and holds after it.

-- After whatever text was printed before, `more` is printed.
abbrev pub PrintsMore : (old new : Option (List ℕ)) (before after : Printed) (more : List ℕ) → Type 0
PrintsMore old new before after more =
    (start : Option (List ℕ)) (text : List ℕ) → HasPrinted start old text before
    → HasPrinted start new (text ++ more) after

-- What was printed before stays printed; or a write failed.
abbrev pub Flushes : {A : Type 0} (old new : Option (List ℕ)) (before after : Printed) → Result A WriteFault → Type 0
Flushes old new before after result = (start : Option (List ℕ)) (text : List ℕ) → HasPrinted start old text before
    → MatchResult result (λ _. HasPrinted start new text after) (λ f. TellsOut start new text f)

-- After whatever text was printed before, `more` is printed; or a write failed.
abbrev pub Prints : {A : Type 0} (old new : Option (List ℕ)) (before after : Printed) (more : List ℕ)
    → Result A WriteFault → Type 0
Prints old new before after more result = (start : Option (List ℕ)) (text : List ℕ) → HasPrinted start old text before
    → MatchResult result (λ _. HasPrinted start new (text ++ more) after) (λ f. TellsOut start new (text ++ more) f)

-- how many bytes were printed
abbrev pub printed_len : Printed → ℕ
printed_len p = p.out + length p.pending

-- A failed write is told only where the writer fails, or where so many bytes are out that 128 bits can't count more.
abbrev pub BlamesWriter : {A : Type 0} → (fails : Type 0) → Result A WriteFault → Type 0
BlamesWriter fails result = IfErr result (λ fault. fault.out + 2 ^ 64 < 2 ^ 128 → fails)
