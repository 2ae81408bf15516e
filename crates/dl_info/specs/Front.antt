-- Fields at the front of bytes: each is a value and the bytes after it, or why it can't be read. DWARF 5, sections 7.4,
-- 7.5.5 and 7.6. b: bytes.
use Rattle.std.specs.Prelude.{ℕ, ◌+◌, ◌-◌, ◌^◌, nat_lt, if◌then◌else◌, List, length, take, drop, Option, Some, None}
use Rattle.std.specs.Prelude.{Result, Ok, Err}
use Rattle.dl_num.specs.declared.fixed.Order.{Order}
use Rattle.dl_num.specs.Fixed.{fixed}
use Rattle.dl_num.specs.Leb.{groups}
use Rattle.dl_num.specs.LebFront.{is_leb, leb_front, after_leb}
use Rattle.dl_table.specs.Text.{text_in}
use Rattle.dl_info.specs.declared.front.FieldFault.{FieldFault}
use Rattle.dl_info.specs.declared.front.FieldFault.TheVariants.{Short, Damaged}

-- a value that is read, and then another one
infixl 10 ◌>>=◌
abbrev pub ◌>>=◌ : {A B : Type 0} → Result A FieldFault → (A → Result B FieldFault) → Result B FieldFault
(Ok x) >>= f = f x
(Err s) >>= f = Err s

-- an answer, where its value is seen in another way
abbrev pub seen : {A B : Type 0} → (A → B) → Result A FieldFault → Result B FieldFault
seen view (Ok x) = Ok (view x)
seen view (Err s) = Err s

-- what is there, and else damage
abbrev pub or_damaged : {A : Type 0} → Option A → Result A FieldFault
or_damaged (Some a) = Ok a
or_damaged None = Err Damaged

-- n bytes
abbrev pub bytes_at : ℕ → List ℕ → Result (List ℕ × List ℕ) FieldFault
bytes_at n b = if nat_lt (length b) n then Err (Short (n - length b)) else Ok (take n b, drop n b)

-- a number of n bytes
unfoldable pub fixed_at : Order → ℕ → List ℕ → Result (ℕ × List ℕ) FieldFault
fixed_at order n b = do
  w ← bytes_at n b
  Ok (fixed order w.0, w.1)

-- the bytes of a number in LEB128
abbrev pub leb_at : List ℕ → Result (List ℕ × List ℕ) FieldFault
leb_at b = if is_leb (leb_front b) then Ok (leb_front b, after_leb b) else Err (Short 1)

-- an unsigned number in LEB128, below 2^64
unfoldable pub uleb_at : List ℕ → Result (ℕ × List ℕ) FieldFault
uleb_at b = do
  w ← leb_at b
  if nat_lt (groups w.0) (2 ^ 64) then Ok (groups w.0, w.1) else Err Damaged

abbrev pub text_and_rest : List ℕ → Option (List ℕ) → Result (List ℕ × List ℕ) FieldFault
text_and_rest b (Some text) = Ok (text, drop (length text + 1) b)
text_and_rest b None = Err (Short 1)

-- a text without its zero byte
abbrev pub text_at : List ℕ → Result (List ℕ × List ℕ) FieldFault
text_at b = text_and_rest b (text_in b)
