-- Operations one after the other that lead the registers on plainly, with the rows that they append, and what these come to. DWARF
-- 5, sections 6.2.2 and 6.2.5.1 to 6.2.5.3.
use Rattle.std.specs.Prelude.{⊤, ◌≡◌, ℕ, ◌+◌, ◌*◌, ◌^◌, ◌<◌, ◌≤◌, ◌==◌, ◌||◌, Bool, true, false, List, [], ◌∷◌, ◌++◌, flat_map, length, map}
use Rattle.std.specs.Prelude.{MatchOption, Option, None, Some, option_to_list, if◌then◌else◌}
use Rattle.dl_field.specs.declared.params.Params.{Params}
use Rattle.dl_field.specs.HeaderData.{HeaderData}
use Rattle.dl_rows.specs.declared.operation.Operation.{Operation}
use Rattle.dl_rows.specs.declared.operation.Operation.TheVariants as op
use Rattle.dl_rows.specs.declared.plain_run.PlainRun.{PlainRun}
use Rattle.dl_rows.specs.declared.row.Row.{Row}
use Rattle.dl_rows.specs.Items.{Item, a_byte, a_row, an_operation}
use Rattle.dl_rows.specs.Matrix.{advance, appends_row}

-- an operation, the bytes that spell it, and the row that it appends
pub record PlainOne : Type 0 where
  pub bytes : List ℕ
  pub operation : Operation
  pub row : Option Row

-- what operations come to: the registers address and file after them, and the rows that they append
pub record Along : Type 0 where
  pub address : ℕ
  pub file : ℕ
  -- a row has named the file
  pub is_named : Bool
  -- the files that rows named before it
  pub files : List ℕ
  pub count : ℕ
  -- the addresses of the first row and of the last, where there are any
  pub first : ℕ
  pub last : ℕ
  pub has_statement : Bool

-- before the first
abbrev pub along_from : (address file : ℕ) → Along
along_from address file = record {
  address = address;
  file = file;
  is_named = false;
  files = [];
  count = 0;
  first = 0;
  last = 0;
  has_statement = false;
}

-- all files that rows name
abbrev pub files_of : Along → List ℕ
files_of p = if p.is_named then p.files ++ p.file ∷ [] else p.files

-- ---- one more

-- where it leads the address: one operation to an instruction
abbrev pub led : Params → ℕ → Operation → ℕ
led h a (op.SetAddress n) = n
led h a o = a + h.minimum_instruction_length * advance h o

abbrev pub with_file : Operation → Along → Along
with_file (op.SetFile n) p = record p { file = n; is_named = false; files = files_of p }
with_file o p = p

abbrev pub with_row : Option Row → Along → Along
with_row None p = p
with_row (Some r) p = record p {
  is_named = true;
  count = p.count + 1;
  first = if p.count == 0 then r.address else p.first;
  last = r.address;
  has_statement = p.has_statement || r.is_stmt;
}

abbrev pub along_with : Params → Along → Operation → Option Row → Along
along_with h p o row = with_row row (with_file o (record p { address = led h p.address o }))

-- ---- which may follow

-- it neither moves the address nor appends a row
abbrev pub is_quiet : Operation → Bool
is_quiet (op.AdvanceLine i) = true
is_quiet (op.SetFile n) = true
is_quiet (op.SetColumn n) = true
is_quiet op.NegateStatement = true
is_quiet op.SetBasicBlock = true
is_quiet op.SetPrologueEnd = true
is_quiet op.SetEpilogueBegin = true
is_quiet (op.SetIsa n) = true
is_quiet (op.SetDiscriminator n) = true
is_quiet other = false

-- it may be one of them, by itself; count: of the rows before it
abbrev pub is_plain : (count : ℕ) → Operation → Bool
is_plain count (op.SetAddress n) = count == 0
is_plain count op.EndSequence = false
is_plain count (op.FixedAdvancePc n) = false
is_plain count op.Skipped = false
is_plain count o = true

-- a row at this address that names this file, whose line fits in 32 bits
pub record IsPlainRow (at named : ℕ) (r : Row) : Type 0 where
  pub address : r.address ≡ at
  pub op_index : r.op_index ≡ 0
  pub file : r.file ≡ named
  pub line : r.line < 2 ^ 32
  pub within : r.end_sequence ≡ false

-- it may follow these
pub record IsPlain (h : Params) (p : Along) (o : Operation) (made : Option Row) : Type 0 where
  pub plain : is_plain p.count o ≡ true
  pub fits : is_quiet o ≡ false → led h p.address o < 2 ^ (8 * h.address_size)
  pub row : MatchOption made (appends_row o ≡ false)
      (λ r. (appends_row o ≡ true) × IsPlainRow (led h p.address o) p.file r)

-- ---- runs of them

abbrev pub along : Params → Along → List PlainOne → Along
along h p [] = p
along h p (s ∷ ss) = along h (along_with h p s.operation s.row) ss

-- each follows those before it, and has few bytes
abbrev pub ArePlain : Params → Along → List PlainOne → Type 0
ArePlain h p [] = ⊤
ArePlain h p (s ∷ ss) =
    IsPlain h p s.operation s.row × (length s.bytes ≤ 11) × ArePlain h (along_with h p s.operation s.row) ss

-- how many bytes the last one has
abbrev pub last_length : List PlainOne → ℕ
last_length [] = 0
last_length (s ∷ []) = length s.bytes
last_length (s ∷ t ∷ ss) = last_length (t ∷ ss)

-- bytes that spell these
abbrev pub plain_bytes : List PlainOne → List ℕ
plain_bytes ss = flat_map (λ s. s.bytes) ss

-- what they come to
pub record ComesTo (run : PlainRun) (p : Along) : Type 0 where
  pub to : run.to ≡ p.address
  pub count : run.rows.count ≡ p.count
  pub first : run.rows.first ≡ p.first
  pub last : run.rows.last ≡ p.last
  pub has_statement : run.rows.has_statement ≡ p.has_statement
  pub files : run.files.now ≡ files_of p

-- a run of these
pub record IsPlainRun (h : Params) (run : PlainRun) (ss : List PlainOne) : Type 0 where
  pub file : ℕ
  pub one : h.maximum_operations_per_instruction ≡ 1
  pub bytes : run.bytes.now ≡ plain_bytes ss
  pub last_bytes : run.last_bytes ≡ last_length ss
  pub plain : ArePlain h (along_from run.from file) ss
  pub comes : ComesTo run (along h (along_from run.from file) ss)

-- what a sink is told of them
abbrev pub items_of_plain_one : HeaderData → PlainOne → List Item
items_of_plain_one header s = map a_byte s.bytes ++ an_operation header s.operation ∷ map (a_row header) (option_to_list s.row)

abbrev pub items_of_plain : HeaderData → List PlainOne → List Item
items_of_plain header ss = flat_map (items_of_plain_one header) ss
