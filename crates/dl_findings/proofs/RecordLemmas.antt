-- Numbers of eight bytes each, one after the other.
use Rattle.std.proofs.Common.{◌≡◌, ◌∙◌, ℕ, ◌+◌, ◌*◌, ◌<◌, ◌≤◌, List, [], ◌∷◌, ◌++◌, ap, arith, drop, length, length-append, refl, sym}
use Rattle.std.proofs.Common.{Option, Some, None}
use Rattle.std.specs.Int.{w64, to_le_bytes}
use Rattle.std.specs.Prelude.{slice_index_or}
use Rattle.std.proofs.Math.ListN.{drop_of_length-le}
use Rattle.std.proofs.lemmas.Grind.{flat_map-append}
use Rattle.std.proofs.lemmas.List.{drop_more}
use Rattle.dl_findings.specs.declared.finding.Finding.{Finding}
use Rattle.dl_findings.specs.declared.finding.Found.{Found}
use Rattle.dl_findings.specs.declared.finding.Found.TheVariants as found
use Rattle.dl_findings.specs.declared.finding.Opcode.{Opcode}
use Rattle.dl_findings.specs.declared.finding.Opcode.TheVariants as opcode
use Rattle.dl_findings.specs.declared.finding.RowSeen.{RowSeen}
use Rattle.dl_findings.specs.declared.finding.TableEntry.{TableEntry}
use Rattle.dl_findings.specs.declared.finding.TableEntry.TheVariants as entry
use Rattle.dl_findings.specs.declared.finding.TextSection.{TextSection}
use Rattle.dl_findings.specs.FindingRecord.{eight_bytes_each, finding_record, found_numbers, missing_numbers, opcode_numbers}
use Rattle.dl_findings.specs.FindingRecord.{record_numbers, row_numbers}

-- the next number, whose bytes are these
pub next_bytes : (numbers : List ℕ) (i d : ℕ) (bytes : List ℕ) → i < length numbers
    → bytes ≡ to_le_bytes w64 (slice_index_or numbers i d)
    → eight_bytes_each (drop i numbers) ≡ bytes ++ eight_bytes_each (drop (i + 1) numbers)
next_bytes numbers i d bytes within is =
    ap eight_bytes_each (drop_more numbers i d within)
    ∙ ap (λ (l : List ℕ). l ++ eight_bytes_each (drop (i + 1) numbers)) (sym is)

pub no_bytes : (numbers : List ℕ) (i : ℕ) → length numbers ≤ i → eight_bytes_each (drop i numbers) ≡ []
no_bytes numbers i over = ap eight_bytes_each (drop_of_length-le numbers over)

-- three lists, one after the other
pub three_parts : (a b c : List ℕ)
    → eight_bytes_each a ++ (eight_bytes_each b ++ eight_bytes_each c) ≡ eight_bytes_each (a ++ (b ++ c))
three_parts a b c =
    ap (λ (l : List ℕ). eight_bytes_each a ++ l) (sym (flat_map-append (to_le_bytes w64) b c))
    ∙ sym (flat_map-append (to_le_bytes w64) a (b ++ c))

-- ---- how long a record is

bytes_len : (numbers : List ℕ) → length (eight_bytes_each numbers) ≡ length numbers * 8
bytes_len [] = refl
bytes_len (n ∷ numbers) =
    omega (arith, length-append (to_le_bytes w64 n) (eight_bytes_each numbers), bytes_len numbers, number_len n)
  where
    number_len : (m : ℕ) → length (to_le_bytes w64 m) ≡ 8
    number_len m = refl

row_len : (row : Option RowSeen) → length (row_numbers row) ≡ 3
row_len None = refl
row_len (Some row) = refl

missing_len : (e : TableEntry) (section : TextSection) (offset : ℕ) → length (missing_numbers e section offset) ≡ 4
missing_len (entry.Directory n) section offset = refl
missing_len (entry.File n) section offset = refl

opcode_len : (o : Opcode) → length (opcode_numbers o) ≡ 4
opcode_len (opcode.Standard b) = refl
opcode_len (opcode.Extended b) = refl

found_len : (f : Found) → length (found_numbers f) ≡ 4
found_len (found.FileIndex file files first) = refl
found_len (found.DirectoryIndex file directory directories first) = refl
found_len (found.FallingPlace before) = refl
found_len found.NoEnd = refl
found_len found.EmptySequence = refl
found_len (found.Overlap place unit) = refl
found_len (found.DeadSequence sequences first) = refl
found_len (found.MissingText e section offset) = missing_len e section offset
found_len (found.DuplicateFile file same_as) = refl
found_len (found.UnusedFile files first) = refl
found_len (found.Md5Missing files first) = refl
found_len (found.LongNumber bytes) = refl
found_len (found.Padding bytes) = refl
found_len (found.WrappedAddress from size) = refl
found_len (found.LineWrapped line) = refl
found_len found.NoStatement = refl
found_len (found.SplitInstruction first least) = refl
found_len (found.UnknownOpcode o) = opcode_len o
found_len (found.UnknownContent code) = refl
found_len (found.NoCode start size) = refl

numbers_len : (f : Finding) → length (record_numbers f) ≡ 9
numbers_len f =
    omega (arith, length-append (row_numbers f.row) (found_numbers f.found), row_len f.row, found_len f.found)

pub record_len : (f : Finding) → length (finding_record f) ≡ 72
record_len f = bytes_len (record_numbers f) ∙ ap (λ (n : ℕ). n * 8) (numbers_len f)
