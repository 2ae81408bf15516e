-- Columns, bits and tables of an index, read at a place.
use Rattle.std.proofs.Common.{◌≡◌, ℕ, zero, suc, ◌+◌, ◌*◌, ◌/◌, ◌%◌, ◌<◌, ◌≤◌, ◌^◌, Bool, true, false, List, [], ◌∷◌, ◌++◌, length, take, drop, get_or}
use Rattle.std.proofs.Common.{Option, None, Some, refl, ap, ◌∙◌, arith}
use Rattle.std.specs.Prelude.{if◌then◌else◌, slice_index}
use Rattle.std.proofs.lemmas.List.{get_or-map, length-map}
use Rattle.std.proofs.lemmas.List.FromFn.{get_or-map-range_with_len}
use Rattle.dl_num.specs.Fixed.{little}
use Rattle.dl_num.specs.declared.fixed.Order.TheVariants.{Little}
use Rattle.dl_num.proofs.FixedLaws.{fixed_reads_back}
use Rattle.dl_index.specs.Columns.{number_at}
use Rattle.dl_index.specs.Layout.{field}
use Rattle.dl_stretch.specs.declared.told.Told.{Told}
use Rattle.dl_stretch.specs.declared.stretch.Stretch.{Stretch}
use Rattle.dl_pack.specs.declared.names.FileTexts.{FileTexts}
use Rattle.dl_pack.specs.declared.columns.Column.{Column}
use Rattle.dl_pack.specs.Columns.{column_of, number_of, greatest, width_by, part_by, told_bit, bit_at, byte_at, statement_bytes}
use Rattle.dl_pack.specs.Tables.{no_file, file_bytes, file_table, text_number}
use Rattle.dl_pack.proofs.ItemLemmas.{drop_sum, items_from, number_in_column}
use Rattle.dl_pack.proofs.WidthLemmas.{number_fits}
use Rattle.dl_pack.proofs.FoundLemmas.{number_upto}
use Rattle.dl_pack.proofs.BitLemmas.{bit_of_byte}

abbrev pub no_stretch : Stretch
no_stretch = record { start = 0; told = None }

-- the number of stretch k in a column
pub column_read : (base : ℕ) (order : List ℕ) (stretches : List Stretch) (kind : Column) (k : ℕ) → k < length stretches
    → greatest (column_of base order kind stretches) < 2 ^ 64
    → number_at (width_by base order stretches kind) (part_by base order stretches kind) k
    ≡ number_of base order kind (get_or stretches k no_stretch)
column_read base order stretches kind k lt small =
    let numbers : List ℕ = column_of base order kind stretches in
    number_in_column (width_by base order stretches kind) numbers k
    (omega (arith, length-map stretches (number_of base order kind))) (number_fits numbers k small)
    ∙ get_or-map (number_of base order kind) stretches k no_stretch 0 lt

-- ---- bits

bit_cases : (b : Bool) → (if b then 1 else 0) ≤ 1
bit_cases true = omega arith
bit_cases false = omega arith

told_small : (told : Option Told) → told_bit told ≤ 1
told_small None = omega arith
told_small (Some t) = bit_cases t.is_stmt

bit_small : (stretches : List Stretch) (i : ℕ) → bit_at stretches i ≤ 1
bit_small [] i = omega arith
bit_small (s ∷ stretches) zero = told_small s.told
bit_small (s ∷ stretches) (suc i) = bit_small stretches i

bit_told : (stretches : List Stretch) (k : ℕ) → k < length stretches
    → bit_at stretches k ≡ told_bit (get_or stretches k no_stretch).told
bit_told [] k lt = absurd (omega arith)
bit_told (s ∷ stretches) zero lt = refl
bit_told (s ∷ stretches) (suc k) lt = bit_told stretches k (omega arith)

pub bit_read : (stretches : List Stretch) (k : ℕ) → k < length stretches
    → slice_index (statement_bytes stretches) (k / 8) / 2 ^ (k % 8) % 2 ≡ told_bit (get_or stretches k no_stretch).told
bit_read stretches k lt =
    let e : k / 8 * 8 + k % 8 ≡ k = omega arith in
    ap (λ n. n / 2 ^ (k % 8) % 2)
    (get_or-map-range_with_len (byte_at stretches) 0 ((length stretches + 7) / 8) (k / 8) (k / 8) 0 (omega arith) (omega arith))
    ∙ bit_of_byte (bit_at stretches) (bit_small stretches) (k / 8) (k % 8) (omega arith)
    ∙ ap (bit_at stretches) e ∙ bit_told stretches k lt

-- ---- files

-- file f of a table
abbrev pub file_in_order : List FileTexts → List ℕ → ℕ → FileTexts
file_in_order files order f = get_or files (get_or order f 0) no_file

file_from : (files : List FileTexts) (order texts_first : List ℕ) (f : ℕ) → f < length order
    → drop (f * 24) (file_table files order texts_first)
    ≡ file_bytes texts_first (file_in_order files order f) ++ file_table files (drop (suc f) order) texts_first
file_from files order texts_first f lt =
    items_from (λ place. file_bytes texts_first (get_or files place no_file)) 24 (λ place. refl) order f 0 lt

pub unit_read : (files : List FileTexts) (order texts_first : List ℕ) (f : ℕ) → f < length order
    → (file_in_order files order f).unit < 2 ^ 64
    → field (f * 24) 8 (file_table files order texts_first) ≡ (file_in_order files order f).unit
unit_read files order texts_first f lt small =
    ap (λ b. little (take 8 b)) (file_from files order texts_first f lt)
    ∙ fixed_reads_back Little 8 (file_in_order files order f).unit small

pub text_upto : (order : List ℕ) (n : ℕ) → text_number order n ≤ length order
text_upto order zero = omega arith
text_upto order (suc n) = number_upto order n

-- the number of text i of three, whose bytes stand behind `from` others
text_from : (files : List FileTexts) (order texts_first : List ℕ) (f from place n : ℕ) → f < length order
    → length texts_first < 2 ^ 32 → place ≡ f * 24 + from
    → ((rest : List ℕ) → little (take 4 (drop from (file_bytes texts_first (file_in_order files order f) ++ rest)))
    ≡ text_number texts_first n)
    → field place 4 (file_table files order texts_first) ≡ text_number texts_first n
text_from files order texts_first f from place n lt few at is =
    ap (λ p. field p 4 (file_table files order texts_first)) at
    ∙ ap (λ b. little (take 4 b))
    (drop_sum (f * 24) from (file_table files order texts_first) ∙ ap (drop from) (file_from files order texts_first f lt))
    ∙ is (file_table files (drop (suc f) order) texts_first)

text_back : (order : List ℕ) (n : ℕ) → length order < 2 ^ 32 → text_number order n < 2 ^ 32
text_back order n few = omega (arith, text_upto order n)

-- text number i of file f is that of its text i
pub text_read : (files : List FileTexts) (order texts_first : List ℕ) (f i : ℕ) → f < length order → i < 3
    → length texts_first < 2 ^ 32
    → field (f * 24 + 8 + i * 4) 4 (file_table files order texts_first)
    ≡ text_number texts_first (get_or (file_in_order files order f).texts i 0)
text_read files order texts_first f zero lt less few =
    let n : ℕ = get_or (file_in_order files order f).texts 0 0 in
    text_from files order texts_first f 8 (f * 24 + 8 + 0 * 4) n lt few (omega arith)
    (λ rest. fixed_reads_back Little 4 (text_number texts_first n) (text_back texts_first n few))
text_read files order texts_first f (suc zero) lt less few =
    let n : ℕ = get_or (file_in_order files order f).texts 1 0 in
    text_from files order texts_first f 12 (f * 24 + 8 + 1 * 4) n lt few (omega arith)
    (λ rest. fixed_reads_back Little 4 (text_number texts_first n) (text_back texts_first n few))
text_read files order texts_first f (suc (suc zero)) lt less few =
    let n : ℕ = get_or (file_in_order files order f).texts 2 0 in
    text_from files order texts_first f 16 (f * 24 + 8 + 2 * 4) n lt few (omega arith)
    (λ rest. fixed_reads_back Little 4 (text_number texts_first n) (text_back texts_first n few))
text_read files order texts_first f (suc (suc (suc i))) lt less few = absurd (omega arith)
