-- How long a header is that is written; no part of it is longer in one byte order than in the other.
use Rattle.std.proofs.Common.{◌≡◌, ℕ, ◌+◌, ◌^◌, ◌≤◌, lit≤, List, [], ◌∷◌, ◌++◌, length, refl, sym, ◌∙◌, arith}
use Rattle.std.specs.List.{flat_map}
use Rattle.std.proofs.lemmas.List.{length-append}
use Rattle.dl_num.specs.declared.fixed.Order.{Order}
use Rattle.dl_num.specs.declared.fixed.Order.TheVariants.{Little}
use Rattle.dl_num.specs.Fixed.{fixed_bytes}
use Rattle.dl_num.specs.Shortest.{shortest_uleb}
use Rattle.dl_num.proofs.FixedLaws.{fixed_has_its_size}
use Rattle.dl_table.specs.declared.form.Format.{Format}
use Rattle.dl_table.specs.declared.form.Format.TheVariants.{Dwarf32, Dwarf64}
use Rattle.dl_table.specs.declared.form.Form.{Form}
use Rattle.dl_table.specs.declared.form.Form.TheVariants as form
use Rattle.dl_table.specs.declared.table.Pair.{Pair}
use Rattle.dl_table.specs.TableData.{TableData}
use Rattle.dl_field.specs.HeaderData.{HeaderData}
use Rattle.dl_table.specs.Value.{Value, line_str, str, str_sup, number, block, offset_size}
use Rattle.dl_head.specs.HeaderLayout.{fixed_part, initial_size}
use Rattle.dl_table.specs.Written.{value_bytes, pair_bytes, entry_bytes, table_bytes}
use Rattle.dl_head.specs.Written.{after_header_length, header_length_of, unit_length_of, initial_length_bytes}
use Rattle.dl_head.specs.Written.{header_bytes, written_limit}

same_size : (order : Order) (k n : ℕ) → length (fixed_bytes order k n) ≡ length (fixed_bytes Little k n)
same_size order k n = fixed_has_its_size order k n ∙ sym (fixed_has_its_size Little k n)

same_after : (order : Order) (k n : ℕ) (w : List ℕ)
    → length (fixed_bytes order k n ++ w) ≡ length (fixed_bytes Little k n ++ w)
same_after order k n w =
    omega (
      arith,
      length-append (fixed_bytes order k n) w,
      length-append (fixed_bytes Little k n) w,
      same_size order k n,
    )

pub length-value : (order : Order) (format : Format) (f : Form) (v : Value)
    → length (value_bytes order format f v) ≡ length (value_bytes Little format f v)
length-value order format form.Block2 (block w) = same_after order 2 (length w) w
length-value order format form.Block4 (block w) = same_after order 4 (length w) w
length-value order format form.Data2 (number n) = same_size order 2 n
length-value order format form.Data4 (number n) = same_size order 4 n
length-value order format form.Data8 (number n) = same_size order 8 n
length-value order format form.Block1 (block w) = same_after order 1 (length w) w
length-value order format form.Data1 (number n) = same_size order 1 n
length-value order format form.Strp (str n) = same_size order (offset_size format) n
length-value order format form.StrpSup (str_sup n) = same_size order (offset_size format) n
length-value order format form.LineStrp (line_str n) = same_size order (offset_size format) n
length-value order format f v = refl

pub length-entry : (order : Order) (format : Format) (pairs : List Pair) (values : List Value)
    → length (entry_bytes order format pairs values) ≡ length (entry_bytes Little format pairs values)
length-entry order format [] values = refl
length-entry order format (p ∷ pairs) [] = refl
length-entry order format (p ∷ pairs) (v ∷ values) =
    omega (
      arith,
      length-append (value_bytes order format p.form v) (entry_bytes order format pairs values),
      length-append (value_bytes Little format p.form v) (entry_bytes Little format pairs values),
      length-value order format p.form v,
      length-entry order format pairs values,
    )

pub length-parts : {A : Type 0} (f g : A → List ℕ) → ((a : A) → length (f a) ≡ length (g a)) → (xs : List A)
    → length (flat_map f xs) ≡ length (flat_map g xs)
length-parts f g same [] = refl
length-parts f g same (x ∷ xs) =
    omega (
      arith,
      length-append (f x) (flat_map f xs),
      length-append (g x) (flat_map g xs),
      same x,
      length-parts f g same xs,
    )

pub length-table : (order : Order) (t : TableData) → length (table_bytes order t) ≡ length (table_bytes Little t)
length-table order t =
    let before = length t.pairs ∷ flat_map pair_bytes t.pairs ++ shortest_uleb (length t.entries) in
    let entries = flat_map (entry_bytes order t.format t.pairs) t.entries in
    let little = flat_map (entry_bytes Little t.format t.pairs) t.entries in
    omega (
      arith,
      length-append before entries,
      length-append before little,
      length-parts (entry_bytes order t.format t.pairs) (entry_bytes Little t.format t.pairs)
          (length-entry order t.format t.pairs) t.entries,
    )

pub length-after : (order : Order) (h : HeaderData) → length (after_header_length order h) ≡ header_length_of h
length-after order h =
    let directories = length-table order h.directories in
    let files = length-table order h.files in
    let lengths = h.params.lengths.items in
    omega (
      arith,
      length-append (lengths ++ table_bytes order h.directories) (table_bytes order h.files),
      length-append lengths (table_bytes order h.directories),
      length-append (lengths ++ table_bytes Little h.directories) (table_bytes Little h.files),
      length-append lengths (table_bytes Little h.directories),
    )

length-initial : (order : Order) (format : Format) (n : ℕ)
    → length (initial_length_bytes order format n) ≡ initial_size format
length-initial order Dwarf32 n = fixed_has_its_size order 4 n
length-initial order Dwarf64 n =
    omega (
      arith,
      length-append (fixed_bytes order 4 0xffffffff) (fixed_bytes order 8 n),
      fixed_has_its_size order 4 0xffffffff,
      fixed_has_its_size order 8 n,
    )

length-fields : (a b c d e : List ℕ) {x y z : ℕ} → length a ≡ x → length b ≡ 2 → length c ≡ 2 → length d ≡ y
    → length e ≡ z → length (a ++ b ++ c ++ d ++ e) ≡ x + (4 + y + z)
length-fields a b c d e p q r s t =
    omega (
      arith,
      length-append (a ++ b ++ c ++ d) e,
      length-append (a ++ b ++ c) d,
      length-append (a ++ b) c,
      length-append a b,
    )

pub length-header : (order : Order) (h : HeaderData) (program_len : ℕ)
    → length (header_bytes order h program_len) ≡ initial_size h.params.format
    + (fixed_part h.params.format 5 + header_length_of h)
length-header order h program_len =
    length-fields (initial_length_bytes order h.params.format (unit_length_of h program_len)) (fixed_bytes order 2 5)
    (h.params.address_size ∷ h.params.segment_selector_size ∷ [])
    (fixed_bytes order (offset_size h.params.format) (header_length_of h)) (after_header_length order h)
    (length-initial order h.params.format (unit_length_of h program_len)) (fixed_has_its_size order 2 5) refl
    (fixed_has_its_size order (offset_size h.params.format) (header_length_of h)) (length-after order h)

pub written_limit-le : (format : Format) → written_limit format ≤ 2 ^ 40
written_limit-le Dwarf32 = lit≤ tt
written_limit-le Dwarf64 = lit≤ tt

pub initial_size-le : (format : Format) → initial_size format ≤ 12
initial_size-le Dwarf32 = lit≤ tt
initial_size-le Dwarf64 = lit≤ tt
