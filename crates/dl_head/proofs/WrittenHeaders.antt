-- The bytes that are written of a header are that header. DWARF 5, section 6.2.4.
use Rattle.std.proofs.Common.{◌≡◌, ℕ, lit<, suc, ◌+◌, ◌-◌, ◌%◌, ◌^◌, ◌<◌, ◌≤◌, Bool, true, false, if◌then◌else◌, ℤ, pos}
use Rattle.std.proofs.Common.{negsuc, ◌-ℤ◌, List, [], ◌∷◌, ◌++◌, length, Option, Some, None, refl, sym, ap, subst, ◌∙◌}
use Rattle.std.proofs.Common.{arith, append_assoc}
use Rattle.std.specs.Prelude.{is_none}
use Rattle.std.specs.Int.{w8}
use Rattle.std.specs.Int.RustNames.{FitsSigned}
use Rattle.std.proofs.lemmas.List.{append-nil}
use Rattle.std.proofs.lemmas.Int.{ints}
use Rattle.std.proofs.lemmas.Bool.{leb-true, le-leb, lt-ltb, le-ltb, ne_eqb, eq-eqb}
use Rattle.dl_num.specs.declared.fixed.Order.{Order}
use Rattle.dl_head.specs.declared.dialect.Dialect.{Dialect}
use Rattle.dl_num.specs.Fixed.{fixed_bytes, is_number_size}
use Rattle.dl_num.proofs.LebFrontLemmas.{true_false}
use Rattle.dl_table.specs.declared.form.Format.{Format}
use Rattle.dl_table.specs.declared.form.Format.TheVariants.{Dwarf32, Dwarf64}
use Rattle.dl_field.specs.declared.params.Params.{Params}
use Rattle.dl_field.specs.HeaderData.{HeaderData}
use Rattle.dl_table.specs.Value.{offset_size}
use Rattle.dl_field.specs.Layout.{Layout, number_then, last_entry, number_is, length_is, following, address_size}
use Rattle.dl_field.specs.Layout.{opcode_length, header_length, objection, NumberField, number_size, table_layout}
use Rattle.dl_head.specs.HeaderLayout.{signed_byte, lengths_layout, tables_layout, from_lengths, from_files, from_end}
use Rattle.dl_head.specs.HeaderLayout.{from_minimum_length, from_header_length, from_segment_selector_size}
use Rattle.dl_head.specs.HeaderLayout.{from_address_size, format_alone, header_layout, fixed_part, initial_size}
use Rattle.dl_head.specs.Header.{Cut, header_made, unit_end, IsHeader}
use Rattle.dl_field.specs.Field.{IsInitialLength}
use Rattle.dl_table.specs.Written.{table_bytes}
use Rattle.dl_head.specs.Written.{byte_of, after_header_length, header_length_of, unit_length_of, initial_length_bytes}
use Rattle.dl_head.specs.Written.{header_bytes, written_limit, is_within_limit}
use Rattle.dl_head.specs.Built.{wrong_length}
use Rattle.dl_table.specs.Sound.{IsSoundTable}
use Rattle.dl_head.specs.Sound.{IsSoundHeader}
use Rattle.dl_head.specs.WrittenLaws.{WrittenIsHeader, WrittenHasItsLength}
use Rattle.dl_field.proofs.FieldLaws.{field_is_judged}
use Rattle.dl_head.proofs.HeaderLaws.{header_cut}
use Rattle.dl_head.proofs.HeaderSound.{Good, all_good, one_operation}
use Rattle.dl_head.proofs.OrderLemmas.{length-header}
use Rattle.dl_head.proofs.WrittenTables.{Reaches, one_more, reach_one, reach_table, fixed_byte, fixed_written}

below_zero : (m n k : ℕ) → m + suc n ≡ k → pos m -ℤ pos k ≡ negsuc n
below_zero m n k e = omega (arith, ints)

-- a signed byte is read again
signed_again : (z : ℤ) → FitsSigned w8 z → signed_byte (byte_of z) ≡ z
signed_again (pos n) fits =
    let small : n < 128 = omega (arith, ints) in
    let same : n % 256 ≡ n = omega arith in
    rw (same, lt-ltb n 128 small) refl
signed_again (negsuc n) fits =
    let small : n < 128 = omega (arith, ints) in
    let same : n % 256 ≡ n = omega arith in
    rw (same, le-ltb (255 - n) 128 (omega arith)) (below_zero (255 - n) n 256 (omega arith))

-- ---- the fields after header_length

module _ (order : Order) (h : HeaderData) where
  abbrev end : Layout
  end = last_entry h

  length_first : (b : Bool) (i : ℕ) (o : Option ℕ) → (if b then o else Some i) ≡ None → (b ≡ true) × (o ≡ None)
  length_first true i o e = (refl, e)
  length_first false i o e = absurd cc

  is_nothing : {A : Type 0} (o : Option A) → is_none o ≡ true → o ≡ None
  is_nothing None e = refl
  is_nothing (Some x) e = absurd (true_false e refl)

  reach_lengths : (opcode : ℕ) (ns before : List ℕ) (next : List ℕ → Layout) (v : List ℕ)
      → wrong_length opcode ns ≡ None → Reaches order (next (before ++ ns)) v end
      → Reaches order (lengths_layout opcode (length ns) before next) (ns ++ v) end
  reach_lengths opcode [] before next v none rest = rw (← append-nil before) rest
  reach_lengths opcode (n ∷ ns) before next v none rest =
      let t = length_first (is_none (objection (opcode_length opcode) n)) opcode (wrong_length (opcode + 1) ns) none in
      reach_one order end (lengths_layout opcode (length (n ∷ ns)) before next) (number_is n) (n ∷ []) (ns ++ v)
      (n, refl, (refl, fixed_byte order end n), is_nothing (objection (opcode_length opcode) n) t.0)
      (reach_lengths (opcode + 1) ns (before ++ n ∷ []) next v t.1 (one_more order end next before n ns v rest))

  -- a field of one byte
  reach_byte : {field : NumberField} {next : ℕ → Layout} {n : ℕ} {v : List ℕ} → number_size field ≡ Some 1
      → objection field n ≡ None → Reaches order (next n) v end → Reaches order (number_then field next) (n ∷ v) end
  reach_byte {field} {next} {n} {v} one none rest =
      reach_one order end (number_then field next) (number_is n) (n ∷ []) v
      (n, refl, rw one (refl, fixed_byte order end n), none) rest

  -- the lengths of the opcodes, and the tables
  reach_from_lengths : (p : Params) → p.version ≡ 5 → h.params.opcode_base ≡ p.opcode_base
      → Good h.params h.directories h.files → IsSoundTable h.directories → IsSoundTable h.files
      → p.format ≡ h.params.format → (record p { lengths = h.params.lengths }) ≡ h.params
      → Reaches order (from_lengths p)
      ((h.params.lengths.items ++ table_bytes order h.directories) ++ table_bytes order h.files) end
  reach_from_lengths p five base good directories files format same =
      let q : Params = record p { lengths = h.params.lengths } in
      let count : length h.params.lengths.items ≡ p.opcode_base - 1 = (let sum = good.opcodes in omega arith) in
      let bytes = table_bytes order h.directories ++ (table_bytes order h.files ++ []) in
      let last : Reaches order (from_end q h.directories h.files) [] end =
      record { items = []; spelt = refl; ends = ap (λ (r : Params). from_end r h.directories h.files) same } in
      let second = subst (λ (g : Format). Reaches order (table_layout g (from_end q h.directories))
      (table_bytes order h.files ++ []) end) (good.files ∙ sym format)
      (reach_table order end h.files (from_end q h.directories) [] files last) in
      let first = subst (λ (g : Format). Reaches order (table_layout g (from_files q)) bytes end)
      (good.directories ∙ sym format)
      (reach_table order end h.directories (from_files q) (table_bytes order h.files ++ []) directories second) in
      let tables : Reaches order (tables_layout q) bytes end = rw (eq-eqb p.version 5 five) first in
      let all = reach_lengths 1 h.params.lengths.items []
      (λ lengths. tables_layout (record p { lengths = record { items = lengths } })) bytes good.lengths tables in
      subst (λ (w : List ℕ). Reaches order (from_lengths p) w end)
      (ends_so h.params.lengths.items (table_bytes order h.directories) (table_bytes order h.files))
      (rw (← count) all)
    where
      ends_so : (a b c : List ℕ) → a ++ (b ++ (c ++ [])) ≡ (a ++ b) ++ c
      ends_so a b c = rw append-nil (sym (append_assoc a b c))

  -- the fields after header_length, of params whose fields before it are those of the header
  reach_fields : IsSoundHeader h → h.params.version ≡ 5 → Good h.params h.directories h.files
      → Reaches order (from_minimum_length
      (record (format_alone h.params.format) {
        address_size = h.params.address_size;
        segment_selector_size = h.params.segment_selector_size;
      })) (after_header_length order h) end
  reach_fields sound five good =
      let p = h.params in
      let same : (record p { line_base = signed_byte (byte_of p.line_base); version = 5 }) ≡ p =
      ap (λ (z : ℤ). let q : Params = record p { line_base = z; version = 5 } in q)
      (signed_again p.line_base sound.line_base)
      ∙ ap (λ (v : ℕ). let q : Params = record p { version = v } in q) (sym five) in
      let one = one_operation p.version p.maximum_operations_per_instruction good.operations in
      reach_byte refl refl (reach_byte refl
      (rw (ne_eqb p.maximum_operations_per_instruction 0 (λ z. omega (arith, z, one))) refl)
      (reach_byte refl refl (reach_byte refl refl
      (reach_byte refl (rw (ne_eqb p.line_range 0 good.lines) refl)
      (reach_byte refl (rw (ne_eqb p.opcode_base 0 (λ z. let sum = good.opcodes in omega arith)) refl)
      (reach_from_lengths (record p { line_base = signed_byte (byte_of p.line_base); version = 5 }) refl refl good
      sound.directories sound.files refl same))))))

-- ---- the whole header

initial_written : (order : Order) (format : Format) (n : ℕ) → n ≤ written_limit format
    → IsInitialLength order format n (initial_length_bytes order format n)
initial_written order Dwarf32 n le = (fixed_written order 4 n (omega arith), omega arith)
initial_written order Dwarf64 n le = (
  fixed_bytes order 4 0xffffffff,
  fixed_bytes order 8 n,
  refl,
  fixed_written order 4 0xffffffff (lit< tt),
  fixed_written order 8 n (omega arith),
  le,
)

offset_fits : (format : Format) (n : ℕ) → n ≤ written_limit format → n < 256 ^ offset_size format
offset_fits Dwarf32 n le = omega arith
offset_fits Dwarf64 n le = omega arith

usable_size : (n : ℕ) → is_number_size n ≡ true → objection address_size n ≡ None
usable_size n e = rw e refl

fits_unit : (format : Format) (n left : ℕ) → n ≤ left → objection (header_length format left) n ≡ None
fits_unit format n left le = rw (le-leb n left le) refl

regroup : (i v l w : List ℕ) (a s : ℕ) → i ++ v ++ a ∷ s ∷ [] ++ l ++ w
    ≡ (i ++ (v ++ ((a ∷ []) ++ ((s ∷ []) ++ (l ++ w))))) ++ []
regroup i v l w a s = rw append-nil (simp append_assoc)

-- the header, and the length that its first field tells
written : (dialect : Dialect) (h : HeaderData) (program_len : ℕ) → IsSoundHeader h
    → h.params.version ≡ 5
    → is_within_limit h program_len ≡ true → (is : IsHeader dialect h (header_bytes dialect.order h program_len))
    × (unit_end is.items ≡ Some (initial_size h.params.format + unit_length_of h program_len))
written dialect h program_len sound five limit =
    let p = h.params in
    let good = all_good p h.directories h.files sound.params in
    let unit = unit_length_of h program_len in
    let size = header_length_of h in
    let after = after_header_length dialect.order h in
    let short = leb-true unit (written_limit p.format) limit in
    let tail = reach_fields dialect.order h sound five good in
    let initial = initial_length_bytes dialect.order p.format unit in
    let version_bytes = fixed_bytes dialect.order 2 5 in
    let size_bytes = fixed_bytes dialect.order (offset_size p.format) size in
    let p0 = format_alone p.format in
    let p1 : Params = record p0 { address_size = p.address_size } in
    let p2 : Params = record p1 { segment_selector_size = p.segment_selector_size } in
    let long = length-header dialect.order h program_len in
    let a = (field_is_judged dialect.order (header_layout dialect) (length_is p.format unit) initial).0
    (p.format, unit, refl, initial_written dialect.order p.format unit short) in
    let b = (field_is_judged dialect.order (following (header_layout dialect) (length_is p.format unit)) (number_is 5)
    version_bytes).0
    (5, refl, fixed_written dialect.order 2 5 (lit< tt), refl) in
    let c = (field_is_judged dialect.order (from_address_size unit p0) (number_is p.address_size)
    (p.address_size ∷ [])).0 (
      p.address_size,
      refl,
      (refl, fixed_byte dialect.order (last_entry h) p.address_size),
      usable_size p.address_size good.address_size,
    ) in
    let d = (field_is_judged dialect.order (from_segment_selector_size unit p1) (number_is p.segment_selector_size)
    (p.segment_selector_size ∷ [])).0
    (p.segment_selector_size, refl, (refl, fixed_byte dialect.order (last_entry h) p.segment_selector_size), refl) in
    let e = (field_is_judged dialect.order (from_header_length unit p2) (number_is size) size_bytes).0 (
      size,
      refl,
      fixed_written dialect.order (offset_size p.format) size (offset_fits p.format size (omega arith)),
      fits_unit p.format size (unit - fixed_part p.format 5) (omega arith),
    ) in (
      record {
        items = length_is p.format unit ∷ number_is 5 ∷ number_is p.address_size ∷ number_is p.segment_selector_size
            ∷ number_is size ∷ tail.items;
        fields = initial ++ (version_bytes
            ++ ((p.address_size ∷ []) ++ ((p.segment_selector_size ∷ []) ++ (size_bytes ++ after))));
        padding = [];
        whole = regroup initial version_bytes size_bytes after p.address_size p.segment_selector_size;
        spelt = (
          initial,
          _,
          refl,
          a,
          (
            version_bytes,
            _,
            refl,
            b,
            (
              p.address_size ∷ [],
              _,
              refl,
              c,
              (p.segment_selector_size ∷ [], _, refl, d, (size_bytes, after, refl, e, tail.spelt)),
            ),
          ),
        );
        made = ap header_made tail.ends;
        end = ap (λ (n : ℕ). let o : Option ℕ = Some n in o) (omega arith);
      },
      refl,
    )

pub header_is_written : WrittenIsHeader
header_is_written dialect h program_len sound five limit = (written dialect h program_len sound five limit).0

pub length_is_written : WrittenHasItsLength
length_is_written dialect h program_len rest sound five limit =
    let w = written dialect h program_len sound five limit in
    let bytes = header_bytes dialect.order h program_len in
    let size = length-header dialect.order h program_len in
    let cut_is = ap (λ (c : Cut). unit_end c.items) (header_cut dialect h bytes rest w.0) in
    cut_is ∙ w.1 ∙ ap (λ (n : ℕ). let o : Option ℕ = Some n in o) (omega arith)
