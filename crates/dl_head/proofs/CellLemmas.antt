-- A header holds no more cells than it has bytes, and in the end those of its tables.
use Rattle.std.proofs.Common.{◌≡◌, ◌++◌, ℕ, ◌+◌, ◌-◌, ◌^◌, ◌≤◌, true, nat_lt, ◌&&◌, List, [], Option, Some, ◌∷◌, length}
use Rattle.std.proofs.Common.{drop, None, ap, arith, inl, inr, length-append, sum_by}
use Rattle.std.proofs.lemmas.Bool.{cases_lt, cases_Bool, le-leb, lt-leb, cases_eq, eq-eqb, ne_eqb}
use Rattle.std.proofs.lemmas.List.{length-drop}
use Rattle.std.proofs.lemmas.List.Sums.{sum_by-cons}
use Rattle.dl_num.specs.declared.fixed.Order.{Order}
use Rattle.dl_field.specs.Layout.{path_or_end, listed_from, end_is, Layout, initial_length_then, number_then, form_then}
use Rattle.dl_field.specs.Layout.{value_then, foreign_version, last_entry, Item, following, following_all}
use Rattle.dl_field.proofs.GoodLemmas.{leb_some}
use Rattle.dl_field.proofs.FieldLaws.{field_is_judged}
use Rattle.dl_field.specs.Field.{IsField, IsText, IsValue}
use Rattle.dl_head.specs.HeaderLayout.{initial_size, from_older_version, older_params, format_alone, header_layout}
use Rattle.dl_head.specs.Dialect.{older_size}
use Rattle.dl_head.specs.declared.dialect.Dialect.{Dialect}
use Rattle.dl_num.specs.Leb.{groups, IsUleb}
use Rattle.dl_num.specs.LebFront.{is_leb, leb_front, after_leb}
use Rattle.dl_num.proofs.LebFrontLemmas.{and_left, leb_front-le}
use Rattle.dl_table.specs.declared.form.Format.{Format}
use Rattle.dl_table.specs.declared.form.Format.TheVariants.{Dwarf32, Dwarf64}
use Rattle.dl_table.specs.declared.form.Form.{Form}
use Rattle.dl_table.specs.declared.form.Form.TheVariants as form
use Rattle.dl_table.specs.Value.{Value, text, offset_size}
use Rattle.dl_head.specs.Header.{SpellsFields, cut}
use Rattle.dl_table.specs.TableCells.{value_cells}
use Rattle.dl_field.specs.Cells.{item_cells, begun_block, begun_leb_block, begun_cells, rest_cells}
use Rattle.dl_head.specs.Laws.{FewCells}
use Rattle.dl_head.proofs.CutLemmas.{cut_sound, Sound}
use Rattle.dl_head.proofs.FirstFields.{Leads, leads_entry, leads_late, is_length}

-- ---- a field holds no more cells than it has bytes

some_uleb : (w : List ℕ) (n : ℕ) → IsUleb w n → 1 ≤ length w
some_uleb w n is = omega (arith, ap length is.2.bytes, length-append is.0 (is.1 ∷ []))

block_cells : (bytes size w : List ℕ) → w ≡ size ++ bytes → 1 ≤ length size → 1 + length bytes ≤ length w
block_cells bytes size w e some = omega (arith, ap length e, length-append size bytes)

text_cells : (bytes w : List ℕ) → IsText bytes w → 1 + length bytes ≤ length w
text_cells bytes w is = omega (arith, ap length is.0, length-append bytes (0 ∷ []))

offset_some : (format : Format) → 1 ≤ offset_size format
offset_some Dwarf32 = omega arith
offset_some Dwarf64 = omega arith

value_few : (order : Order) (format : Format) (f : Form) (v : Value) (w : List ℕ) → IsValue order format f v w
    → value_cells v ≤ length w
value_few order format form.Block2 v w is = rw is.1 (block_cells is.0 is.2.0 w is.2.1 (omega (arith, is.2.2.0)))
value_few order format form.Block4 v w is = rw is.1 (block_cells is.0 is.2.0 w is.2.1 (omega (arith, is.2.2.0)))
value_few order format form.Data2 v w is = rw is.1 (omega (arith, is.2.0))
value_few order format form.Data4 v w is = rw is.1 (omega (arith, is.2.0))
value_few order format form.Data8 v w is = rw is.1 (omega (arith, is.2.0))
value_few order format form.String v w is = rw is.1 (text_cells is.0 w is.2)
value_few order format form.Block v w is = rw is.1 (block_cells is.0 is.2.0 w is.2.1 (some_uleb is.2.0 _ is.2.2.0))
value_few order format form.Block1 v w is = rw is.1 (block_cells is.0 is.2.0 w is.2.1 (omega (arith, is.2.2.0)))
value_few order format form.Data1 v w is = rw is.1 (omega (arith, is.2.0))
value_few order format form.Strp v w is = rw is.1 (omega (arith, is.2.0, offset_some format))
value_few order format form.Udata v w is = rw is.1 (some_uleb w is.0 is.2.0)
value_few order format form.StrpSup v w is = rw is.1 (omega (arith, is.2.0, offset_some format))
value_few order format form.Data16 v w is = rw is.0 (omega (arith, is.1))
value_few order format form.LineStrp v w is = rw is.1 (omega (arith, is.2.0, offset_some format))

-- by how many cells a field may have more than bytes: the end of a table of versions 2 to 4, which is one byte
abbrev item_excess : Item → ℕ
item_excess (end_is n) = n - 1
item_excess i = 0

item_few : (order : Order) (layout : Layout) (i : Item) (w : List ℕ) → IsField order layout i w
    → item_cells i ≤ length w + item_excess i
item_few order (initial_length_then next) i w is = rw is.2 (omega arith)
item_few order (number_then field next) i w is = rw is.1 (omega arith)
item_few order (form_then next) i w is = let some = some_uleb w _ is.2 in rw is.1 (omega (arith, some))
item_few order (value_then format f next) i w is =
    let few = value_few order format f is.0 w is.2 in rw is.1 (omega (arith, few))
item_few order (path_or_end format pairs entries next) i w (inl is) = rw (is.0, is.1) (omega arith)
item_few order (path_or_end format pairs entries next) i w (inr is) =
    let few = text_cells is.0 w is.2 in rw is.1 (omega (arith, few))
item_few order (foreign_version n) i w is = absurd is
item_few order (last_entry h) i w is = absurd is

-- good fields hold no more cells than they have bytes, but for the ends of tables of versions 2 to 4
items_few : (order : Order) (layout : Layout) (items : List Item) (w : List ℕ) → SpellsFields order layout items w
    → sum_by item_cells items ≤ length w + sum_by item_excess items
items_few order layout [] w s = omega arith
items_few order layout (i ∷ items) w s =
    omega (
      arith,
      sum_by-cons item_cells i items,
      sum_by-cons item_excess i items,
      item_few order layout i s.0 ((field_is_judged order layout i s.0).1 s.3),
      items_few order (following layout i) items s.1 s.4,
      ap length s.2,
      length-append s.0 s.1,
    )

-- ---- in a header those are three

leads_header : (dialect : Dialect) → Leads (Unit {0}) 3 (header_layout dialect)
leads_header dialect format n v = elim (cases_eq v 5) [
  | inl five ↦ rw (eq-eqb v 5 five) (λ address segment header. leads_late (Unit {0})
      (record (format_alone format) { address_size = address; segment_selector_size = segment }))
  | inr other ↦ rw (ne_eqb v 5 other) (older (older_size dialect v))
] where
  older : (o : Option ℕ) → Leads (Unit {0}) 3 (from_older_version format n v o)
  older None = tt
  older (Some size) = λ header. leads_late (Unit {0}) (older_params format v size)

excess_few : (order : Order) (n : ℕ) (layout : Layout) (items : List Item) (w : List ℕ) → Leads (Unit {0}) n layout
    → SpellsFields order layout items w → sum_by item_excess items ≤ n
excess_few order n layout [] w most s = omega arith
excess_few order n layout (i ∷ items) w most s = omega (
  arith,
  sum_by-cons item_excess i items,
  on layout most s.4 ((field_is_judged order layout i s.0).1 s.3)
      (λ m l leads t. excess_few order m l items s.1 leads t),
) where
  on : (l : Layout) → Leads (Unit {0}) n l → SpellsFields order (following l i) items s.1 → IsField order l i s.0
      → ((m : ℕ) (k : Layout) → Leads (Unit {0}) m k → SpellsFields order k items s.1 → sum_by item_excess items ≤ m)
      → item_excess i + sum_by item_excess items ≤ n
  on (initial_length_then next) most t is again =
      let few = again n (next is.0 is.1) (most is.0 is.1) (rw is.2 at t) in
      rw is.2 (omega (arith, few))
  on (number_then field next) most t is again =
      let few = again n (next is.0) (most is.0) (rw is.1 at t) in rw is.1 (omega (arith, few))
  on (form_then next) most t is again =
      let few = again n (next is.0) (most is.0) (rw is.1 at t) in rw is.1 (omega (arith, few))
  on (value_then format f next) most t is again =
      let few = again n (next is.0) (most is.0) (rw is.1 at t) in rw is.1 (omega (arith, few))
  on (path_or_end format pairs entries next) most t (inl is) again =
      let few = again most.0 (next (record { format = format; pairs = pairs; entries = entries })) (most.2 _)
      (rw is.0 at t) in
      rw is.0 (omega (arith, most.1, few))
  on (path_or_end format pairs entries next) most t (inr is) again =
      let few = again n (listed_from format pairs entries (text is.0 ∷ []) next)
      (leads_entry (Unit {0}) n format (drop 1 pairs) (text is.0 ∷ []) _ (λ entry. most)) (rw is.1 at t) in
      rw is.1 (omega (arith, few))
  on (foreign_version v) most t is again = absurd is
  on (last_entry h) most t is again = absurd is

some_initial : (format : Format) → 4 ≤ initial_size format
some_initial Dwarf32 = omega arith
some_initial Dwarf64 = omega arith

-- the initial length is no cell, and has more bytes than that
pub header_few : (dialect : Dialect) (items : List Item) (w : List ℕ) → SpellsFields dialect.order
    (header_layout dialect) items w
    → sum_by item_cells items ≤ length w
header_few dialect [] w s = omega arith
header_few dialect (i ∷ items) w s =
    let a = is_length dialect.order s.0 i s.3 in
    omega (
      arith,
      sum_by-cons item_cells i items,
      sum_by-cons item_excess i items,
      ap item_cells a.item,
      ap item_excess a.item,
      a.size,
      some_initial a.format,
      items_few dialect.order (following (header_layout dialect) i) items s.1 s.4,
      excess_few dialect.order 3 (header_layout dialect) (i ∷ items) w (leads_header dialect) s,
      ap length s.2,
      length-append s.0 s.1,
    )

-- ---- nor does an incomplete field

begun_few : (k : ℕ) (w : List ℕ) → 1 ≤ k → begun_block k w ≤ length w
begun_few k w some = elim (cases_lt (length w) k) [
  | inl lt ↦ rw (lt-leb k (length w) lt) (omega arith)
  | inr le ↦
      rw (le-leb k (length w) le) (omega arith)
]

-- the bytes after a number in LEB128 are fewer
after_some : (w : List ℕ) → is_leb (leb_front w) ≡ true → 1 + length (after_leb w) ≤ length w
after_some w t = omega (arith, leb_some (leb_front w) t, leb_front-le w, length-drop (length (leb_front w)) w)

begun_leb_few : (w : List ℕ) → begun_leb_block w ≤ length w
begun_leb_few w = elim (cases_Bool (is_leb (leb_front w) && nat_lt (groups (leb_front w)) (2 ^ 64))) [
  | inl t ↦ rw t (after_some w (and_left (is_leb (leb_front w)) (nat_lt (groups (leb_front w)) (2 ^ 64)) t))
  | inr n ↦ rw n (omega arith)
]

begun_value_few : (f : Form) (w : List ℕ) → begun_cells f w ≤ length w
begun_value_few form.Block2 w = begun_few 2 w (omega arith)
begun_value_few form.Block4 w = begun_few 4 w (omega arith)
begun_value_few form.Data2 w = omega arith
begun_value_few form.Data4 w = omega arith
begun_value_few form.Data8 w = omega arith
begun_value_few form.String w = omega arith
begun_value_few form.Block w = begun_leb_few w
begun_value_few form.Block1 w = begun_few 1 w (omega arith)
begun_value_few form.Data1 w = omega arith
begun_value_few form.Strp w = omega arith
begun_value_few form.Udata w = omega arith
begun_value_few form.StrpSup w = omega arith
begun_value_few form.Data16 w = omega arith
begun_value_few form.LineStrp w = omega arith

rest_few : (layout : Layout) (w : List ℕ) → rest_cells layout w ≤ length w
rest_few (value_then format f next) w = begun_value_few f w
rest_few (initial_length_then next) w = omega arith
rest_few (number_then field next) w = omega arith
rest_few (form_then next) w = omega arith
rest_few (path_or_end format pairs entries next) w = omega arith
rest_few (foreign_version v) w = omega arith
rest_few (last_entry h) w = omega arith

pub few_cells : FewCells
few_cells dialect b =
    let c = cut dialect b in
    let s : Sound dialect.order (header_layout dialect) b c = cut_sound dialect.order (header_layout dialect) [] b in
    omega (
      arith,
      header_few dialect c.items s.front s.spelt,
      rest_few (following_all (header_layout dialect) c.items) c.rest,
      ap length s.whole,
      length-append s.front c.rest,
    )
