-- The fields up to header_length: their values and sizes; where a layout leads to, and that version 5 leads to no
-- foreign
-- unit.
use Rattle.std.proofs.Common.{◌≡◌, ◌≢◌, ℕ, zero, suc, ◌+◌, ◌-◌, ◌≤◌, List, [], ◌∷◌, ◌++◌, length, drop, Option, Some}
use Rattle.std.proofs.Common.{None, Ok, Err, refl, sym, ap, subst, ◌∙◌, arith, inl, inr}
use Rattle.std.proofs.lemmas.Bool.{cases_lt, cases_eq, lt-ltb, le-ltb, le-leb, lt-leb, ne_eqb, eq-eqb}
use Rattle.dl_num.specs.declared.fixed.Order.{Order}
use Rattle.dl_num.specs.Fixed.{fixed}
use Rattle.dl_table.specs.declared.fault.FaultKind.{FaultKind}
use Rattle.dl_table.specs.declared.form.Format.{Format}
use Rattle.dl_table.specs.declared.form.Format.TheVariants.{Dwarf32, Dwarf64}
use Rattle.dl_table.specs.declared.form.Form.{Form}
use Rattle.dl_field.specs.declared.params.Params.{Params}
use Rattle.dl_table.specs.declared.table.Pair.{Pair}
use Rattle.dl_table.specs.TableData.{TableData}
use Rattle.dl_table.specs.Value.{Value, Judgement, good, bad}
use Rattle.dl_field.specs.Layout.{NumberField, Layout, initial_length_then, number_then, form_then, value_then}
use Rattle.dl_field.specs.Layout.{foreign_version, last_entry, Item, length_is, number_is, form_is, value_is, following}
use Rattle.dl_field.specs.Layout.{following_all, field_spelt, pairs_layout, entry_layout, entries_layout, table_layout}
use Rattle.dl_field.specs.Layout.{short_length, long_length, initial_length_spelt, unit_length_limit, objection, judged}
use Rattle.dl_field.specs.Layout.{number_judged, sized_spelt, number_size, path_or_end, end_is}
use Rattle.dl_head.specs.HeaderLayout.{lengths_layout, tables_layout, from_address_size, from_default_is_stmt, from_end}
use Rattle.dl_head.specs.HeaderLayout.{from_files, from_header_length, from_minimum_length, initial_size}
use Rattle.dl_field.proofs.FieldLemmas.{none_some, length_cases}

pub ok_err : {i : Item} {k : FaultKind} → ◌≡◌ {A = Judgement Item} (bad k) (good i) → ⊥
ok_err e = absurd cc

-- ---- the initial length

-- the value of a good initial length
pub record IsLength (order : Order) (w : List ℕ) (i : Item) : Type 0 where
  pub format : Format
  pub number : ℕ
  pub item : i ≡ length_is format number
  pub size : length w ≡ initial_size format

item_of : (i j : Item) → ◌≡◌ {A = Judgement Item} (good i) (good j) → j ≡ i
item_of i j e = ap (λ (o : Judgement Item). elim o [ Some (Ok k) ↦ k | Some (Err f) ↦ i | None ↦ i ]) (sym e)

short_item : (n : ℕ) (i : Item) → short_length n ≡ good i → i ≡ length_is Dwarf32 n
short_item n i e = elim (cases_lt n 0xfffffff0) [
  | inl lt ↦ elim (cases_lt unit_length_limit n) [
    | inl big ↦ absurd (ok_err (rw (lt-ltb n 0xfffffff0 lt, lt-leb n unit_length_limit big) at e))
    | inr le ↦ item_of (length_is Dwarf32 n) i (rw (lt-ltb n 0xfffffff0 lt, le-leb n unit_length_limit le) at e)
  ]
  | inr le ↦ elim (cases_eq n 0xffffffff) [
    | inl same ↦ absurd (none_some (rw (le-ltb n 0xfffffff0 le, eq-eqb n 0xffffffff same) refl) e)
    | inr other ↦ absurd (ok_err (rw (le-ltb n 0xfffffff0 le, ne_eqb n 0xffffffff other) at e))
  ]
]

long_item : (n : ℕ) (i : Item) → long_length n ≡ good i → i ≡ length_is Dwarf64 n
long_item n i e = elim (cases_lt unit_length_limit n) [
  | inl big ↦ absurd (ok_err (rw (lt-leb n unit_length_limit big) at e))
  | inr le ↦ item_of (length_is Dwarf64 n) i (rw (le-leb n unit_length_limit le) at e)
]

pub is_length : (order : Order) (w : List ℕ) (i : Item) → initial_length_spelt order w ≡ good i → IsLength order w i
is_length order w i e = elim (length_cases order w (Ok i) e) [
  | inl four ↦
      let g : initial_length_spelt order w ≡ short_length (fixed order w) = rw (eq-eqb _ _ four) refl in
      record { format = Dwarf32; number = fixed order w; item = short_item (fixed order w) i (sym g ∙ e); size = four }
  | inr long ↦
      let a : length w ≢ 4 = λ same. omega (arith, long.0) in
      let g : initial_length_spelt order w ≡ long_length (fixed order (drop 4 w)) =
      rw (ne_eqb _ _ a, eq-eqb _ _ long.0, eq-eqb _ _ long.1) refl in
      record {
        format = Dwarf64;
        number = fixed order (drop 4 w);
        item = long_item (fixed order (drop 4 w)) i
            (sym g ∙ e);
        size = long.0;
      }
]

-- ---- numbers

-- the value of a good number
pub record IsNumber (field : NumberField) (i : Item) : Type 0 where
  pub number : ℕ
  pub item : i ≡ number_is number
  pub fits : objection field number ≡ None

judged_number : (field : NumberField) (n : ℕ) (o : Option FaultKind) (i : Item) → objection field n ≡ o
    → judged o n ≡ good i → IsNumber field i
judged_number field n None i f e = record { number = n; item = item_of (number_is n) i e; fits = f }
judged_number field n (Some kind) i f e = absurd (ok_err e)

some_number : (field : NumberField) (o : Option ℕ) (i : Item) → number_judged field o ≡ good i → IsNumber field i
some_number field None i e = absurd (none_some refl e)
some_number field (Some n) i e = judged_number field n (objection field n) i refl e

pub is_number : (order : Order) (field : NumberField) (next : ℕ → Layout) (w : List ℕ) (i : Item)
    → field_spelt order (number_then field next) w ≡ good i → IsNumber field i
is_number order field next w i e = some_number field (sized_spelt order (number_size field) w) i e

-- ---- where a layout leads to

-- from the layout on fields have at most n more cells than bytes; Foreign says what is so where a foreign version
-- stands
abbrev pub Leads : Type 0 → ℕ → Layout → Type 0
Leads Foreign n (initial_length_then next) = (f : Format) (m : ℕ) → Leads Foreign n (next f m)
Leads Foreign n (number_then field next) = (m : ℕ) → Leads Foreign n (next m)
Leads Foreign n (form_then next) = (f : Form) → Leads Foreign n (next f)
Leads Foreign n (value_then format f next) = (v : Value) → Leads Foreign n (next v)
-- the end of a table of versions 2 to 4 is one byte
Leads Foreign n (path_or_end format pairs entries next) =
    (k : ℕ) × (length pairs - 1 + k ≤ n) × ((t : TableData) → Leads Foreign k (next t))
Leads Foreign n (foreign_version v) = Foreign
Leads Foreign n (last_entry h) = Unit {0}

module _ (Foreign : Type 0) where
  pub leads_entry : (n : ℕ) (format : Format) (pairs : List Pair) (before : List Value) (next : List Value → Layout)
      → ((entry : List Value) → Leads Foreign n (next entry))
      → Leads Foreign n (entry_layout format pairs before next)
  leads_entry n format [] before next to = to before
  leads_entry n format (p ∷ pairs) before next to = λ v. leads_entry n format pairs (before ++ v ∷ []) next to

  leads_pairs : (n count : ℕ) (before : List Pair) (next : List Pair → Layout)
      → ((pairs : List Pair) → Leads Foreign n (next pairs)) → Leads Foreign n (pairs_layout count before next)
  leads_pairs n zero before next to = to before
  leads_pairs n (suc count) before next to = λ code f. leads_pairs n count
      (before ++ record { content = code; form = f } ∷ []) next to

  leads_entries : (n : ℕ) (format : Format) (pairs : List Pair) (count : ℕ) (before : List (List Value))
      (next : List (List Value) → Layout) → ((entries : List (List Value)) → Leads Foreign n (next entries))
      → Leads Foreign n (entries_layout format pairs count before next)
  leads_entries n format pairs zero before next to = to before
  leads_entries n format pairs (suc count) before next to =
      leads_entry n format pairs [] (λ entry. entries_layout format pairs count (before ++ entry ∷ []) next)
      (λ entry. leads_entries n format pairs count (before ++ entry ∷ []) next to)

  leads_table : (n : ℕ) (format : Format) (next : TableData → Layout) → ((t : TableData) → Leads Foreign n (next t))
      → Leads Foreign n (table_layout format next)
  leads_table n format next to = λ pair_count. leads_pairs n pair_count [] _
      (λ pairs count. leads_entries n format pairs count [] _ (λ entries. to _))

  leads_lengths : (n opcode count : ℕ) (before : List ℕ) (next : List ℕ → Layout)
      → ((lengths : List ℕ) → Leads Foreign n (next lengths))
      → Leads Foreign n (lengths_layout opcode count before next)
  leads_lengths n opcode zero before next to = to before
  leads_lengths n opcode (suc count) before next to =
      λ m. leads_lengths n (opcode + 1) count (before ++ m ∷ []) next to

  -- in a header those are three
  leads_tables : (p : Params) → Leads Foreign 3 (tables_layout p)
  leads_tables p = elim (cases_eq p.version 5) [
    | inl five ↦ rw (eq-eqb p.version 5 five) (leads_table 3 p.format (from_files p)
        (λ directories. leads_table 3 p.format (from_end p directories) (λ files. tt)))
    | inr other ↦ rw (ne_eqb p.version 5 other) (3, omega arith, λ directories. (0, omega arith, λ files. tt))
  ]

  leads_default : (p : Params) → Leads Foreign 3 (from_default_is_stmt p)
  leads_default p = λ is_stmt base range opcodes. leads_lengths 3 1 (opcodes - 1) [] _ (λ lengths. leads_tables _)

  pub leads_late : (p : Params) → Leads Foreign 3 (from_minimum_length p)
  leads_late p minimum = elim (cases_lt p.version 4) [
    | inl old ↦ rw (lt-ltb p.version 4 old) (leads_default (record p { minimum_instruction_length = minimum }))
    | inr new ↦ rw (le-ltb p.version 4 new) (λ maximum. leads_default
        (record p { minimum_instruction_length = minimum; maximum_operations_per_instruction = maximum }))
  ]

-- ---- what follows version 5 leads to no foreign unit

abbrev IsOwn : Layout → Type 0
IsOwn layout = (n : ℕ) × Leads ⊥ n layout

own_on : (n : ℕ) (layout : Layout) (i : Item) → Leads ⊥ n layout → IsOwn (following layout i)
own_on n (initial_length_then next) (length_is f m) own = (n, own f m)
own_on n (initial_length_then next) (number_is m) own = (n, own)
own_on n (initial_length_then next) (form_is f) own = (n, own)
own_on n (initial_length_then next) (value_is v) own = (n, own)
own_on n (initial_length_then next) (end_is m) own = (n, own)
own_on n (number_then field next) (length_is f m) own = (n, own)
own_on n (number_then field next) (number_is m) own = (n, own m)
own_on n (number_then field next) (form_is f) own = (n, own)
own_on n (number_then field next) (value_is v) own = (n, own)
own_on n (number_then field next) (end_is m) own = (n, own)
own_on n (form_then next) (length_is f m) own = (n, own)
own_on n (form_then next) (number_is m) own = (n, own)
own_on n (form_then next) (form_is f) own = (n, own f)
own_on n (form_then next) (value_is v) own = (n, own)
own_on n (form_then next) (end_is m) own = (n, own)
own_on n (value_then format f next) (length_is g m) own = (n, own)
own_on n (value_then format f next) (number_is m) own = (n, own)
own_on n (value_then format f next) (form_is g) own = (n, own)
own_on n (value_then format f next) (value_is v) own = (n, own v)
own_on n (value_then format f next) (end_is m) own = (n, own)
own_on n (path_or_end format pairs entries next) (length_is f m) own = (n, own)
own_on n (path_or_end format pairs entries next) (number_is m) own = (n, own)
own_on n (path_or_end format pairs entries next) (form_is f) own = (n, own)
own_on n (path_or_end format pairs entries next) (value_is v) own = (
  n,
  leads_entry ⊥ n format (drop 1 pairs) (v ∷ [])
      (λ entry. path_or_end format pairs (entries ++ entry ∷ []) next) (λ entry. own),
)
own_on n (path_or_end format pairs entries next) (end_is m) own = (own.0, own.2 _)
own_on n (foreign_version v) i own = absurd own
own_on n (last_entry h) (length_is f m) own = (n, own)
own_on n (last_entry h) (number_is m) own = (n, own)
own_on n (last_entry h) (form_is f) own = (n, own)
own_on n (last_entry h) (value_is v) own = (n, own)
own_on n (last_entry h) (end_is m) own = (n, own)

own_all : (layout : Layout) (items : List Item) → IsOwn layout → IsOwn (following_all layout items)
own_all layout [] own = own
own_all layout (i ∷ items) own = own_all (following layout i) items (own_on own.0 layout i own.1)

none_foreign : (layout : Layout) (items : List Item) (v : ℕ) → Leads ⊥ 3 layout
    → following_all layout items ≡ foreign_version v → ⊥
none_foreign layout items v leads e = let own = subst IsOwn e (own_all layout items (3, leads)) in own.1

-- where version 5 was read, no foreign unit is
pub not_foreign : (unit_length : ℕ) (p : Params) (items : List Item) (v : ℕ)
    → following_all (from_address_size unit_length p) items ≡ foreign_version v → ⊥
not_foreign unit_length p items v e =
    none_foreign (from_address_size unit_length p) items v (λ address segment header. leads_late ⊥
    (record p { address_size = address; segment_selector_size = segment })) e

-- nor where header_length was
pub late_not_foreign : (p : Params) (items : List Item) (v : ℕ)
    → following_all (from_minimum_length p) items ≡ foreign_version v → ⊥
late_not_foreign p items v e = none_foreign (from_minimum_length p) items v (leads_late ⊥ p) e

pub older_not_foreign : (unit_length : ℕ) (p : Params) (items : List Item) (v : ℕ)
    → following_all (from_header_length unit_length p) items ≡ foreign_version v → ⊥
older_not_foreign unit_length p items v e =
    none_foreign (from_header_length unit_length p) items v (λ header. leads_late ⊥ p) e
