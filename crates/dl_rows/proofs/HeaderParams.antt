-- The params of a header are usable, and line_base is a byte.
use Rattle.dl_head.specs.declared.dialect.Dialect.{Dialect}
use Rattle.std.proofs.Common.{◌≡◌, ℕ, zero, suc, ◌+◌, ◌-◌, ◌≤◌, Bool, true, if◌then◌else◌, ◌==◌, List, [], ◌∷◌}
use Rattle.std.proofs.Common.{◌++◌, length, drop, Some, None, refl, arith, inl, inr, length-append}
use Rattle.std.proofs.Common.{◌<◌, ◌^◌, pos, negsuc, ◌-ℤ◌, Option, ap}
use Rattle.std.proofs.lemmas.Bool.Decides.{nat_tests}
use Rattle.std.proofs.lemmas.Bool.{cases_lt, lt-ltb, le-ltb, cases_eq, eq-eqb, ne_eqb}
use Rattle.std.specs.Prelude.{unsigned_abs}
use Rattle.std.proofs.lemmas.Int.{ints}
use Rattle.dl_num.specs.declared.fixed.Order.{Order}
use Rattle.dl_num.specs.Laws.{AllBytes}
use Rattle.dl_num.proofs.FixedLaws.{fixed_is_below}
use Rattle.dl_num.specs.Fixed.{is_number_size}
use Rattle.dl_table.specs.declared.fault.FaultKind.{FaultKind}
use Rattle.dl_table.specs.declared.fault.FaultKind.TheVariants as fault
use Rattle.dl_table.specs.declared.form.Format.{Format}
use Rattle.dl_table.specs.declared.form.Form.{Form}
use Rattle.dl_field.specs.declared.params.Params.{Params}
use Rattle.dl_table.specs.declared.table.Pair.{Pair}
use Rattle.dl_field.specs.Usable.{IsUsable}
use Rattle.dl_table.specs.TableData.{TableData}
use Rattle.dl_field.specs.HeaderData.{HeaderData}
use Rattle.dl_table.specs.Value.{Value, good}
use Rattle.dl_field.specs.Field.{IsNumber}
use Rattle.dl_field.specs.Layout.{Layout, initial_length_then, number_then, form_then, value_then, foreign_version}
use Rattle.dl_field.specs.Layout.{path_or_end, last_entry, Item, length_is, number_is, form_is, value_is, end_is}
use Rattle.dl_field.specs.Layout.{following, following_all, objection, number_size, field_spelt, pairs_layout}
use Rattle.dl_field.specs.Layout.{entry_layout, entries_layout, table_layout, NumberField}
use Rattle.dl_head.specs.Dialect.{older_size}
use Rattle.dl_head.specs.HeaderLayout.{header_layout, lengths_layout, tables_layout, from_files, from_end}
use Rattle.dl_head.specs.HeaderLayout.{from_default_is_stmt, after_minimum_length, from_address_size}
use Rattle.dl_head.specs.HeaderLayout.{from_older_version, older_params, format_alone, signed_byte}
use Rattle.dl_head.specs.Header.{SpellsFields, IsHeader}
use Rattle.dl_field.proofs.FieldLemmas.{none_some}
use Rattle.dl_field.proofs.FieldLaws.{field_is_judged}
use Rattle.dl_head.proofs.HeaderLaws.{made_last}
use Rattle.dl_head.proofs.FirstFields.{is_number}
use Rattle.dl_head.proofs.Openings.{after_length}
use Rattle.dl_head.proofs.ReadSound.{older_fits}
use Rattle.dl_rows.specs.UnitLaws.{HeaderFits}
use Rattle.dl_rows.proofs.OperandRanges.{bytes_front, bytes_back}
use Rattle.dl_rows.proofs.UnitLengths.{number_same}

-- a number of one byte is below 256
abbrev pub IsSmall : NumberField → ℕ → Type 0
IsSmall field n = number_size field ≡ Some 1 → n < 256

-- Each header to which good fields of the layout lead is so; where Bytes holds, what is read are bytes.
abbrev pub LeadsTo : Type 0 → (HeaderData → Type 0) → Layout → Type 0
LeadsTo Bytes P (initial_length_then next) = (f : Format) (n : ℕ) → LeadsTo Bytes P (next f n)
LeadsTo Bytes P (number_then field next) =
    (n : ℕ) → objection field n ≡ None → (Bytes → IsSmall field n) → LeadsTo Bytes P (next n)
LeadsTo Bytes P (form_then next) = (f : Form) → LeadsTo Bytes P (next f)
LeadsTo Bytes P (value_then format f next) = (v : Value) → LeadsTo Bytes P (next v)
LeadsTo Bytes P (path_or_end format pairs entries next) = (t : TableData) → LeadsTo Bytes P (next t)
LeadsTo Bytes P (foreign_version v) = Unit {0}
LeadsTo Bytes P (last_entry h) = P h

-- a byte as a number
small : (order : Order) (field : NumberField) (next : ℕ → Layout) (n : ℕ) (w : List ℕ) → AllBytes w
    → field_spelt order (number_then field next) w ≡ good (number_is n) → IsSmall field n
small order field next n w all e one =
    let is = (field_is_judged order (number_then field next) (number_is n) w).1 e in
    let fixed_is : IsNumber order (Some 1) is.0 w = rw one at is.2 in
    let below = fixed_is_below order w all in
    let power : 256 ^ length w ≡ 256 ^ 1 = ap (λ (k : ℕ). 256 ^ k) fixed_is.0 in
    let same : n ≡ is.0 = number_same n is.0 is.1 in
    omega (arith, below, power, same, fixed_is.1)

-- what holds of the headers that good fields lead to
module _ (Bytes : Type 0) (P : HeaderData → Type 0) where
  leads_entry : (format : Format) (pairs : List Pair) (before : List Value) (next : List Value → Layout)
      → ((values : List Value) → LeadsTo Bytes P (next values))
      → LeadsTo Bytes P (entry_layout format pairs before next)
  leads_entry format [] before next all = all before
  leads_entry format (p ∷ pairs) before next all = λ v. leads_entry format pairs (before ++ v ∷ []) next all

  leads_on : (order : Order) (layout : Layout) (i : Item) (items : List Item) (w : List ℕ) → (Bytes → AllBytes w)
      → SpellsFields order layout (i ∷ items) w → LeadsTo Bytes P layout → LeadsTo Bytes P (following layout i)
  leads_on order (initial_length_then next) (length_is f n) items w all s leads = leads f n
  leads_on order (number_then field next) i items w all s leads =
      let n = is_number order field next s.0 i s.3 in
      rw n.item (leads n.number n.fits (λ h. small order field next n.number s.0
      (bytes_front s.0 s.1 (rw s.2 at (all h))) (rw n.item at s.3)))
  leads_on order (form_then next) (form_is f) items w all s leads = leads f
  leads_on order (value_then format f next) (value_is v) items w all s leads = leads v
  leads_on order (path_or_end format pairs entries next) (value_is v) items w all s leads =
      leads_entry format (drop 1 pairs) (v ∷ []) (λ entry. path_or_end format pairs (entries ++ entry ∷ []) next)
      (λ entry. leads)
  leads_on order (path_or_end format pairs entries next) (end_is n) items w all s leads =
      leads (record { format = format; pairs = pairs; entries = entries })
  leads_on order (foreign_version v) i items w all s leads = absurd (none_some refl s.3)
  leads_on order (last_entry h) i items w all s leads = absurd (none_some refl s.3)
  leads_on order layout i items w all s leads = leads

  pub leads_all : (order : Order) (layout : Layout) (items : List Item) (w : List ℕ) → (Bytes → AllBytes w)
      → SpellsFields order layout items w → LeadsTo Bytes P layout → LeadsTo Bytes P (following_all layout items)
  leads_all order layout [] w all s leads = leads
  leads_all order layout (i ∷ items) w all s leads =
      leads_all order (following layout i) items s.1 (λ h. bytes_back s.0 s.1 (rw s.2 at (all h))) s.4
      (leads_on order layout i items w all s leads)

  -- ---- the tables don't change the params

  leads_pairs : (count : ℕ) (before : List Pair) (next : List Pair → Layout)
      → ((pairs : List Pair) → LeadsTo Bytes P (next pairs)) → LeadsTo Bytes P (pairs_layout count before next)
  leads_pairs zero before next all = all before
  leads_pairs (suc count) before next all =
      λ code fits few f. leads_pairs count (before ++ record { content = code; form = f } ∷ []) next all

  leads_entries : (format : Format) (pairs : List Pair) (count : ℕ) (before : List (List Value))
      (next : List (List Value) → Layout) → ((entries : List (List Value)) → LeadsTo Bytes P (next entries))
      → LeadsTo Bytes P (entries_layout format pairs count before next)
  leads_entries format pairs zero before next all = all before
  leads_entries format pairs (suc count) before next all =
      leads_entry format pairs [] (λ entry. entries_layout format pairs count (before ++ entry ∷ []) next)
      (λ entry. leads_entries format pairs count (before ++ entry ∷ []) next all)

  pub leads_table : (format : Format) (next : TableData → Layout) → ((t : TableData) → LeadsTo Bytes P (next t))
      → LeadsTo Bytes P (table_layout format next)
  leads_table format next all =
      λ pair_count fits few. leads_pairs pair_count [] _
      (λ pairs. λ count some below. leads_entries format pairs count [] _ (λ entries. all _))

  pub leads_lengths : (opcode count : ℕ) (before : List ℕ) (next : List ℕ → Layout)
      → ((lengths : List ℕ) → length lengths ≡ length before + count → LeadsTo Bytes P (next lengths))
      → LeadsTo Bytes P (lengths_layout opcode count before next)
  leads_lengths opcode zero before next all = all before (omega arith)
  leads_lengths opcode (suc count) before next all =
      λ n fits few. leads_lengths (opcode + 1) count (before ++ n ∷ []) next
      (λ lengths size. all lengths (omega (arith, size, length-append before (n ∷ []))))

-- the header's params are usable, and where they are read from bytes, line_base is one
abbrev IsFit : Type 0 → Params → Type 0
IsFit Bytes p = IsUsable p × (Bytes → unsigned_abs p.line_base < 2 ^ 62)

abbrev Fit : Type 0 → HeaderData → Type 0
Fit Bytes h = IsFit Bytes h.params

leads_own : (Bytes : Type 0) (p : Params) → IsFit Bytes p
    → LeadsTo Bytes (Fit Bytes) (table_layout p.format (from_files p))
leads_own Bytes p fit =
    leads_table Bytes (Fit Bytes) p.format (from_files p)
    (λ directories. leads_table Bytes (Fit Bytes) p.format (from_end p directories) (λ files. fit))

leads_tables : (Bytes : Type 0) (p : Params) → IsFit Bytes p → LeadsTo Bytes (Fit Bytes) (tables_layout p)
leads_tables Bytes p fit = elim (cases_eq p.version 5) [
  | inl own ↦ rw (eq-eqb p.version 5 own) (leads_own Bytes p fit)
  | inr older ↦ rw (ne_eqb p.version 5 older) (λ directories files. fit)
]

-- ---- the fields that the params hold

fits_true : (b : Bool) (k : FaultKind) → (if b then None else Some k) ≡ None → b ≡ true
fits_true b k e = grind arith

not_zero : (n : ℕ) (k : FaultKind) → (if n == 0 then Some k else None) ≡ None → 1 ≤ n
not_zero n k e = grind (arith, nat_tests)

signed_small : (n : ℕ) → n < 256 → unsigned_abs (signed_byte n) < 2 ^ 62
signed_small n lt = elim (cases_lt n 128) [
  | inl low ↦ rw (lt-ltb n 128 low) (omega arith)
  | inr high ↦ rw (le-ltb n 128 high) (let e : pos n -ℤ pos 256 ≡ negsuc (255 - n) = omega (
    arith,
    ints,
  ) in rw e (omega arith))
]

leads_default : (Bytes : Type 0) (p : Params) → is_number_size p.address_size ≡ true
    → 1 ≤ p.maximum_operations_per_instruction → LeadsTo Bytes (Fit Bytes) (from_default_is_stmt p)
leads_default Bytes p size operations =
    λ is_stmt i f base j g range lines k opcodes some l.
    leads_lengths Bytes (Fit Bytes) 1 (opcodes - 1) [] _ (λ lengths count. leads_tables Bytes _ (
      record {
        address_size = size;
        operations = operations;
        lines = not_zero range fault.LineRange lines;
        opcodes = (let n = not_zero opcodes fault.OpcodeBase some in omega (arith, count, n));
      },
      λ bytes. signed_small base (g bytes refl),
    ))

-- versions 2 and 3 have no maximum operations, which is known of them
leads_minimum : (Bytes : Type 0) (p : Params) → is_number_size p.address_size ≡ true
    → (p.version < 4 → 1 ≤ p.maximum_operations_per_instruction)
    → LeadsTo Bytes (Fit Bytes) (after_minimum_length p)
leads_minimum Bytes p size one = elim (cases_lt p.version 4) [
  | inl old ↦ rw (lt-ltb p.version 4 old) (leads_default Bytes p size (one old))
  | inr new ↦ rw (le-ltb p.version 4 new)
      (λ maximum operations e. leads_default Bytes (record p { maximum_operations_per_instruction = maximum }) size
      (not_zero maximum fault.MaxOps operations))
]

leads_fields : (Bytes : Type 0) (format : Format) (unit_length : ℕ)
    → LeadsTo Bytes (Fit Bytes) (from_address_size unit_length (format_alone format))
leads_fields Bytes format unit_length =
    λ address size a segment s b header h c minimum m d.
    leads_minimum Bytes (record (format_alone format) {
      address_size = address;
      segment_selector_size = segment;
      minimum_instruction_length = minimum;
    }) (fits_true (is_number_size address) fault.AddressSize size) (λ lt. absurd (omega (arith, lt)))

leads_older : (Bytes : Type 0) (format : Format) (n v : ℕ) (o : Option ℕ)
    → ((size : ℕ) → o ≡ Some size → is_number_size size ≡ true)
    → LeadsTo Bytes (Fit Bytes) (from_older_version format n v o)
leads_older Bytes format n v None fits = tt
leads_older Bytes format n v (Some size) fits =
    λ header h c minimum m d.
    leads_minimum Bytes (record (older_params format v size) { minimum_instruction_length = minimum }) (fits size refl)
    (λ lt. omega arith)

leads_version : (Bytes : Type 0) (dialect : Dialect) (format : Format) (n v : ℕ)
    → LeadsTo Bytes (Fit Bytes) (after_length dialect format n v)
leads_version Bytes dialect format n v = elim (cases_eq v 5) [
  | inl same ↦ rw (eq-eqb v 5 same) (leads_fields Bytes format n)
  | inr other ↦ rw (ne_eqb v 5 other)
      (leads_older Bytes format n v (older_size dialect v) (older_fits dialect v))
]

fit_of : (Bytes : Type 0) (dialect : Dialect) (h : HeaderData) (w : List ℕ) (is : IsHeader dialect h w)
    → (Bytes → AllBytes is.fields) → IsFit Bytes h.params
fit_of Bytes dialect h w is all =
    rw (made_last (following_all (header_layout dialect) is.items) h is.made) at
    (leads_all Bytes (Fit Bytes) dialect.order (header_layout dialect) is.items is.fields all is.spelt
    (λ format n v fits few. leads_version Bytes dialect format n v))

pub header_is_usable : (dialect : Dialect) (h : HeaderData) (w : List ℕ) → IsHeader dialect h w → IsUsable h.params
header_is_usable dialect h w is = (fit_of ⊥ dialect h w is (λ never. absurd never)).0

pub header_fits : HeaderFits
header_fits dialect h w all is = (
  header_is_usable dialect h w is,
  (fit_of (AllBytes w) dialect h w is
      (λ bytes. bytes_front is.fields is.padding (rw is.whole at bytes))).1 all,
)
