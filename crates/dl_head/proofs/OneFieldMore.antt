-- One field more of the header reader: from where it is to where it goes.
use Rattle.std.proofs.Common.{Some, ◌≡◌, ℕ, zero, suc, ◌+◌, ◌-◌, ◌<◌, ◌≤◌, Bool, true, nat_lt, if◌then◌else◌, ℤ, inl}
use Rattle.std.proofs.Common.{inr, w8, ◌≢◌, to_z, of_z, SFits, List, [], ◌∷◌, ◌++◌, length, refl, sym, ap, subst, ◌∙◌}
use Rattle.std.proofs.Common.{arith, length-append}
use Rattle.std.proofs.lemmas.Int.{ints, to_z-of_z}
use Rattle.std.proofs.lemmas.Bool.{cases_lt, lt-ltb, le-ltb, ltb-true, cases_eq, eq-eqb, ne_eqb}
use Rattle.dl_field.specs.declared.list_reader.ListReader.{ListReader}
use Rattle.dl_field.specs.Layout.{number_size, table_layout, opcode_length, Layout, number_then, Item, number_is}
use Rattle.dl_field.specs.Layout.{following, following_all, field_spelt, objection, judged}
use Rattle.dl_head.specs.HeaderLayout.{from_older_directories, from_older_files, after_minimum_length}
use Rattle.dl_head.specs.HeaderLayout.{from_default_is_stmt, from_maximum_operations, from_address_size}
use Rattle.dl_head.specs.HeaderLayout.{from_segment_selector_size, header_layout, signed_byte, lengths_layout}
use Rattle.dl_head.specs.HeaderLayout.{tables_layout, from_files, from_opcode_base}
use Rattle.dl_head.specs.HeadStep.{first_table, field_after_minimum, lengths_fit}
use Rattle.dl_head.specs.declared.dialect.Dialect.{Dialect}
use Rattle.dl_head.specs.declared.reader.byte_field.ByteField.{ByteField}
use Rattle.dl_head.specs.declared.reader.byte_field.ByteField.TheVariants as field
use Rattle.dl_head.specs.declared.reader.Phase.{Phase}
use Rattle.dl_head.specs.declared.reader.Phase.TheVariants as phase
use Rattle.dl_head.specs.declared.reader.HeadReader.{HeadReader}
use Rattle.dl_field.specs.declared.params.Params.{Params}
use Rattle.dl_head.specs.Bytes.{byte_kind}
use Rattle.dl_head.specs.Place.{from_byte, from_length, Parts, Bounds, PastIn, LateIn, Late, IsAt, AtPhase, At}
use Rattle.dl_field.proofs.FieldLemmas.{fixed-one, following_all-append}
use Rattle.dl_head.proofs.EarlyEnds.{header_end-append, unit_end-append}
use Rattle.dl_head.proofs.TableBytes.{table_begins, list_begins}
use Rattle.dl_field.specs.declared.table_reader.TableReader.{TableReader}
use Rattle.dl_field.specs.declared.list_reader.ListKind.TheVariants as kind

pub at_phase : (r : HeadReader) (p : Phase) (items : List Item) (rest : List ℕ) → r.phase ≡ p → At r items rest
    → AtPhase r p items rest
at_phase r p items rest e at = subst (λ (q : Phase). AtPhase r q items rest) e at

pub phase_at : (q : Parts) (p a : Phase) (items : List Item) (rest : List ℕ) → p ≡ a → IsAt q a items rest
    → IsAt q p items rest
phase_at q p a items rest e at = subst (λ (x : Phase). IsAt q x items rest) (sym e) at

pub at_field : (r : HeadReader) (f g : ByteField) (items : List Item) (rest : List ℕ) → f ≡ g → r.phase ≡ phase.Byte f
    → At r items rest → AtPhase r (phase.Byte g) items rest
at_field r f g items rest is e at = at_phase r (phase.Byte g) items rest
    (e ∙ ap (λ (h : ByteField). phase.Byte h) is) at

-- a field more, after header_length
pub past_more : {b : Bounds} {items : List Item} {layout : Layout} (i : Item) → PastIn b items layout
    → PastIn b (items ++ i ∷ []) (following layout i)
past_more {b} {items} {layout} i past = record {
  follows = following_all-append (header_layout b.dialect) items (i ∷ [])
      ∙ ap (λ (l : Layout). following l i) past.follows;
  unit = unit_end-append items (i ∷ []) b.unit past.unit;
  header = past.header;
  header_ends = header_end-append items (i ∷ []) past.header past.header_ends;
  end = past.end;
  overrun = past.overrun;
}

-- and before the tables
pub late_more : {b : Bounds} {t : TableReader} {u : ListReader} {items : List Item} {layout next : Layout} (i : Item)
    → LateIn b t u items layout → following layout i ≡ next → LateIn b t u (items ++ i ∷ []) next
late_more {b} {t} {u} {items} {layout} {next} i late e = record {
  tail = subst (λ (l : Layout). PastIn b (items ++ i ∷ []) l) e (past_more i late.tail);
  fresh = late.fresh;
  unlisted = late.unlisted;
}

-- ---- fields of one byte

-- the first field of a layout
pub byte_follows : (r : HeadReader) (f : ByteField) (items : List Item) (rest : List ℕ)
    → AtPhase r (phase.Byte f) items rest
    → (following_all (header_layout r.dialect) items ≡ from_byte f r.unit_length r.params) × (rest ≡ [])
byte_follows r field.AddressSize items rest at = (
  ap (λ (l : List Item). following_all (header_layout r.dialect) l) at.0.items_are
      ∙ ap (λ (v : ℕ). from_address_size r.unit_length (record r.params { version = v })) (sym at.2),
  at.1,
)
byte_follows r field.SegmentSelectorSize items rest at = (
  ap (λ (l : List Item). following_all (header_layout r.dialect) l) at.0.items_are
      ∙ ap (λ (v : ℕ). from_segment_selector_size r.unit_length (record r.params { version = v })) (sym at.2),
  at.1,
)
byte_follows r field.MinimumInstructionLength items rest at = (at.0.tail.follows, at.1)
byte_follows r field.MaximumOperations items rest at = (at.0.tail.follows, at.1)
byte_follows r field.DefaultIsStmt items rest at = (at.0.tail.follows, at.1)
byte_follows r field.LineBase items rest at = (at.0.tail.follows, at.1)
byte_follows r field.LineRange items rest at = (at.0.tail.follows, at.1)
byte_follows r field.OpcodeBase items rest at = (at.0.tail.follows, at.1)

-- it is a number of one byte
pub byte_number : (f : ByteField) (unit_length : ℕ) (p : Params) → (next : ℕ → Layout)
    × (from_byte f unit_length p ≡ number_then (byte_kind f) next) × (number_size (byte_kind f) ≡ Some 1)
byte_number field.AddressSize unit_length p = (_, refl, refl)
byte_number field.SegmentSelectorSize unit_length p = (_, refl, refl)
byte_number field.MinimumInstructionLength unit_length p = (_, refl, refl)
byte_number field.MaximumOperations unit_length p = (_, refl, refl)
byte_number field.DefaultIsStmt unit_length p = (_, refl, refl)
byte_number field.LineBase unit_length p = (_, refl, refl)
byte_number field.LineRange unit_length p = (_, refl, refl)
byte_number field.OpcodeBase unit_length p = (_, refl, refl)

pub byte_spelt : (r : HeadReader) (f : ByteField) (items : List Item) (rest : List ℕ) (x : ℕ)
    → AtPhase r (phase.Byte f) items rest
    → field_spelt r.dialect.order (following_all (header_layout r.dialect) items) (rest ++ x ∷ [])
    ≡ judged (objection (byte_kind f) x) x
byte_spelt r f items rest x at =
    let b = byte_follows r f items rest at in
    let n = byte_number f r.unit_length r.params in
    rw (b.0, b.1, n.1, n.2, fixed-one r.dialect.order x) refl

-- ---- line_base

pub sfits_signed : (n : ℕ) → n < 256 → SFits w8 (signed_byte n)
sfits_signed n lt = elim (cases_lt n 128) [
  | inl small ↦ rw (lt-ltb n 128 small) (omega (arith, ints))
  | inr big ↦ rw (le-ltb n 128 big) (omega (arith, ints))
]

-- a signed number as it is kept
pub kept_signed : (n : ℕ) (z : ℤ) → n < 256 → z ≡ signed_byte n → to_z w8 (of_z w8 z) ≡ signed_byte n
kept_signed n z lt e = ap (λ (y : ℤ). to_z w8 (of_z w8 y)) e ∙ to_z-of_z w8 (signed_byte n) (sfits_signed n lt)

-- ---- the lengths of the opcodes

abbrev pub lengths_left : Params → ℕ → List ℕ → Layout
lengths_left p left before = lengths_layout (length before + 1) left before λ lengths. tables_layout
    (record p { lengths = record { items = lengths } })

pub lengths_open : (p : Params) (left : ℕ) (before : List ℕ) → 1 ≤ left
    → lengths_left p left before ≡ number_then (opcode_length (length before + 1)) λ n. lengths_layout
    (length before + 2) (left - 1) (before ++ n ∷ []) λ lengths. tables_layout
    (record p { lengths = record { items = lengths } })
lengths_open p zero before h = absurd (omega arith)
lengths_open p (suc count) before h =
    let e : suc count - 1 ≡ count = omega arith in
    let two : length before + 1 + 1 ≡ length before + 2 = omega arith in
    rw (e, two) refl

-- a length is judged by its value
pub length_judged : (dialect : Dialect) (p : Params) (items : List Item) (rest : List ℕ) (x : ℕ)
    → following_all (header_layout dialect) items ≡ from_length p
    → 1 ≤ p.opcode_base - 1 - length p.lengths.items → rest ≡ []
    → field_spelt dialect.order (following_all (header_layout dialect) items) (rest ++ x ∷ [])
    ≡ judged (objection (opcode_length (length p.lengths.items + 1)) x) x
length_judged dialect p items rest x follows left none =
    rw (follows, lengths_open p (p.opcode_base - 1 - length p.lengths.items) p.lengths.items left, none)
    (ap (λ (n : ℕ). judged (objection (opcode_length (length p.lengths.items + 1)) n) n) (fixed-one dialect.order x))

abbrev with_lengths : Params → List ℕ → Params
with_lengths p lengths = record p { lengths = record { items = lengths } }

-- another length follows, or the tables
pub next_length : (p : Params) (n : ℕ) (more : List ℕ) → 1 ≤ p.opcode_base - 1 - length p.lengths.items
    → more ≡ p.lengths.items ++ n ∷ []
    → following (from_length p) (number_is n) ≡ from_length (with_lengths p more)
next_length p n more left e =
    let ls = p.lengths.items in
    let at : length more + 1 ≡ length ls + 2 = omega (arith, ap length e, length-append ls (n ∷ [])) in
    let fewer : p.opcode_base - 1 - length more ≡ p.opcode_base - 1 - length ls - 1 =
    omega (arith, ap length e, length-append ls (n ∷ [])) in
    rw (lengths_open p (p.opcode_base - 1 - length ls) ls left, at, fewer, e) refl

-- where none are left, the tables follow
pub lengths_whole : (p : Params) → p.opcode_base ≤ length p.lengths.items + 1 → from_length p ≡ tables_layout p
lengths_whole p le =
    let none : p.opcode_base - 1 - length p.lengths.items ≡ 0 = omega arith in rw none refl

-- the first length
pub first_length : (p : Params) (n : ℕ) → p.lengths.items ≡ []
    → following (from_opcode_base p) (number_is n) ≡ from_length (record p { opcode_base = n })
first_length p n none = let all : n - 1 - 0 ≡ n - 1 = omega arith in rw (none, all) refl

late_as : (r : Parts) (items : List Item) (layout next : Layout) → layout ≡ next → Late r items layout
    → Late r items next
late_as r items layout next e late = subst (λ (l : Layout). Late r items l) e late

own_tables : (p : Params) → p.version ≡ 5 → tables_layout p ≡ table_layout p.format (from_files p)
own_tables p five = rw (eq-eqb p.version 5 five) refl

older_tables : (p : Params) → p.version ≢ 5 → tables_layout p ≡ from_older_directories p
older_tables p other = rw (ne_eqb p.version 5 other) refl

-- the tables follow
before_tables : (r : Parts) (items : List Item) → r.params.version ≡ 5 → Late r items (tables_layout r.params)
    → IsAt r phase.Directories items []
before_tables r items five late = record {
  layout = tables_layout r.params;
  tail = late.tail;
  at = table_begins r.dialect.order r.params.format r.table (from_files r.params) (tables_layout r.params) late.fresh
      (own_tables r.params five);
}

before_lists : (r : Parts) (items : List Item) → r.params.version ≢ 5 → Late r items (tables_layout r.params)
    → IsAt r phase.OlderDirectories items []
before_lists r items other late = record {
  layout = tables_layout r.params;
  tail = late.tail;
  at = (
    list_begins kind.Directories r.params.format r.list (from_older_files r.params) (tables_layout r.params)
        late.unlisted (older_tables r.params other),
    late.fresh,
  );
}

at_first_table : (r : Parts) (items : List Item) → Late r items (tables_layout r.params)
    → IsAt r (first_table r.params.version) items []
at_first_table r items late = elim (cases_eq r.params.version 5) [
  | inl five ↦ rw (eq-eqb r.params.version 5 five) (before_tables r items five late)
  | inr other ↦ rw (ne_eqb r.params.version 5 other) (before_lists r items other late)
]

-- the next length of an opcode follows, or the tables
pub at_lengths : (r : Parts) (items : List Item) (p : Phase) → Late r items (from_length r.params)
    → p ≡ (if nat_lt (length r.params.lengths.items + 1) r.params.opcode_base then phase.OpcodeLength
    else first_table r.params.version) → IsAt r p items []
at_lengths r items p late is = elim (cases_lt (length r.params.lengths.items + 1) r.params.opcode_base) [
  | inl lt ↦ subst (λ (q : Phase). IsAt r q items [])
      (sym (is ∙ ap (λ (b : Bool). if b then phase.OpcodeLength else first_table r.params.version) (lt-ltb _ _ lt)))
      (late, refl)
  | inr le ↦ subst (λ (q : Phase). IsAt r q items [])
      (sym (is ∙ ap (λ (b : Bool). if b then phase.OpcodeLength else first_table r.params.version) (le-ltb _ _ le)))
      (at_first_table r items (late_as r items (from_length r.params) (tables_layout r.params)
      (lengths_whole r.params (omega (arith, le))) late))
]

minimum_at : (r : Parts) (items : List Item) → Late r items (after_minimum_length r.params)
    → r.params.lengths.items ≡ [] → IsAt r (phase.Byte (field_after_minimum r.params.version)) items []
minimum_at r items late none = elim (cases_lt r.params.version 4) [
  | inl old ↦ rw (lt-ltb r.params.version 4 old) (late_as r items _ _ (before r.params old) late, refl, none)
  | inr new ↦ rw (le-ltb r.params.version 4 new) (late_as r items _ _ (from r.params new) late, refl, none)
] where
  before : (p : Params) → p.version < 4 → after_minimum_length p ≡ from_default_is_stmt p
  before p old = rw (lt-ltb p.version 4 old) refl

  from : (p : Params) → 4 ≤ p.version → after_minimum_length p ≡ from_maximum_operations p
  from p new = rw (le-ltb p.version 4 new) refl

-- the field after minimum_instruction_length
pub at_minimum : (r : Parts) (items : List Item) (f : ByteField) → Late r items (after_minimum_length r.params)
    → r.params.lengths.items ≡ [] → f ≡ field_after_minimum r.params.version → IsAt r (phase.Byte f) items []
at_minimum r items f late none is = subst (λ (g : ByteField). IsAt r (phase.Byte g) items []) (sym is)
    (minimum_at r items late none)

-- the next phase, by how many lengths there are
pub next_at : (n m base v : ℕ) → m ≡ n
    → (if nat_lt (n + 1) base then phase.OpcodeLength else first_table v)
    ≡ (if nat_lt (m + 1) base then phase.OpcodeLength else first_table v)
next_at n m base v e = ap (λ (k : ℕ). if nat_lt (k + 1) base then phase.OpcodeLength else first_table v) (sym e)

-- at the length of an opcode, one is left
pub some_left : (r : HeadReader) → r.phase ≡ phase.OpcodeLength
    → 1 ≤ r.params.opcode_base - 1 - length r.params.lengths.items
some_left r e =
    let fit : nat_lt (length r.params.lengths.items + 1) r.params.opcode_base ≡ true =
    sym (ap (λ (p : Phase). lengths_fit p (length r.params.lengths.items) r.params.opcode_base) e) ∙ r.lengths in
    let lt : length r.params.lengths.items + 1 < r.params.opcode_base = ltb-true _ _ fit in
    omega (arith, lt)
