-- A header that bytes spell can be built and written, and its fields hold the cells of its tables. DWARF 5, section
-- 6.2.4.
use Rattle.std.proofs.Common.{◌≡◌, ℕ, zero, suc, ◌+◌, ◌-◌, ◌^◌, ◌<◌, Bool, true, false, ◌==◌, nat_lt, if◌then◌else◌}
use Rattle.std.proofs.Common.{List, [], ◌∷◌, ◌++◌, length, Option, Some, None, refl, sym, ap, subst, ◌∙◌, lit≤, lit<}
use Rattle.std.proofs.Common.{arith, append_assoc, inl, inr, Ok, drop, ◌||◌, ◌≤◌, sum_by}
use Rattle.std.proofs.lemmas.List.{append-nil, length-append}
use Rattle.std.specs.Int.{w8}
use Rattle.std.specs.Int.RustNames.{FitsSigned}
use Rattle.std.proofs.lemmas.Bool.{cases_lt, cases_eq, ltb-true, lt-ltb, le-ltb, eq-eqb, ne_eqb}
use Rattle.dl_num.specs.declared.fixed.Order.{Order}
use Rattle.dl_num.specs.Fixed.{is_number_size}
use Rattle.dl_num.specs.Laws.{AllBytes}
use Rattle.dl_table.specs.declared.form.Format.{Format}
use Rattle.dl_table.specs.declared.form.Format.TheVariants.{Dwarf32, Dwarf64}
use Rattle.dl_table.specs.declared.fault.FaultKind.{FaultKind}
use Rattle.dl_table.specs.declared.fault.FaultKind.TheVariants as fault
use Rattle.dl_field.specs.declared.params.Params.{Params}
use Rattle.dl_table.specs.TableData.{TableData}
use Rattle.dl_field.specs.HeaderData.{HeaderData, header_cells}
use Rattle.dl_table.specs.Value.{offset_size, good}
use Rattle.dl_field.specs.Layout.{address_size, objection, Layout, foreign_version, Item, following, table_layout}
use Rattle.dl_field.specs.Layout.{listed_file, field_spelt}
use Rattle.dl_field.specs.Field.{IsInitialLength}
use Rattle.dl_field.proofs.FieldLemmas.{field_empty, none_some}
use Rattle.dl_head.specs.HeaderLayout.{from_files, from_end, from_older_directories, from_older_files}
use Rattle.dl_head.specs.HeaderLayout.{from_default_is_stmt, after_minimum_length, from_maximum_operations}
use Rattle.dl_head.specs.HeaderLayout.{from_older_version, older_params, initial_size, tables_layout, lengths_layout}
use Rattle.dl_head.specs.HeaderLayout.{from_minimum_length, from_address_size, format_alone, header_layout, signed_byte}
use Rattle.dl_head.specs.HeaderLayout.{fixed_part}
use Rattle.dl_head.specs.Dialect.{older_size, older_bytes}
use Rattle.dl_head.specs.declared.dialect.Dialect.{Dialect}
use Rattle.dl_head.specs.declared.dialect.Older.{Older}
use Rattle.dl_head.specs.declared.dialect.Older.TheVariants as older
use Rattle.dl_head.specs.declared.dialect.AddressSize.TheVariants as size
use Rattle.dl_head.specs.Header.{unit_end, SpellsFields}
use Rattle.dl_head.proofs.Openings.{after_length, opening_of}
use Rattle.dl_head.proofs.OrderLemmas.{initial_size-le}
use Rattle.dl_head.specs.Built.{are_operations, is_version, wrong_length}
use Rattle.dl_table.specs.Sound.{IsSoundTable}
use Rattle.dl_head.specs.Sound.{IsSoundHeader}
use Rattle.dl_head.specs.WrittenLaws.{ReadIsSound}
use Rattle.dl_field.proofs.FieldLaws.{field_is_judged}
use Rattle.dl_head.proofs.OneFieldMore.{sfits_signed}
use Rattle.dl_head.proofs.HeaderSound.{no_fault}
use Rattle.dl_head.proofs.ReadValues.{front_bytes}
use Rattle.dl_head.proofs.ReadTables.{Makes, After, TableRead, at_once, joined, none_made, first, after_number}
use Rattle.dl_head.proofs.ReadTables.{after_table, after_list, last}
use Rattle.dl_table.specs.TableCells.{table_cells}
use Rattle.dl_field.specs.Cells.{item_cells}

-- ---- sizes

size_fits : (o : Older) (n : ℕ) → older_bytes o ≡ Some n → is_number_size n ≡ true
size_fits older.Foreign n e = absurd (none_some {a = n} refl e)
size_fits (older.Read size.One) n e = let f : 1 ≡ n = cc in rw (← f) refl
size_fits (older.Read size.Two) n e = let f : 2 ≡ n = cc in rw (← f) refl
size_fits (older.Read size.Four) n e = let f : 4 ≡ n = cc in rw (← f) refl
size_fits (older.Read size.Eight) n e = let f : 8 ≡ n = cc in rw (← f) refl

pub older_fits : (d : Dialect) (v n : ℕ) → older_size d v ≡ Some n → is_number_size n ≡ true
older_fits d v n e = on ((v == 2) || (v == 3) || (v == 4)) e where
  on : (b : Bool) → (if b then older_bytes d.older else None) ≡ Some n → is_number_size n ≡ true
  on true e = size_fits d.older n e
  on false e = absurd (none_some {a = n} refl e)

-- an older version that is read is one of headers
older_version : (d : Dialect) (v n : ℕ) → older_size d v ≡ Some n → is_version v ≡ true
older_version d v n e = on (v == 2) (v == 3) (v == 4) e where
  on : (b c f : Bool) → (if b || c || f then older_bytes d.older else None) ≡ Some n
      → (b || (c || (f || (v == 5)))) ≡ true
  on true c f e = refl
  on false true f e = refl
  on false false true e = refl
  on false false false e = absurd (none_some {a = n} refl e)

-- there are no more fields than bytes
items_short : (order : Order) (layout : Layout) (items : List Item) (w : List ℕ) → SpellsFields order layout items w
    → length items ≤ length w
items_short order layout [] w s = omega arith
items_short order layout (i ∷ items) w s =
    omega (
      arith,
      some_bytes s.0 s.3,
      items_short order (following layout i) items s.1 s.4,
      ap length s.2,
      length-append s.0 s.1,
    )
  where
    some_bytes : (v : List ℕ) → field_spelt order layout v ≡ good i → 1 ≤ length v
    some_bytes [] e = absurd (none_some {a = Ok i} (field_empty order layout) e)
    some_bytes (b ∷ v) e = omega arith

initial_near : (order : Order) (f : Format) (n : ℕ) (w : List ℕ) → IsInitialLength order f n w → n ≤ 2 ^ 40
initial_near order Dwarf32 n w is = omega (arith, is.1)
initial_near order Dwarf64 n w is = is.5

offset_near : (f : Format) → offset_size f ≤ 8
offset_near Dwarf32 = lit≤ tt
offset_near Dwarf64 = lit≤ tt

fixed_near : (f : Format) (v : ℕ) → fixed_part f v ≤ 12
fixed_near f v = elim (cases_eq v 5) [
  | inl five ↦ rw (eq-eqb v 5 five) (omega (arith, offset_near f))
  | inr other ↦ rw (ne_eqb v 5 other) (omega (arith, offset_near f))
]

-- the unit ends near
unit_near : (dialect : Dialect) (items : List Item) (w : List ℕ) (f : Format) (n : ℕ)
    → SpellsFields dialect.order (header_layout dialect) items w → unit_end items ≡ Some (initial_size f + n)
    → initial_size f + n ≤ 2 ^ 41
unit_near dialect [] w f n s e = absurd (none_some {a = initial_size f + n} refl e)
unit_near dialect (i ∷ items) w f n s e =
    let is = (field_is_judged dialect.order (header_layout dialect) i s.0).1 s.3 in
    let same : Some (initial_size is.0 + is.1) ≡ Some (initial_size f + n) =
    sym (ap (λ (j : Item). unit_end (j ∷ items)) is.2) ∙ e in
    let whole : initial_size is.0 + is.1 ≡ initial_size f + n = cc in
    omega (arith, whole, initial_near dialect.order is.0 is.1 s.0 is.3, initial_size-le is.0)

-- ---- what follows fields that make a header

-- Known: what is known of the bytes, as in `Makes`; limit: how many fields there are at most
module _ (order : Order) (h : HeaderData) (Known : Type 0) (limit : ℕ) (small : Known → limit < 2 ^ 64) where
  -- what is so of the header, and of the values from one of its fields on
  pub record HeaderRead (items : List Item) : Type 0 where
    pub sound : Known → IsSoundHeader h
    pub cells : sum_by item_cells items ≡ header_cells h

  -- after fields that are no cells
  read_on : {layout : Layout} {items : List Item} (a : After order h Known layout 0 items) → HeaderRead a.later
      → HeaderRead items
  read_on a r = record { sound = r.sound; cells = omega (arith, a.cells, r.cells) }

  -- what is known of the params before the fields from minimum_instruction_length on
  record Fine (p : Params) : Type 0 where
    pub version : is_version p.version ≡ true
    pub size : is_number_size p.address_size ≡ true

  -- ---- the other fields

  after_lengths : (opcode count : ℕ) (before : List ℕ) (next : List ℕ → Layout) (items : List Item)
      → Makes order h Known (lengths_layout opcode count before next) items
      → (ns : List ℕ) × (length ns ≡ count) × (wrong_length opcode ns ≡ None)
      × After order h Known (next (before ++ ns)) 0 items
  after_lengths opcode zero before next items m =
      ([], refl, refl, at_once order h Known (rw (append-nil before) m))
  after_lengths opcode (suc count) before next items m =
      let n = after_number order h Known (at_once order h Known m) in
      let more = after_lengths (opcode + 1) count (before ++ n.number ∷ []) next n.tail.later n.tail.makes in (
        n.number ∷ more.0,
        omega (arith, more.1),
        rw n.right more.2,
        joined order h Known 0 n.tail (subst (λ (l : List ℕ). After order h Known (next l) 0 n.tail.later)
            (append_assoc before (n.number ∷ []) more.0) more.3) (omega arith),
      )

  some_left : (n : ℕ) (f : FaultKind) → (if n == 0 then Some f else None) ≡ None → nat_lt 0 n ≡ true
  some_left n f e = elim (cases_lt 0 n) [
    | inl lt ↦ lt-ltb 0 n lt
    | inr le ↦ absurd (none_some {a = f} refl (sym e ∙ zero_fails (eq-eqb n 0 (omega arith))))
  ] where
    zero_fails : (n == 0) ≡ true → (if n == 0 then Some f else None) ≡ Some f
    zero_fails z = rw z refl

  size_right : (n : ℕ) → objection address_size n ≡ None → is_number_size n ≡ true
  size_right n e = right (is_number_size n) e where
    right : (b : Bool) → (if b then None else Some fault.AddressSize) ≡ None → b ≡ true
    right true e = refl
    right false e = absurd cc

  module _ (p : Params) (items : List Item) (short : length items ≤ limit) (fine : Fine p)
      (operations : are_operations p.version p.maximum_operations_per_instruction ≡ true)
      (lines : nat_lt 0 p.line_range ≡ true) (count : length p.lengths.items + 1 ≡ p.opcode_base)
      (lengths : wrong_length 1 p.lengths.items ≡ None)
      (most : Known → (p.maximum_operations_per_instruction < 2 ^ 8) × FitsSigned w8 p.line_base) where
    tables_end : (d : TableData) (later : List Item)
        → TableRead order h Known p.format (from_end p d) 0 later → d.format ≡ p.format → (Known → IsSoundTable d)
        → sum_by item_cells items ≡ table_cells d + sum_by item_cells later → HeaderRead items
    tables_end d later f same sound cells =
        let g : HeaderData = record { params = p; directories = d; files = f.table } in
        let end = last order h Known g f.later f.makes in
        record {
          sound = λ known. subst IsSoundHeader end.0 (record {
            params = no_fault p d f.table fine.version fine.size operations lines count lengths same f.same;
            maximum_operations = (most known).0;
            line_base = (most known).1;
            directories = sound known;
            files = f.sound known;
          });
          cells = subst (λ (k : HeaderData). sum_by item_cells items ≡ header_cells k) end.0
              (omega (arith, cells, f.cells, end.1));
        }

    own_read : Makes order h Known (table_layout p.format (from_files p)) items → HeaderRead items
    own_read m =
        let d = after_table order h Known p.format (from_files p) items m in
        let f = after_table order h Known p.format (from_end p d.table) d.later d.makes in
        tables_end d.table d.later f d.same d.sound (omega (arith, d.cells))

    list_read : Makes order h Known (from_older_directories p) items → HeaderRead items
    list_read m =
        let d = after_list order h Known limit p.format [] (from_older_files p) (length items) [] items
        (λ known t later le makes. omega (arith, small known, le)) tt (λ known. tt) (omega arith)
        (omega (arith, short)) m in
        let f = after_list order h Known limit p.format (drop 1 listed_file) (from_end p d.table) (length d.later) []
        d.later (λ known t later le makes. omega (arith, small known, le)) (lit< tt, (lit< tt, (lit< tt, tt)))
        (λ known. tt) (omega arith) (omega (arith, short, d.fewer)) d.makes in
        tables_end d.table d.later f d.same d.sound (omega (arith, d.cells))

    tables_read : Makes order h Known (tables_layout p) items → HeaderRead items
    tables_read m = elim (cases_eq p.version 5) [
      | inl five ↦ own_read (rw (eq-eqb p.version 5 five) at m)
      | inr other ↦ list_read (rw (ne_eqb p.version 5 other) at m)
    ]

  -- the fields from default_is_stmt on
  default_read : (p : Params) (items : List Item) → length items ≤ limit → Fine p
      → are_operations p.version p.maximum_operations_per_instruction ≡ true
      → (Known → p.maximum_operations_per_instruction < 2 ^ 8)
      → Makes order h Known (from_default_is_stmt p) items → HeaderRead items
  default_read p items short fine operations most m =
      let stmt = after_number order h Known (at_once order h Known m) in
      let base = after_number order h Known stmt.tail in
      let range = after_number order h Known base.tail in
      let opcodes = after_number order h Known range.tail in
      let q : Params = record p {
        default_is_stmt = stmt.number;
        line_base = signed_byte base.number;
        line_range = range.number;
        opcode_base = opcodes.number;
      } in
      let lengths = after_lengths 1 (opcodes.number - 1) []
      (λ ns. tables_layout (record q { lengths = record { items = ns } })) opcodes.tail.later opcodes.tail.makes in
      let positive = ltb-true 0 opcodes.number (some_left opcodes.number fault.OpcodeBase opcodes.right) in
      read_on opcodes.tail (read_on lengths.3
      (tables_read (record q { lengths = record { items = lengths.0 } }) lengths.3.later
      (omega (arith, short, opcodes.tail.fewer, lengths.3.fewer))
      (record { version = fine.version; size = fine.size }) operations
      (some_left range.number fault.LineRange range.right) (omega (arith, lengths.1)) lengths.2
      (λ known. (most known, sfits_signed base.number (base.byte known refl))) lengths.3.makes))

  after_minimum_read : (p : Params) (items : List Item) → length items ≤ limit → Fine p
      → (p.version < 4 → p.maximum_operations_per_instruction ≡ 1) → Makes order h Known (after_minimum_length p) items
      → HeaderRead items
  after_minimum_read p items short fine one m = elim (cases_lt p.version 4) [
    | inl old ↦ default_read p items short fine
        (rw (lt-ltb p.version 4 old) (eq-eqb p.maximum_operations_per_instruction 1 (one old)))
        (λ known. omega (arith, one old)) (rw (lt-ltb p.version 4 old) at m)
    | inr new ↦ from_four new (rw (le-ltb p.version 4 new) at m)
  ] where
    from_four : 4 ≤ p.version → Makes order h Known (from_maximum_operations p) items → HeaderRead items
    from_four new t =
        let maximum = after_number order h Known (at_once order h Known t) in
        read_on maximum.tail (default_read (record p { maximum_operations_per_instruction = maximum.number })
        maximum.tail.later (omega (arith, short, maximum.tail.fewer))
        (record { version = fine.version; size = fine.size })
        (rw (le-ltb p.version 4 new) (some_left maximum.number fault.MaxOps maximum.right))
        (λ known. maximum.byte known refl) maximum.tail.makes)

  -- those from minimum_instruction_length on
  late_read : (p : Params) (items : List Item) → length items ≤ limit → Fine p
      → (p.version < 4 → p.maximum_operations_per_instruction ≡ 1)
      → Makes order h Known (from_minimum_length p) items → HeaderRead items
  late_read p items short fine one m =
      let minimum = after_number order h Known (at_once order h Known m) in
      read_on minimum.tail (after_minimum_read (record p { minimum_instruction_length = minimum.number })
      minimum.tail.later (omega (arith, short, minimum.tail.fewer))
      (record { version = fine.version; size = fine.size }) one minimum.tail.makes)

  -- those of version 5 from address_size on
  fields_read : (unit : ℕ) (p : Params) (items : List Item) → length items ≤ limit → p.version ≡ 5
      → Makes order h Known (from_address_size unit p) items → HeaderRead items
  fields_read unit p items short five m =
      let address = after_number order h Known (at_once order h Known m) in
      let segment = after_number order h Known address.tail in
      let size = after_number order h Known segment.tail in
      read_on size.tail (late_read
      (record p { address_size = address.number; segment_selector_size = segment.number }) size.tail.later
      (omega (arith, short, size.tail.fewer))
      (record { version = ap is_version five; size = size_right address.number address.right })
      (λ lt. absurd (omega (arith, lt, five))) size.tail.makes)

  -- those of an older version from header_length on
  older_read : (format : Format) (unit v : ℕ) (o : Option ℕ) (items : List Item) → length items ≤ limit
      → ((n : ℕ) → o ≡ Some n → is_number_size n ≡ true) → ((n : ℕ) → o ≡ Some n → is_version v ≡ true)
      → Makes order h Known (from_older_version format unit v o) items → HeaderRead items
  older_read format unit v None [] short fits is_v m = absurd (none_made order h Known m.made)
  older_read format unit v None (i ∷ items) short fits is_v m =
      absurd ((field_is_judged order (foreign_version v) i m.spelt.0).1 m.spelt.3)
  older_read format unit v (Some n) items short fits is_v m =
      let size = after_number order h Known (at_once order h Known m) in
      read_on size.tail (late_read (older_params format v n) size.tail.later (omega (arith, short, size.tail.fewer))
      (record { version = is_v n refl; size = fits n refl }) (λ lt. refl) size.tail.makes)

  pub whole_read : (dialect : Dialect) (items : List Item) → dialect.order ≡ order → length items ≤ limit
      → Makes order h Known (header_layout dialect) items → HeaderRead items
  whole_read dialect items same short m =
      let f = first order h Known (header_layout dialect) items (none_made order h Known) m in
      let next = subst (λ (i : Item). After order h Known (following (header_layout dialect) i) (item_cells i) items)
      f.is.2 f.tail in
      let v = after_number order h Known {next = after_length dialect f.is.0 f.is.1} next in
      let fewer : length v.tail.later ≤ limit = omega (arith, short, v.tail.fewer) in
      read_on v.tail (elim (cases_eq v.number 5) [
        | inl five ↦ fields_read f.is.1 (format_alone f.is.0) v.tail.later fewer refl
            (rw (eq-eqb v.number 5 five) at v.tail.makes)
        | inr other ↦ older_read f.is.0 f.is.1 v.number (older_size dialect v.number) v.tail.later fewer
            (older_fits dialect v.number) (older_version dialect v.number)
            (rw (ne_eqb v.number 5 other) at v.tail.makes)
      ])

pub header_is_sound : ReadIsSound
header_is_sound dialect h w is all =
    let fields = front_bytes is.fields is.padding (subst AllBytes is.whole all) in
    let o = opening_of dialect is.items is.fields (length w) is.spelt is.end in
    let end : Some (initial_size o.format + fixed_part o.format o.of_version + o.header) ≡ Some (length w) =
    sym o.end ∙ is.end in
    let ends : initial_size o.format + fixed_part o.format o.of_version + o.header ≡ length w = cc in
    let near = unit_near dialect is.items is.fields o.format o.unit_length is.spelt o.unit in
    let part = fixed_near o.format o.of_version in
    (whole_read dialect.order h (Unit {0}) (length w)
    (λ known. omega (arith, ends, near, part, o.fits, initial_size-le o.format)) dialect is.items refl
    (omega (
      arith,
      items_short dialect.order (header_layout dialect) is.items is.fields is.spelt,
      ap length is.whole,
      length-append is.fields is.padding,
    ))
    (record { bytes = is.fields; all = λ known. fields; spelt = is.spelt; made = is.made })).sound tt
