-- A table that is read can be built, of version 5 and of versions 2 to 4. DWARF 5, section 6.2.4.1; DWARF 4, section
-- 6.2.4.
use Rattle.std.proofs.Common.{◌≡◌, ℕ, zero, suc, ◌+◌, ◌^◌, ◌<◌, Bool, true, false, not, ◌==◌, nat_lt, if◌then◌else◌}
use Rattle.std.proofs.Common.{List, [], ◌∷◌, ◌++◌, length, Option, Some, None, refl, sym, ap, subst, lit<, arith}
use Rattle.std.proofs.Common.{append_assoc, inl, inr, drop, ◌≤◌, sum_by}
use Rattle.std.proofs.lemmas.List.Sums.{sum_by-cons, sum_by_push}
use Rattle.dl_table.specs.TableCells.{table_cells, value_cells}
use Rattle.dl_field.specs.Cells.{item_cells}
use Rattle.std.specs.List.{AllByRecursion}
use Rattle.std.proofs.lemmas.List.{append-nil, length-append}
use Rattle.std.proofs.lemmas.Bool.{ltb-true, eqb-true, eq-eqb}
use Rattle.dl_num.specs.declared.fixed.Order.{Order}
use Rattle.dl_num.specs.Laws.{AllBytes}
use Rattle.dl_table.specs.declared.form.Format.{Format}
use Rattle.dl_table.specs.declared.form.Form.{Form}
use Rattle.dl_table.specs.declared.form.Form.TheVariants as form
use Rattle.dl_table.specs.declared.fault.FaultKind.TheVariants as fault
use Rattle.dl_table.specs.declared.table.Pair.{Pair}
use Rattle.dl_table.specs.TableData.{TableData}
use Rattle.dl_field.specs.HeaderData.{HeaderData}
use Rattle.dl_table.specs.Value.{Value, text}
use Rattle.dl_field.specs.Field.{IsNumber, IsField}
use Rattle.dl_field.specs.Layout.{NumberField, content_code, entry_count, number_size, objection, Layout, number_then}
use Rattle.dl_field.specs.Layout.{form_then, value_then, last_entry, Item, following, following_all, pairs_layout}
use Rattle.dl_field.specs.Layout.{entry_layout, entries_layout, table_layout, path_or_end, listed_file}
use Rattle.dl_table.specs.declared.fault.BuildFault.TheVariants as build
use Rattle.std.specs.Option.{option_map}
use Rattle.dl_head.specs.HeaderLayout.{format_alone}
use Rattle.dl_head.specs.Header.{SpellsFields, header_made}
use Rattle.dl_head.specs.TableSpelt.{alone}
use Rattle.dl_head.specs.ListSpelt.{list_alone}
use Rattle.dl_field.specs.declared.list_reader.ListKind.{ListKind}
use Rattle.dl_field.specs.declared.list_reader.ListKind.TheVariants as kind
use Rattle.dl_table.specs.Built.{fits_form, wrong_value, entry_fault_of}
use Rattle.dl_table.specs.Sound.{AreContents, IsSoundTable}
use Rattle.dl_field.proofs.FieldLemmas.{none_some}
use Rattle.dl_field.proofs.FieldLaws.{field_is_judged}
use Rattle.dl_table.proofs.SoundLemmas.{all_push, right_entry}
use Rattle.dl_head.proofs.ReadValues.{front_bytes, back_bytes, fixed_below, no_zeros, value_fits}

-- ---- what follows fields that make a header

-- Known: what is known of the bytes, from which it follows that they are bytes. Their cells are counted without it.
module _ (order : Order) (h : HeaderData) (Known : Type 0) where
  -- the fields of these values, from a layout on, make the header
  pub record Makes (layout : Layout) (items : List Item) : Type 0 where
    pub bytes : List ℕ
    pub all : Known → AllBytes bytes
    pub spelt : SpellsFields order layout items bytes
    pub made : header_made (following_all layout items) ≡ Some h

  -- after fields that hold `held` cells, later ones make it from this layout on
  pub record After (layout : Layout) (held : ℕ) (items : List Item) : Type 0 where
    pub later : List Item
    pub makes : Makes layout later
    pub fewer : length later ≤ length items
    pub cells : sum_by item_cells items ≡ held + sum_by item_cells later

  -- after none, and after some and then others
  pub at_once : {layout : Layout} {items : List Item} → Makes layout items → After layout 0 items
  at_once {layout} {items} m = record { later = items; makes = m; fewer = omega arith; cells = omega arith }

  pub joined : {l m : Layout} {j k : ℕ} {items : List Item} (n : ℕ) (a : After l j items) → After m k a.later → n
      ≡ j + k
      → After m n items
  joined n a b e = record {
    later = b.later;
    makes = b.makes;
    fewer = omega (arith, a.fewer, b.fewer);
    cells = omega (arith, e, a.cells, b.cells);
  }

  pub none_made : ◌≡◌ {A = Option HeaderData} None (Some h) → ⊥
  none_made e = none_some {a = h} refl e

  -- the first field, and the others
  pub record First (layout : Layout) (items : List Item) : Type 0 where
    pub item : Item
    pub bytes : List ℕ
    pub all : Known → AllBytes bytes
    pub is : IsField order layout item bytes
    pub tail : After (following layout item) (item_cells item) items
    pub less : length tail.later + 1 ≤ length items

  pub first : (layout : Layout) (items : List Item) → (header_made layout ≡ Some h → ⊥) → Makes layout items
      → First layout items
  first layout [] more m = absurd (more m.made)
  first layout (i ∷ items) more m =
      let s = m.spelt in
      let whole = λ (known : Known). subst AllBytes s.2 (m.all known) in
      record {
        item = i;
        bytes = s.0;
        all = λ known. front_bytes s.0 s.1 (whole known);
        is = (field_is_judged order layout i s.0).1 s.3;
        tail = record {
          later = items;
          makes = record { bytes = s.1; all = λ known. back_bytes s.0 s.1 (whole known); spelt = s.4; made = m.made };
          fewer = omega arith;
          cells = sum_by-cons item_cells i items;
        };
        less = omega arith;
      }

  -- a number, a form and a value more
  pub record Number (field : NumberField) (next : ℕ → Layout) (held : ℕ) (items : List Item) : Type 0 where
    pub number : ℕ
    pub right : objection field number ≡ None
    pub byte : Known → number_size field ≡ Some 1 → number < 256
    pub tail : After (next number) held items

  pub after_number : {field : NumberField} {next : ℕ → Layout} {held : ℕ} {items : List Item}
      → After (number_then field next) held items → Number field next held items
  after_number {field} {next} {held} a =
      let f = first (number_then field next) a.later none_made a.makes in
      record {
        number = f.is.0;
        right = f.is.3;
        byte = λ known e. fixed_below order 1 f.is.0 f.bytes (f.all known)
            (subst (λ (k : Option ℕ). IsNumber order k f.is.0 f.bytes) e f.is.2);
        tail = joined held a (subst (λ (i : Item). After (following (number_then field next) i) (item_cells i) a.later)
            f.is.1 f.tail) (omega arith);
      }

  after_form : {next : Form → Layout} {held : ℕ} {items : List Item} → After (form_then next) held items
      → (f : Form) × After (next f) (held + 1) items
  after_form {next} {held} a =
      let f = first (form_then next) a.later none_made a.makes in (
        f.is.0,
        joined (held + 1) a (subst (λ (i : Item). After (following (form_then next) i) (item_cells i) a.later) f.is.1
            f.tail) refl,
      )

  after_value : (format : Format) (form : Form) (next : Value → Layout) (items : List Item)
      → Makes (value_then format form next) items
      → (v : Value) × (Known → fits_form format form v ≡ true) × After (next v) (value_cells v) items
  after_value format form next items m =
      let f = first (value_then format form next) items none_made m in (
        f.is.0,
        λ known. value_fits order format form f.is.0 f.bytes (f.all known) f.is.2,
        subst (λ (i : Item). After (following (value_then format form next) i) (item_cells i) items) f.is.1 f.tail,
      )

  -- ---- tables

  small_content : (n : ℕ) → objection content_code n ≡ None → n < 2 ^ 64
  small_content n e = below (nat_lt n (2 ^ 64)) (λ t. ltb-true n (2 ^ 64) t) e where
    below : (b : Bool) → (b ≡ true → n < 2 ^ 64) → (if b then None else Some fault.LebRange) ≡ None → n < 2 ^ 64
    below true lt e = lt refl
    below false lt e = absurd cc

  after_pairs : (count : ℕ) (before : List Pair) (next : List Pair → Layout) (items : List Item)
      → Makes (pairs_layout count before next) items
      → (pairs : List Pair) × AreContents pairs × (length pairs ≡ count) × After (next (before ++ pairs)) count items
  after_pairs zero before next items m = ([], tt, refl, at_once (rw (append-nil before) m))
  after_pairs (suc count) before next items m =
      let code = after_number (at_once m) in
      let f = after_form code.tail in
      let pair : Pair = record { content = code.number; form = f.0 } in
      let more = after_pairs count (before ++ pair ∷ []) next f.1.later f.1.makes in (
        pair ∷ more.0,
        (small_content code.number code.right, more.1),
        omega (arith, more.2),
        joined (suc count) f.1
            (subst (λ (l : List Pair). After (next l) count f.1.later) (append_assoc before (pair ∷ []) more.0) more.3)
            (omega arith),
      )

  after_entry : (format : Format) (i : ℕ) (pairs : List Pair) (before : List Value) (next : List Value → Layout)
      (items : List Item) → Makes (entry_layout format pairs before next) items
      → (values : List Value) × (Known → wrong_value format i pairs values ≡ None)
      × After (next (before ++ values)) (sum_by value_cells values) items
  after_entry format i [] before next items m = ([], λ known. refl, at_once (rw (append-nil before) m))
  after_entry format i (p ∷ pairs) before next items m =
      let v = after_value format p.form _ items m in
      let more = after_entry format (i + 1) pairs (before ++ v.0 ∷ []) next v.2.later v.2.makes in (
        v.0 ∷ more.0,
        λ known. rw (v.1 known) (more.1 known),
        joined (sum_by value_cells (v.0 ∷ more.0)) v.2
            (subst (λ (l : List Value). After (next l) (sum_by value_cells more.0) v.2.later)
            (append_assoc before (v.0 ∷ []) more.0) more.2)
            (sum_by-cons value_cells v.0 more.0),
      )

  abbrev Right : Format → List Pair → List Value → Type 0
  Right format pairs values = entry_fault_of pairs (wrong_value format 0 pairs values) ≡ None

  abbrev entry_cells : List Value → ℕ
  entry_cells entry = sum_by value_cells entry

  after_entries : (format : Format) (pairs : List Pair) (count : ℕ) (before : List (List Value))
      (next : List (List Value) → Layout) (items : List Item) → (pairs ≡ [] → count ≡ 0)
      → Makes (entries_layout format pairs count before next) items
      → (entries : List (List Value)) × (Known → AllByRecursion (Right format pairs) entries) × (length entries ≡ count)
      × After (next (before ++ entries)) (sum_by entry_cells entries) items
  after_entries format pairs zero before next items some m =
      ([], λ known. tt, refl, at_once (rw (append-nil before) m))
  after_entries format pairs (suc count) before next items some m =
      let e = after_entry format 0 pairs [] (λ entry. entries_layout format pairs count (before ++ entry ∷ []) next)
      items m in
      let more = after_entries format pairs count (before ++ e.0 ∷ []) next e.2.later
      (λ none. absurd (let z = some none in omega arith)) e.2.makes in (
        e.0 ∷ more.0,
        λ known. (
          right_entry pairs (wrong_value format 0 pairs e.0) (λ none. (let z = some none in omega arith)) (e.1 known),
          more.1 known,
        ),
        omega (arith, more.2),
        joined (sum_by entry_cells (e.0 ∷ more.0)) e.2
            (subst (λ (l : List (List Value)). After (next l) (sum_by entry_cells more.0) e.2.later)
            (append_assoc before (e.0 ∷ []) more.0) more.3)
            (sum_by-cons entry_cells e.0 more.0),
      )

  no_entries : (n : ℕ) → objection (entry_count false) n ≡ None → n ≡ 0
  no_entries n e = none (n == 0) (λ t. eqb-true n 0 t) e where
    none : (b : Bool) → (b ≡ true → n ≡ 0) → (if b then None else Some fault.EmptyFormat) ≡ None → n ≡ 0
    none true z e = z refl
    none false z e = absurd cc

  few_entries : (b : Bool) (n : ℕ) → objection (entry_count b) n ≡ None → n < 2 ^ 64
  few_entries true n e = small_content n e
  few_entries false n e = let z = no_entries n e in omega arith

  -- a table with its facts, and what follows it; held: the cells of the entries before
  pub record TableRead (format : Format) (next : TableData → Layout) (held : ℕ) (items : List Item) : Type 0 where
    pub table : TableData
    pub same : table.format ≡ format
    pub sound : Known → IsSoundTable table
    pub later : List Item
    pub makes : Makes (next table) later
    pub fewer : length later ≤ length items
    pub cells : sum_by item_cells items + held ≡ table_cells table + sum_by item_cells later

  pub after_table : (format : Format) (next : TableData → Layout) (items : List Item)
      → Makes (table_layout format next) items → TableRead format next 0 items
  after_table format next items m =
      let count = after_number (at_once m) in
      let pairs = after_pairs count.number [] _ count.tail.later count.tail.makes in
      let entries = after_number (joined count.number count.tail pairs.3 (omega arith)) in
      let nothing : pairs.0 ≡ [] → entries.number ≡ 0 = λ none.
      let zero_pairs : count.number ≡ 0 = (let size = ap length none in omega (arith, pairs.2)) in
      no_entries entries.number (subst (λ (b : Bool). objection (entry_count b) entries.number ≡ None)
      (ap not (eq-eqb count.number 0 zero_pairs)) entries.right) in
      let all = after_entries format pairs.0 entries.number [] _ entries.tail.later nothing entries.tail.makes in
      record {
        table = record { format = format; pairs = pairs.0; entries = all.0 };
        same = refl;
        sound = λ known. record {
          contents = pairs.1;
          entries = all.1 known;
          count = let few = few_entries _ entries.number entries.right in omega (arith, all.2);
        };
        later = all.3.later;
        makes = all.3.makes;
        fewer = omega (arith, all.3.fewer, entries.tail.fewer);
        cells = omega (arith, entries.tail.cells, all.3.cells, pairs.2);
      }

  -- ---- tables of versions 2 to 4

  -- no table of so many entries and less that makes the header has too many
  abbrev pub IsCounted : (TableData → Layout) → ℕ → Type 0
  IsCounted next limit = Known → (t : TableData) (later : List Item) → length t.entries ≤ limit → Makes (next t) later
      → length t.entries < 2 ^ 64

  -- limit: how many entries and fields there are at most
  pub after_list : (limit : ℕ) (format : Format) (others : List Pair) (next : TableData → Layout) (n : ℕ)
      (entries : List (List Value)) (items : List Item) → IsCounted next limit → AreContents others
      → (Known → AllByRecursion (Right format (record { content = 1; form = form.String } ∷ others)) entries)
      → length items ≤ n → length entries + length items ≤ limit
      → Makes (path_or_end format (record { content = 1; form = form.String } ∷ others) entries next) items
      → TableRead format next (sum_by entry_cells entries) items
  after_list limit format others next n entries [] small contents right le room m = absurd (none_made m.made)
  after_list limit format others next zero entries (i ∷ items) small contents right le room m = absurd
      (omega (arith, le))
  after_list limit format others next (suc n) entries (i ∷ items) small contents right le room m =
      on f.is (λ more rest all less left t. after_list limit format others next n more rest small contents all less
      left t) where
        pairs : List Pair
        pairs = record { content = 1; form = form.String } ∷ others

        layout : Layout
        layout = path_or_end format pairs entries next

        f : First layout (i ∷ items)
        f = first layout (i ∷ items) none_made m

        on : IsField order layout f.item f.bytes
            → ((more : List (List Value)) (rest : List Item) → (Known → AllByRecursion (Right format pairs) more)
            → length rest ≤ n → length more + length rest ≤ limit → Makes (path_or_end format pairs more next) rest
            → TableRead format next (sum_by entry_cells more) rest)
            → TableRead format next (sum_by entry_cells entries) (i ∷ items)
        on (inl end) again =
            let t : TableData = record { format = format; pairs = pairs; entries = entries } in
            let makes = subst (λ (j : Item). Makes (following layout j) f.tail.later) end.0 f.tail.makes in
            record {
              table = t;
              same = refl;
              sound = λ known. record {
                contents = (lit< tt, contents);
                entries = right known;
                count = small known t f.tail.later (omega (arith, room)) makes;
              };
              later = f.tail.later;
              makes = makes;
              fewer = f.tail.fewer;
              cells = omega (arith, f.tail.cells, ap item_cells end.0);
            }
        on (inr path) again =
            let v = text path.0 in
            let t = subst (λ (j : Item). Makes (following layout j) f.tail.later) path.1 f.tail.makes in
            let e = after_entry format 1 others (v ∷ [])
            (λ entry. path_or_end format pairs (entries ++ entry ∷ []) next) f.tail.later t in
            let all = λ (known : Known).
            let fine : wrong_value format 0 pairs (v ∷ e.0) ≡ None = rw (no_zeros path.0 path.2.1) (e.1 known) in
            let one : Right format pairs (v ∷ e.0) = ap (option_map build.WrongValue) fine in
            all_push (Right format pairs) entries (v ∷ e.0) (right known) one in
            let size = length-append entries ((v ∷ e.0) ∷ []) in
            let more = again (entries ++ (v ∷ e.0) ∷ []) e.2.later all (omega (arith, e.2.fewer, f.less, le))
            (omega (arith, e.2.fewer, f.less, room, size)) e.2.makes in
            record {
              table = more.table;
              same = more.same;
              sound = more.sound;
              later = more.later;
              makes = more.makes;
              fewer = omega (arith, more.fewer, e.2.fewer, f.tail.fewer);
              cells = omega (
                arith,
                more.cells,
                e.2.cells,
                f.tail.cells,
                ap item_cells path.1,
                sum_by-cons value_cells v e.0,
                sum_by_push entry_cells entries (v ∷ e.0),
              );
            }

  pub last : (g : HeaderData) (items : List Item) → Makes (last_entry g) items
      → (g ≡ h) × (sum_by item_cells items ≡ 0)
  last g [] m = ((let e : ◌≡◌ {A = Option HeaderData} (Some g) (Some h) = m.made in cc), refl)
  last g (i ∷ items) m = absurd ((field_is_judged order (last_entry g) i m.spelt.0).1 m.spelt.3)

-- a table that is read alone
pub table_is_sound : (order : Order) (format : Format) (t : TableData) (items : List Item) (w : List ℕ) → AllBytes w
    → SpellsFields order (table_layout format (alone format)) items w
    → following_all (table_layout format (alone format)) items ≡ alone format t → IsSoundTable t
table_is_sound order format t items w all spelt whole =
    let h : HeaderData = record { params = format_alone format; directories = t; files = t } in
    let read = after_table order h (Unit {0}) format (alone format) items
    (record { bytes = w; all = λ known. all; spelt = spelt; made = ap header_made whole }) in
    let same = last order h (Unit {0})
    (record { params = format_alone format; directories = read.table; files = read.table }) read.later read.makes in
    subst IsSoundTable (ap (λ (g : HeaderData). g.directories) same.0) (read.sound tt)

-- a table of versions 2 to 4 that is read alone
pub list_is_sound : (order : Order) (format : Format) (k : ListKind) (t : TableData) (items : List Item) (w : List ℕ)
    → AllBytes w → length t.entries < 2 ^ 64 → SpellsFields order (list_alone format k) items w
    → following_all (list_alone format k) items ≡ alone format t → IsSoundTable t
list_is_sound order format k t items w all few spelt whole =
    let r = read k (record { bytes = w; all = λ known. all; spelt = spelt; made = ap header_made whole }) in
    subst IsSoundTable (ap (λ (g : HeaderData). g.directories) (same r.table r.later r.makes)) (r.sound tt)
  where
    h : HeaderData
    h = record { params = format_alone format; directories = t; files = t }

    same : (d : TableData) (later : List Item) → Makes order h (Unit {0}) (alone format d) later
        → (record { params = format_alone format; directories = d; files = d }) ≡ h
    same d later m =
        (last order h (Unit {0}) (record { params = format_alone format; directories = d; files = d }) later m).0

    counted : IsCounted order h (Unit {0}) (alone format) (length items)
    counted known d later le m =
        subst (λ (g : HeaderData). length g.directories.entries < 2 ^ 64) (sym (same d later m)) few

    read : (q : ListKind) → Makes order h (Unit {0}) (list_alone format q) items
        → TableRead order h (Unit {0}) format (alone format) 0 items
    read kind.Directories m = after_list order h (Unit {0}) (length items) format [] (alone format) (length items) []
        items counted tt (λ known. tt) (omega arith) (omega arith) m
    read kind.Files m = after_list order h (Unit {0}) (length items) format (drop 1 listed_file) (alone format)
        (length items) [] items counted (lit< tt, (lit< tt, (lit< tt, tt))) (λ known. tt) (omega arith) (omega arith) m
