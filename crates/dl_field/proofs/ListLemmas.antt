-- The reader of a table of versions 2 to 4, one byte more in each of its states.
use Rattle.std.proofs.Common.{◌≡◌, ℕ, suc, ◌+◌, ◌-◌, ◌≤◌, List, [], ◌∷◌}
use Rattle.std.proofs.Common.{◌++◌, length, drop, Some, None, Ok, Err, refl, sym, ap, subst, ◌∙◌, arith}
use Rattle.std.proofs.Common.{length-append}
use Rattle.std.proofs.lemmas.List.{drop-append-le}
use Rattle.std.proofs.lemmas.Bool.{ne_eqb}
use Rattle.dl_num.specs.declared.fixed.Order.{Order}
use Rattle.dl_num.specs.declared.leb.Uleb.{Uleb}
use Rattle.dl_table.specs.declared.form.Format.{Format}
use Rattle.dl_table.specs.declared.form.Form.TheVariants as form
use Rattle.dl_table.specs.declared.table.Pair.{Pair}
use Rattle.dl_table.specs.declared.table.held.StoredValue.{StoredValue}
use Rattle.dl_table.specs.TableData.{TableData}
use Rattle.dl_table.specs.TableCells.{table_cells, value_cells}
use Rattle.dl_table.specs.Held.{value_held, held_end, cells_held, table_of}
use Rattle.dl_table.specs.Value.{Value, Judgement, good, text_spelt, leb_spelt}
use Rattle.dl_table.proofs.RowLemmas.{cells_table}
use Rattle.dl_field.specs.Field.{HasNoZero}
use Rattle.dl_field.specs.Cells.{item_cells, rest_cells}
use Rattle.dl_field.specs.Layout.{Layout, path_or_end, value_then, listed_from, entry_layout, Item, value_is, end_is}
use Rattle.dl_field.specs.Layout.{following, path_judged, value_judged, field_spelt}
use Rattle.dl_field.specs.TablePlace.{Holds, Summed, field_cells}
use Rattle.dl_field.specs.TableMoves.{Adds}
use Rattle.dl_field.specs.declared.field_step.FieldStep.{FieldStep}
use Rattle.dl_field.specs.declared.field_step.FieldStep.TheVariants as byte_makes
use Rattle.dl_field.specs.declared.list_reader.ListKind.{ListKind}
use Rattle.dl_field.specs.declared.list_reader.ListKind.TheVariants as kind
use Rattle.dl_field.specs.declared.list_reader.ListPhase.{ListPhase}
use Rattle.dl_field.specs.declared.list_reader.ListPhase.TheVariants as phase
use Rattle.dl_field.specs.declared.list_reader.ListReader.{ListReader}
use Rattle.dl_field.specs.ListStep.{listed}
use Rattle.dl_field.specs.ListPlace.{list_cells, InPath, InNumber, IsList, ListAt, SameList, ListMade, OneListCell}
use Rattle.dl_field.specs.ListPlace.{EntersList}
use Rattle.dl_field.proofs.FieldCells.{cells_good, cells_open, cells_bad, some_cell, value_item_cell}
use Rattle.dl_field.proofs.FieldLemmas.{none_some}
use Rattle.dl_field.proofs.TakenLemmas.{AreEntries, rows_held, count_held, height_held}
use Rattle.dl_field.proofs.ValueLemmas.{drop_none, drop_after, holds_more, holds_entry, holds_grown, summed-push}
use Rattle.dl_field.proofs.ValueFields.{text_goes_on}

pub list_at : (t : ListReader) (p : ListPhase) (format : Format) (next : TableData → Layout) (layout : Layout)
    (rest : List ℕ) → t.phase ≡ p → ListAt t t.phase format next layout rest → ListAt t p format next layout rest
list_at t p format next layout rest e at = subst (λ (q : ListPhase). ListAt t q format next layout rest) e at

pub same_list : (t : ListReader) → SameList t t
same_list t = record { kind = refl; phase = refl; pairs = refl; values = refl; pool = refl }

-- ---- the next entry

pub none_held : {A : Type 0} (xs : List A) → length xs ≤ 0 → xs ≡ []
none_held [] few = refl
none_held (x ∷ xs) few = absurd (omega (arith, few))

-- where no number is left, the entry is whole
pub next_path : (t : ListReader) (n : ℕ) (values : List StoredValue) (format : Format) (next : TableData → Layout)
    (layout : Layout) (entries : List (List Value)) (before : List Value) (left : ℕ) → t.pairs.items ≡ []
    → n ≡ length t.pool.items → t.values.items ≡ values
    → Holds (listed t.kind) t.pool.items values entries before → Summed values (length t.pool.items)
    → left ≡ 0 → length before + left ≡ length (listed t.kind)
    → layout ≡ listed_from format (listed t.kind) entries before next → InPath t n format next layout []
next_path t n values format next layout entries before left none at same holds summed zero place is =
    let pairs = listed t.kind in
    let size : length before ≡ length pairs = omega (arith, zero, place) in
    record {
      none = none;
      entries = entries ++ before ∷ [];
      holds = subst (λ (hs : List StoredValue). Holds pairs t.pool.items hs (entries ++ before ∷ []) []) (sym same)
          (holds_entry pairs t.pool.items values entries before holds size);
      summed = subst (λ (hs : List StoredValue). Summed hs n) (sym same) (subst (λ (m : ℕ). Summed values m) (sym at) summed);
      layout_is = is ∙ ap (λ (l : List Pair). entry_layout format l before λ entry. path_or_end format pairs
          (entries ++ entry ∷ []) next) (drop_none pairs (length before) (omega (arith, size)));
      start_is = omega (arith, at);
      rest_is = drop_none t.pool.items n (omega (arith, at));
      no_zero = tt;
    }

-- the zero byte after the last entry
pub ended_list : (old new : ListReader) (start : ℕ) (format : Format) (next : TableData → Layout) (layout : Layout)
    (rest : List ℕ) → InPath old start format next layout rest → start ≡ length old.pool.items
    → new.kind ≡ old.kind → new.pairs.items ≡ old.pairs.items ++ listed old.kind
    → new.values.items ≡ old.values.items → new.pool.items ≡ old.pool.items
    → IsList new format next (following layout (end_is (length (listed old.kind))))
ended_list old new start format next layout rest is at kind_is pairs values pool =
    let all : new.pairs.items ≡ listed old.kind = pairs ∙ ap (λ (l : List Pair). l ++ listed old.kind) is.none in
    record {
      pairs = all ∙ ap listed (sym kind_is);
      entries = is.entries;
      holds =
          subst (λ (ps : List Pair). Holds ps new.pool.items new.values.items is.entries []) (sym all)
          (subst (λ (w : List ℕ). Holds (listed old.kind) w new.values.items is.entries []) (sym pool)
          (subst (λ (hs : List StoredValue). Holds (listed old.kind) old.pool.items hs is.entries []) (sym values)
          is.holds));
      summed = subst (λ (hs : List StoredValue). Summed hs (length new.pool.items)) (sym values)
          (subst (λ (n : ℕ). Summed old.values.items n) (at ∙ ap length (sym pool)) is.summed);
      layout_is = ap (λ (l : Layout). following l (end_is (length (listed old.kind)))) is.layout_is
          ∙ ap (λ (ps : List Pair). next (record { format = format; pairs = ps; entries = is.entries })) (sym all);
    }

pub end_field : (order : Order) (old : ListReader) (start : ℕ) (format : Format) (next : TableData → Layout)
    (layout : Layout) (rest : List ℕ) → InPath old start format next layout rest → start ≡ length old.pool.items
    → field_spelt order layout (rest ++ 0 ∷ []) ≡ good (end_is (length (listed old.kind)))
end_field order old start format next layout rest is at =
    let none : rest ≡ [] = sym is.rest_is ∙ drop_none old.pool.items start (omega (arith, at)) in
    ap (λ (l : Layout). field_spelt order l (rest ++ 0 ∷ [])) is.layout_is
    ∙ ap (λ (w : List ℕ). path_judged (length (listed old.kind)) (w ++ 0 ∷ [])) none

-- ---- numbers

-- the pair of a number, and those after it
number_pair : (k : ListKind) (before : List Value) (left : ℕ) → 1 ≤ length before → 1 ≤ left
    → length before + left ≡ length (listed k)
    → (p : Pair) × (later : List Pair) × (drop (length before) (listed k) ≡ p ∷ later) × (p.form ≡ form.Udata)
number_pair kind.Directories before left some more place = absurd (omega (arith, some, more, place))
number_pair kind.Files [] left some more place = absurd (omega (arith, some))
number_pair kind.Files (u ∷ []) left some more place = (_, _, refl, refl)
number_pair kind.Files (u ∷ v ∷ []) left some more place = (_, _, refl, refl)
number_pair kind.Files (u ∷ v ∷ w ∷ []) left some more place = (_, _, refl, refl)
number_pair kind.Files (u ∷ v ∷ w ∷ x ∷ before) left some more place = absurd (omega (arith, more, place))

-- the field is a number in LEB128
pub number_layout : (t : ListReader) (left : ℕ) (n : Uleb) (format : Format) (next : TableData → Layout)
    (layout : Layout) (rest : List ℕ) → InNumber t left n format next layout rest
    → (k : Value → Layout) × (layout ≡ value_then format form.Udata k)
number_layout t left n format next layout rest is =
    let p = number_pair t.kind is.before left is.path is.some is.place in
    let pairs = listed t.kind in
    let after : List Value → Layout = λ entry. path_or_end format pairs (is.entries ++ entry ∷ []) next in (
      λ v. entry_layout format p.1 (is.before ++ v ∷ []) after,
      is.layout_is ∙ ap (λ (l : List Pair). entry_layout format l is.before after) p.2
          ∙ ap (λ f. value_then format f λ v. entry_layout format p.1 (is.before ++ v ∷ []) after) p.3,
    )

pub number_field : (order : Order) (t : ListReader) (left : ℕ) (n : Uleb) (format : Format) (next : TableData → Layout)
    (layout : Layout) (rest w : List ℕ) → InNumber t left n format next layout rest
    → field_spelt order layout w ≡ value_judged (leb_spelt w)
number_field order t left n format next layout rest w is =
    ap (λ (l : Layout). field_spelt order l w) (number_layout t left n format next layout rest is).1

-- what follows a value of an entry
after_value : (format : Format) (next : TableData → Layout) (pairs : List Pair) (entries : List (List Value))
    (before : List Value) (p : Pair) (later : List Pair) (u : Value) → drop (length before) pairs ≡ p ∷ later
    → following (listed_from format pairs entries before next) (value_is u)
    ≡ listed_from format pairs entries (before ++ u ∷ []) next
after_value format next pairs entries before p later u e =
    let k : List Value → Layout = λ entry. path_or_end format pairs (entries ++ entry ∷ []) next in
    let tail : drop (length (before ++ u ∷ [])) pairs ≡ later =
    ap (λ (n : ℕ). drop n pairs) (let n : length (before ++ u ∷ [])
    ≡ suc (length before) = omega (arith, length-append before (u ∷ [])) in n)
    ∙ drop_after pairs (length before) p later e in
    ap (λ (l : List Pair). following (entry_layout format l before k) (value_is u)) e
    ∙ ap (λ (l : List Pair). entry_layout format l (before ++ u ∷ []) k) (sym tail)

-- `enter`, of a number
pub number_made : (order : Order) (old new : ListReader) (left more : ℕ) (n : Uleb) (h : StoredValue) (format : Format)
    (next : TableData → Layout) (layout : Layout) (rest w : List ℕ) (result : FieldStep)
    → (is : InNumber old left n format next layout rest) → leb_spelt w ≡ good (value_held old.pool.items h)
    → cells_held h ≡ 1 → held_end h ≡ 0 → more ≡ left - 1 → EntersList old h more result new
    → ListMade order old format next layout w result new
number_made order old new left more n h format next layout rest w byte_makes.Ends is spelt cell end fewer enters =
    let u = value_held old.pool.items h in
    let p = number_pair old.kind is.before left is.path is.some is.place in (
      value_is u,
      number_field order old left n format next layout rest w is ∙ ap value_judged spelt,
      enters format next (following layout (value_is u)) is.entries (is.before ++ u ∷ [])
          (holds_more (listed old.kind) old.pool.items old.values.items is.entries is.before h is.holds
          (omega (arith, end)))
          (summed-push old.values.items h _ (length old.pool.items) is.summed (omega (arith, cell)))
          (omega (arith, length-append is.before (u ∷ [])))
          (omega (arith, length-append is.before (u ∷ []), is.place, fewer, is.some))
          (ap (λ (l : Layout). following l (value_is u)) is.layout_is
          ∙ after_value format next (listed old.kind) is.entries is.before p.0 p.1 u p.2),
    )
number_made order old new left more n h format next layout rest w byte_makes.NoMemory is spelt cell end fewer enters =
    let u = value_held old.pool.items h in (
      enters,
      omega (
        arith,
        cells_good order layout w (value_is u)
            (number_field order old left n format next layout rest w is ∙ ap value_judged spelt),
        some_cell u,
      ),
    )
number_made order old new left more n h format next layout rest w byte_makes.Within is spelt cell end fewer enters =
    absurd enters
number_made order old new left more n h format next layout rest w (byte_makes.Refuses k) is spelt cell end fewer enters =
    absurd enters

-- a number that isn't whole is no cell
pub number_open : (order : Order) (old : ListReader) (left : ℕ) (n : Uleb) (format : Format)
    (next : TableData → Layout) (layout : Layout) (rest w : List ℕ) → InNumber old left n format next layout rest
    → field_spelt order layout w ≡ None → rest_cells layout rest ≡ field_cells order layout w
number_open order old left n format next layout rest w is goes =
    let l = number_layout old left n format next layout rest is in
    omega (
      arith,
      ap (λ (m : Layout). rest_cells m rest) l.1,
      ap (λ (m : Layout). rest_cells m w) l.1,
      cells_open order layout w goes,
    )

-- a byte of a number is no cell, and the last one is
pub number_adds : (order : Order) (old new : ListReader) (left : ℕ) (n : Uleb) (format : Format)
    (next : TableData → Layout) (layout : Layout) (rest w : List ℕ) (result : FieldStep)
    → InNumber old left n format next layout rest → ListMade order old format next layout w result new
    → OneListCell old result new → Adds order layout rest w result (list_cells old) (list_cells new)
number_adds order old new left n format next layout rest w result is made grown =
    let l = number_layout old left n format next layout rest is in
    adds result made grown (λ x. ap (λ (m : Layout). rest_cells m x) l.1)
    (λ i e. value_item_cell order format form.Udata l.0 w i refl
    (sym (ap (λ (m : Layout). field_spelt order m w) l.1) ∙ e))
  where
    adds : (result : FieldStep) → ListMade order old format next layout w result new → OneListCell old result new
        → ((x : List ℕ) → rest_cells layout x ≡ 0)
        → ((i : Item) → field_spelt order layout w ≡ good i → item_cells i ≡ 1)
        → Adds order layout rest w result (list_cells old) (list_cells new)
    adds byte_makes.Within made grown none one = omega (arith, none rest, none w, cells_open order layout w made.0, grown)
    adds byte_makes.Ends made grown none one =
        omega (arith, none rest, cells_good order layout w made.0 made.1, one made.0 made.1, grown)
    adds (byte_makes.Refuses k) made grown none one =
        omega (arith, none rest, none w, cells_bad order layout w k made.0, grown)
    adds byte_makes.NoMemory made grown none one = (grown, omega (arith, none rest, made.1))

-- ---- paths

pub path_field : (order : Order) (t : ListReader) (start : ℕ) (format : Format) (next : TableData → Layout)
    (layout : Layout) (rest w : List ℕ) → InPath t start format next layout rest
    → field_spelt order layout w ≡ path_judged (length (listed t.kind)) w
path_field order t start format next layout rest w is = ap (λ (l : Layout). field_spelt order l w) is.layout_is

-- a path of two bytes and more is a text
pub path_text : (width : ℕ) (w : List ℕ) → 2 ≤ length w → path_judged width w ≡ value_judged (text_spelt w)
path_text width [] some = absurd (omega (arith, some))
path_text width (b ∷ []) some = absurd (omega (arith, some))
path_text width (b ∷ c ∷ w) some = refl

-- bytes without a zero are no path yet
pub path_open : (width : ℕ) (w : List ℕ) → HasNoZero w → path_judged width w ≡ None
path_open width [] none = refl
path_open width (b ∷ []) none = rw (ne_eqb b 0 none.0) refl
path_open width (b ∷ c ∷ w) none = ap value_judged (text_goes_on (b ∷ c ∷ w) none)

pub path_grown : (old new : ListReader) (start : ℕ) (byte : ℕ) (format : Format) (next : TableData → Layout)
    (layout : Layout) (rest : List ℕ) → InPath old start format next layout rest → new.kind ≡ old.kind
    → new.pairs.items ≡ old.pairs.items → new.values.items ≡ old.values.items
    → new.pool.items ≡ old.pool.items ++ byte ∷ [] → HasNoZero (rest ++ byte ∷ [])
    → new.phase ≡ phase.Path start → ListAt new new.phase format next layout (rest ++ byte ∷ [])
path_grown old new start byte format next layout rest is kind_is pairs values pool none phase_is =
    subst (λ (p : ListPhase). ListAt new p format next layout (rest ++ byte ∷ [])) (sym phase_is) grown
  where
    grown : InPath new start format next layout (rest ++ byte ∷ [])
    grown = record {
      none = pairs ∙ is.none;
      entries = is.entries;
      holds =
          subst (λ (k : ListKind). Holds (listed k) new.pool.items new.values.items is.entries []) (sym kind_is)
          (subst (λ (w : List ℕ). Holds (listed old.kind) w new.values.items is.entries []) (sym pool)
          (subst (λ (hs : List StoredValue). Holds (listed old.kind) (old.pool.items ++ byte ∷ []) hs is.entries [])
          (sym values) (holds_grown (listed old.kind) old.pool.items (byte ∷ []) old.values.items is.entries [] is.holds)));
      summed = subst (λ (hs : List StoredValue). Summed hs start) (sym values) is.summed;
      layout_is = is.layout_is ∙ ap (λ (k : ListKind). path_or_end format (listed k) is.entries next) (sym kind_is);
      start_is = omega (arith, is.start_is, ap length pool, length-append old.pool.items (byte ∷ []));
      rest_is = ap (λ (l : List ℕ). drop start l) pool ∙ drop-append-le start old.pool.items (byte ∷ []) is.start_is
          ∙ ap (λ (l : List ℕ). l ++ byte ∷ []) is.rest_is;
      no_zero = none;
    }

-- `enter`, of a path
pub path_made : (order : Order) (old new : ListReader) (start left : ℕ) (h : StoredValue) (format : Format)
    (next : TableData → Layout) (layout : Layout) (rest w : List ℕ) (result : FieldStep)
    → (is : InPath old start format next layout rest) → 2 ≤ length w
    → text_spelt w ≡ good (value_held old.pool.items h)
    → start + cells_held h ≡ 1 + length old.pool.items → held_end h ≤ length old.pool.items
    → left + 1 ≡ length (listed old.kind)
    → EntersList old h left result new → ListMade order old format next layout w result new
path_made order old new start left h format next layout rest w byte_makes.Ends is some spelt full end place enters =
    let u = value_held old.pool.items h in
    let pairs = listed old.kind in (
      value_is u,
      path_field order old start format next layout rest w is ∙ path_text (length pairs) w some ∙ ap value_judged spelt,
      enters format next (following layout (value_is u)) is.entries (u ∷ [])
          (holds_more pairs old.pool.items old.values.items is.entries [] h is.holds end)
          (summed-push old.values.items h start (length old.pool.items) is.summed full) (omega arith)
          (omega (arith, place)) (ap (λ (l : Layout). following l (value_is u)) is.layout_is),
    )
path_made order old new start left h format next layout rest w byte_makes.NoMemory is some spelt full end place enters =
    let u = value_held old.pool.items h in (
      enters,
      omega (
        arith,
        cells_good order layout w (value_is u)
            (path_field order old start format next layout rest w is ∙ path_text (length (listed old.kind)) w some
            ∙ ap value_judged spelt),
        some_cell u,
      ),
    )
path_made order old new start left h format next layout rest w byte_makes.Within is some spelt full end place enters =
    absurd enters
path_made order old new start left h format next layout rest w (byte_makes.Refuses k) is some spelt full end place
    enters = absurd enters

-- the last byte of a path is the cell of its value; the others are cells of their own
pub path_adds : (order : Order) (old new : ListReader) (start : ℕ) (v : Value) (format : Format)
    (next : TableData → Layout) (layout : Layout) (rest w : List ℕ) (result : FieldStep)
    → InPath old start format next layout rest → field_spelt order layout w ≡ good (value_is v)
    → value_cells v ≡ 1 + length rest → OneListCell old result new
    → ListMade order old format next layout w result new
    → Adds order layout rest w result (list_cells old) (list_cells new)
path_adds order old new start v format next layout rest w result is spelt size grown made =
    let before : rest_cells layout rest ≡ length rest = ap (λ (l : Layout). rest_cells l rest) is.layout_is in
    let after : field_cells order layout w ≡ 1 + length rest = cells_good order layout w (value_is v) spelt ∙ size in
    adds result grown made before after
  where
    adds : (result : FieldStep) → OneListCell old result new → ListMade order old format next layout w result new
        → rest_cells layout rest ≡ length rest → field_cells order layout w ≡ 1 + length rest
        → Adds order layout rest w result (list_cells old) (list_cells new)
    adds byte_makes.Ends grown made before after = omega (arith, grown, before, after)
    adds byte_makes.NoMemory grown made before after = (grown, omega (arith, before, after))
    adds byte_makes.Within grown made before after =
        absurd (none_some {a = Ok (value_is v)} made.0 spelt)
    adds (byte_makes.Refuses k) grown made before after =
        let e : ◌≡◌ {A = Judgement Item} (Some (Err k)) (Some (Ok (value_is v))) = sym made.0 ∙ spelt in absurd cc

-- ---- the table

-- the values are whole rows, which are the entries
pub list_held : (t : ListReader) (format : Format) (next : TableData → Layout) (layout : Layout)
    (is : IsList t format next layout) → AreEntries t.pairs.items t.pool.items t.values.items is.entries
list_held t format next layout is =
    let wide : 1 ≤ length t.pairs.items = omega (arith, ap length is.pairs, some_pairs t.kind) in
    rows_held t.pairs.items t.pool.items t.values.items is.entries
    (height_held (length t.values.items) (length t.pairs.items) (length is.entries)
    (count_held t.pairs.items t.pool.items t.values.items is.entries is.holds) (λ none. absurd (omega (arith, none, wide))))
    is.holds
  where
    some_pairs : (k : ListKind) → 1 ≤ length (listed k)
    some_pairs kind.Directories = omega arith
    some_pairs kind.Files = omega arith

-- the table that is made of the values: it is what was read, and as many cells as the reader held
pub list_taken : (t : ListReader) (format : Format) (next : TableData → Layout) (layout : Layout) (d : TableData)
    → IsList t format next layout → d ≡ table_of format t.pairs.items t.values.items t.pool.items
    → (layout ≡ next d) × (table_cells d ≡ list_cells t)
list_taken t format next layout d is made =
    let e = list_held t format next layout is in (
      is.layout_is ∙ ap next (ap (λ (es : List (List Value)). record {
        format = format;
        pairs = t.pairs.items;
        entries = es;
      }) (sym e.rows_are) ∙ sym made),
      omega (
        arith,
        ap table_cells made,
        cells_table format t.pairs.items t.values.items t.pool.items is.holds.within e.whole,
        is.summed,
      ),
    )
