-- Values of a table one after the other.
use Rattle.std.proofs.Common.{◌≡◌, ℕ, ◌+◌, ◌<◌, ◌≤◌, inl, inr, List, [], ◌∷◌, ◌++◌, length, take, drop}
use Rattle.std.proofs.Common.{Some, option_map, refl, sym, ap, subst, ◌∙◌, arith, length-append}
use Rattle.std.proofs.lemmas.List.{drop-append-le, length-take-le, take_rest}
use Rattle.dl_num.specs.declared.fixed.Order.{Order}
use Rattle.dl_table.specs.declared.form.Format.{Format}
use Rattle.dl_table.specs.declared.form.Form.TheVariants as form
use Rattle.dl_table.specs.declared.table.Pair.{Pair}
use Rattle.dl_table.specs.declared.table.held.StoredValue.{StoredValue}
use Rattle.dl_table.specs.declared.table.held.StoredValue.TheVariants as held
use Rattle.dl_table.specs.TableData.{TableData}
use Rattle.dl_table.specs.Held.{values_end, value_held}
use Rattle.dl_table.specs.Value.{Value, good}
use Rattle.dl_table.proofs.HeldLemmas.{values_end-push}
use Rattle.dl_table.proofs.TextLemmas.{text_in-position}
use Rattle.dl_field.specs.declared.table_reader.TableReader.{TableReader}
use Rattle.dl_field.specs.declared.table_reader.TablePhase.TheVariants as phase
use Rattle.dl_field.specs.declared.value_phase.Cursor.{Cursor}
use Rattle.dl_field.specs.declared.value_phase.ValuePhase.{ValuePhase}
use Rattle.dl_field.specs.declared.value_phase.ValuePhase.TheVariants as value
use Rattle.dl_field.specs.Cells.{rest_cells}
use Rattle.dl_field.specs.Field.{HasNoZero}
use Rattle.dl_field.specs.Layout.{Layout, Item, value_is, value_judged, following, field_spelt}
use Rattle.dl_field.specs.TableMoves.{AmongTable, GoesOn, InFront, Moves, SameTable}
use Rattle.dl_field.specs.TablePlace.{Holds, Summed, InValue, TableAt, ValueAt, values_left, reader_cells, field_cells}
use Rattle.dl_field.specs.TableRuns.{AtPlace, BeginsRun, IsNewValue, TakesAt, HoldsMore, HoldsText}
use Rattle.dl_field.specs.TableStep.{value_filled}
use Rattle.dl_field.proofs.ByteCells.{text_field}
use Rattle.dl_field.proofs.FieldCells.{cells_good, no_bytes, value_item_cell}
use Rattle.dl_field.proofs.PairLemmas.{table_at}
use Rattle.dl_field.proofs.ValueFields.{value_layout, value_field, text_form, text_held}
use Rattle.dl_field.proofs.ValueLemmas.{after_value, drop_none, holds_entry, holds_grown, holds_more, next_entry}
use Rattle.dl_field.proofs.ValueLemmas.{summed-push}
use Rattle.dl_field.proofs.WholeRuns.{EndsField}
use Rattle.dl_field.proofs.WholeValues.{in_value, zero_front}

-- ---- a place

-- the reader as it is where its phase says the place
in_place : (t : TableReader) (at : Cursor) (v : ValuePhase) (format : Format) (next : TableData → Layout)
    (layout : Layout) (p : Pair) (later : List Pair) → AtPlace format (t, at) next layout []
    → drop at.column t.pairs.items ≡ p ∷ later → ValueAt format p.form v t.pool.items []
    → value_filled v (length t.pool.items) ≡ length t.pool.items → InValue t at v format next layout []
in_place t at v format next layout p later place is begun filled = record {
  entries = place.entries;
  before = place.before;
  column = sym place.column;
  pair = p;
  later = later;
  at_pair = ap (λ (n : ℕ). drop n t.pairs.items) place.column ∙ is;
  holds = place.holds;
  summed = subst (λ (n : ℕ). Summed t.values.items n) (sym filled) place.summed;
  layout_is = place.layout_is;
  value = begun;
}

-- the place after one whose value is held
moved_place : (t : TableReader) (at to : Cursor) (format : Format) (next : TableData → Layout) (layout : Layout)
    (entries : List (List Value)) (before : List Value) → Moves at (length t.pairs.items) (Some to)
    → at.column < length t.pairs.items → Holds t.pairs.items t.pool.items t.values.items entries before
    → Summed t.values.items (length t.pool.items) → length before ≡ at.column + 1
    → layout ≡ values_left format next t.pairs.items entries before at.left → AtPlace format (t, to) next layout []
moved_place t at to format next layout entries before (inl m) lt holds summed size is = record {
  none = refl;
  entries = entries;
  before = before;
  column = size ∙ sym m.1;
  holds = holds;
  summed = summed;
  layout_is = is ∙ ap (λ (n : ℕ). values_left format next t.pairs.items entries before n) (sym m.2);
}
moved_place t at to format next layout entries before (inr m) lt holds summed size is = record {
  none = refl;
  entries = entries ++ before ∷ [];
  before = [];
  column = sym m.2;
  holds = holds_entry t.pairs.items t.pool.items t.values.items entries before holds (omega (arith, m.0, lt, size));
  summed = summed;
  layout_is = is
      ∙ next_entry format next t.pairs.items entries before at.left to.left (omega (arith, m.0, size)) m.1 m.3;
}

-- where the lists of new are these
next_place : (new : TableReader) (at to : Cursor) (format : Format) (next : TableData → Layout) (layout : Layout)
    (pairs later : List Pair) (pool : List ℕ) (values : List StoredValue) (entries : List (List Value))
    (before : List Value) (p : Pair) (u : Value) → new.pairs.items ≡ pairs → new.pool.items ≡ pool
    → new.values.items ≡ values → Moves at (length pairs) (Some to) → at.column < length pairs
    → Holds pairs pool values entries (before ++ u ∷ []) → Summed values (length pool) → at.column ≡ length before
    → drop (length before) pairs ≡ p ∷ later → layout ≡ values_left format next pairs entries before at.left
    → AtPlace format (new, to) next (following layout (value_is u)) []
next_place new at to format next layout pairs later pool values entries before p u pairs_are pool_is values_are moves lt
    holds summed column at_pair is =
    moved_place new at to format next (following layout (value_is u)) entries (before ++ u ∷ [])
    (subst (λ (ps : List Pair). Moves at (length ps) (Some to)) (sym pairs_are) moves)
    (omega (arith, lt, ap length pairs_are))
    (subst (λ (ps : List Pair). Holds ps new.pool.items new.values.items entries (before ++ u ∷ [])) (sym pairs_are)
    (subst (λ (w : List ℕ). Holds pairs w new.values.items entries (before ++ u ∷ [])) (sym pool_is)
    (subst (λ (hs : List StoredValue). Holds pairs pool hs entries (before ++ u ∷ [])) (sym values_are) holds)))
    (subst (λ (w : List ℕ). Summed new.values.items (length w)) (sym pool_is)
    (subst (λ (hs : List StoredValue). Summed hs (length pool)) (sym values_are) summed))
    (omega (arith, length-append before (u ∷ []), column))
    (ap (λ (l : Layout). following l (value_is u)) is
    ∙ after_value format next pairs entries before at.left p later u at_pair
    ∙ ap (λ (ps : List Pair). values_left format next ps entries (before ++ u ∷ []) at.left) (sym pairs_are))

-- ---- one value

module _ (order : Order) (format : Format) (old new : TableReader) (at to : Cursor) (p : Pair) (later : List Pair)
    (at_pair : drop at.column old.pairs.items ≡ p ∷ later) (lt : at.column < length old.pairs.items)
    (moves : Moves at (length old.pairs.items) (Some to)) (in_row : to.column < length old.pairs.items)
    (whole : values_end old.values.items ≤ length old.pool.items)
  where
    -- a value that is no text
    pub value_taken_at : (v : ValuePhase) (h : StoredValue) (bytes tail rest : List ℕ)
        → ValueAt format p.form v old.pool.items [] → InFront order v bytes h tail
        → (rest ≡ tail) × HoldsMore old h new → TakesAt order format old at bytes rest to new
    value_taken_at v h bytes tail rest begun s (same, more) = record {
      front = s.front;
      bytes_are = s.bytes_are ∙ ap (λ (l : List ℕ). s.front ++ l) (sym same);
      some = s.some;
      ends = λ next layout place. ends next layout place (in_value next layout place);
      in_row = omega (arith, in_row, ap length more.pairs);
      whole = omega (
        arith,
        ap values_end more.values,
        values_end-push old.values.items h,
        whole,
        s.within,
        ap length more.pool,
      );
    } where
      in_value : (next : TableData → Layout) (layout : Layout) → AtPlace format (old, at) next layout []
          → InValue old at v format next layout []
      in_value next layout place = in_place old at v format next layout p later place at_pair begun
          (s.filled (length old.pool.items))

      ends : (next : TableData → Layout) (layout : Layout) (place : AtPlace format (old, at) next layout [])
          (a : InValue old at v format next layout [])
          → (i : Item) × (field_spelt order layout s.front ≡ good i)
          × (reader_cells new + rest_cells layout [] ≡ reader_cells old + field_cells order layout s.front)
          × AtPlace format (new, to) next (following layout i) []
      ends next layout place a =
          let u = value_held old.pool.items h in
          let f = a.pair.form in
          let spelt : field_spelt order layout s.front ≡ good (value_is u) =
          value_field order old at v format next layout [] s.front a
          ∙ ap value_judged (s.spelt format f old.pool.items [] a.value) in
          let none = s.one format f old.pool.items [] a.value in
          let l = value_layout old at v format next layout [] a in (
            value_is u,
            spelt,
            omega (
              arith,
              ap (λ (m : Layout). rest_cells m []) l.1,
              no_bytes f [] none,
              cells_good order layout s.front (value_is u) spelt,
              value_item_cell order format f l.0 s.front (value_is u) none
                  (sym (ap (λ (m : Layout). field_spelt order m s.front) l.1) ∙ spelt),
              ap length more.pairs,
              ap length more.values,
              ap length more.pool,
              length-append old.values.items (h ∷ []),
            ),
            next_place new at to format next layout old.pairs.items a.later old.pool.items
                (old.values.items ++ h ∷ []) a.entries a.before a.pair u more.pairs more.pool more.values moves lt
                (holds_more old.pairs.items old.pool.items old.values.items a.entries a.before h a.holds
                (omega (arith, s.within)))
                (summed-push old.values.items h (length old.pool.items) (length old.pool.items) place.summed
                (omega (arith, s.cell)))
                a.column a.at_pair a.layout_is,
          )

    -- a text
    pub text_taken_at : (bytes tail : List ℕ) → p.form ≡ form.String → HoldsText old bytes tail new
        → TakesAt order format old at bytes tail to new
    text_taken_at bytes tail is more = record {
      front = front;
      bytes_are = split.1 ∙ ap (λ (l : List ℕ). front ++ l)
          (ap (λ (n : ℕ). drop (n + 1) bytes) size ∙ sym (take_rest bytes (more.len + 1)) ∙ sym more.tail_is);
      some = omega (arith, length-append text (0 ∷ []));
      ends = λ next layout place. ends next layout place (in_value next layout place);
      in_row = omega (arith, in_row, ap length more.pairs);
      whole = omega (
        arith,
        ap values_end more.values,
        values_end-push old.values.items h,
        whole,
        ap length more.pool,
        length-append old.pool.items text,
        size,
      );
    } where
      text : List ℕ
      text = take more.len bytes

      front : List ℕ
      front = text ++ 0 ∷ []

      start : ℕ
      start = length old.pool.items

      h : StoredValue
      h = held.Text (record { start = start; len = more.len })

      grown : List ℕ
      grown = old.pool.items ++ text

      size : length text ≡ more.len
      size = length-take-le more.len bytes (omega (arith, more.within))

      split : HasNoZero text × (bytes ≡ front ++ drop (length text + 1) bytes)
      split = zero_front bytes text (text_in-position bytes ∙ ap (option_map (λ n. take n bytes)) more.found)

      dropped : drop start grown ≡ text
      dropped = drop-append-le start old.pool.items text (omega arith)
          ∙ ap (λ (l : List ℕ). l ++ text) (drop_none old.pool.items start (omega arith))

      in_value : (next : TableData → Layout) (layout : Layout) → AtPlace format (old, at) next layout []
          → InValue old at (value.Text start) format next layout []
      in_value next layout place = in_place old at (value.Text start) format next layout p later place at_pair
          (is, omega arith, drop_none old.pool.items start (omega arith), tt) refl

      ends : (next : TableData → Layout) (layout : Layout) (place : AtPlace format (old, at) next layout [])
          (a : InValue old at (value.Text start) format next layout [])
          → (i : Item) × (field_spelt order layout front ≡ good i)
          × (reader_cells new + rest_cells layout [] ≡ reader_cells old + field_cells order layout front)
          × AtPlace format (new, to) next (following layout i) []
      ends next layout place a =
          let u = value_held grown h in
          let spelt : field_spelt order layout front ≡ good (value_is u) =
          value_field order old at (value.Text start) format next layout [] front a
          ∙ ap value_judged (text_form order format a.pair.form front _ a.value.0
          (text_held text 0 grown start more.len split.0 refl dropped
          (omega (arith, length-append old.pool.items text, size)))) in (
            value_is u,
            spelt,
            omega (
              arith,
              text_field order old at (value.Text start) format next layout [] front a a.value.0,
              length-append text (0 ∷ []),
              ap length more.pairs,
              ap length more.values,
              ap length more.pool,
              length-append old.pool.items text,
              length-append old.values.items (h ∷ []),
            ),
            next_place new at to format next layout old.pairs.items a.later grown (old.values.items ++ h ∷ []) a.entries
                a.before a.pair u more.pairs more.pool more.values moves lt
                (holds_more old.pairs.items grown old.values.items a.entries a.before h
                (holds_grown old.pairs.items old.pool.items text old.values.items a.entries a.before a.holds)
                (omega (arith, length-append old.pool.items text, size)))
                (summed-push old.values.items h start (length grown) place.summed
                (omega (arith, length-append old.pool.items text, size)))
                a.column a.at_pair a.layout_is,
          )

-- ---- a run

abbrev pub place_cells : TableReader × Cursor → ℕ
place_cells p = reader_cells p.0

pub place_ends : (order : Order) (format : Format) (old new : TableReader) (at to : Cursor) (bytes tail : List ℕ)
    → (s : TakesAt order format old at bytes tail to new)
    → EndsField order (AtPlace format) place_cells (old, at) s.front (new, to)
place_ends order format old new at to bytes tail s = λ next layout rest place.
    subst (λ (r : List ℕ). AtPlace format (old, at) next layout r → (i : Item)
    × (field_spelt order layout (r ++ s.front) ≡ good i)
    × (reader_cells new + rest_cells layout r ≡ reader_cells old + field_cells order layout (r ++ s.front))
    × AtPlace format (new, to) next (following layout i) []) (sym place.none) (λ p. s.ends next layout p) place

-- `begin_value` at the end of a run
pub place_goes : (order : Order) (format : Format) (old mid new : TableReader) (at : Cursor) → SameTable old mid
    → GoesOn mid.pairs.items mid.pool.items mid.values.items at.column at.left format new
    → (new.phase ≡ phase.Whole → ⊥) → (next : TableData → Layout) (layout : Layout) (rest : List ℕ)
    → AtPlace format (old, at) next layout rest → AmongTable order format new next layout rest
place_goes order format old mid new at same goes going = λ next layout rest place. (
  subst (λ (r : List ℕ). TableAt order new new.phase format next layout r) (sym place.none)
      (on order next layout place.entries place.before place.holds place.summed place.column place.layout_is),
  going,
) where
  on : GoesOn old.pairs.items old.pool.items old.values.items at.column at.left format new
  on =
      subst (λ (ps : List Pair). GoesOn ps old.pool.items old.values.items at.column at.left format new) same.pairs
      (subst (λ (w : List ℕ). GoesOn mid.pairs.items w old.values.items at.column at.left format new) same.pool
      (subst (λ (hs : List StoredValue). GoesOn mid.pairs.items mid.pool.items hs at.column at.left format new)
      same.values goes))

-- a reader whose phase says the place, where no byte of its value has come
pub place_begun : (order : Order) (format : Format) (t : TableReader) (at : Cursor) (v : ValuePhase) (pool_len : ℕ)
    → t.phase ≡ phase.Value at v → length t.pool.items ≡ pool_len → IsNewValue v pool_len
    → BeginsRun order format t at
place_begun order format t at v pool_len is size new = λ next layout rest among.
    let a : InValue t at v format next layout rest = in_value order t at v format next layout rest new.none_due
    (table_at order t (phase.Value at v) format next layout rest is among.0) in record {
      none = new.none format a.pair.form t.pool.items rest size a.value;
      entries = a.entries;
      before = a.before;
      column = sym a.column;
      holds = a.holds;
      summed = subst (λ (n : ℕ). Summed t.values.items n)
          (subst (λ (n : ℕ). value_filled v n ≡ n) (sym size) new.filled) a.summed;
      layout_is = a.layout_is;
    }
