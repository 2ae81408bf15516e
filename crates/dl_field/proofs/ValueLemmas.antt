-- The reader of a table among its values.
use Rattle.std.proofs.Common.{◌≡◌, ℕ, zero, suc, ◌+◌, ◌-◌, ◌<◌, ◌≤◌, inl, inr, true, false, List, [], ◌∷◌, ◌++◌, length}
use Rattle.std.proofs.Common.{drop, if◌then◌else◌, Some, None, Result, Ok, Err, refl, sym, ap, subst, ◌∙◌}
use Rattle.std.proofs.Common.{arith, length-append, append_assoc, append-nil}
use Rattle.std.specs.Prelude.{OnErr, OnOk}
use Rattle.std.specs.Result.{is_ok, is_err}
use Rattle.std.proofs.lemmas.List.Sums.{sum_by_push}
use Rattle.std.proofs.lemmas.List.{map-append, drop-append-le}
use Rattle.dl_num.specs.declared.fixed.Order.{Order}
use Rattle.dl_table.specs.declared.form.Format.{Format}
use Rattle.dl_table.specs.declared.table.Pair.{Pair}
use Rattle.dl_table.specs.declared.table.held.StoredValue.{StoredValue}
use Rattle.dl_field.specs.declared.table_reader.TableReader.{TableReader}
use Rattle.dl_field.specs.declared.table_reader.TablePhase.{TablePhase}
use Rattle.dl_field.specs.declared.table_reader.TablePhase.TheVariants as phase
use Rattle.dl_field.specs.declared.value_phase.Cursor.{Cursor}
use Rattle.dl_field.specs.declared.value_phase.ValuePhase.{ValuePhase}
use Rattle.dl_field.specs.declared.value_phase.ValuePhase.TheVariants as value
use Rattle.dl_table.specs.TableData.{TableData}
use Rattle.dl_field.specs.Field.{HasNoZero}
use Rattle.dl_table.specs.Held.{held_end, value_held, cells_held}
use Rattle.dl_field.specs.TableStep.{value_filled}
use Rattle.dl_table.specs.Value.{Value}
use Rattle.dl_field.specs.Layout.{Layout, value_then, value_is, following, entry_layout, entries_layout}
use Rattle.dl_field.specs.TablePlace.{joined, AreWide, Holds, Summed, values_left, InValue, IsWhole, TableAt}
use Rattle.dl_field.specs.TableMoves.{Moves}
use Rattle.dl_field.specs.TableMoves.{GoesOn}
use Rattle.dl_table.proofs.HeldLemmas.{values_end-push, values_held-more}

pub drop_after : {A : Type 0} (xs : List A) (i : ℕ) (x : A) (more : List A) → drop i xs ≡ x ∷ more
    → drop (suc i) xs ≡ more
drop_after [] zero x more e = absurd cc
drop_after [] (suc i) x more e = absurd cc
drop_after (y ∷ xs) zero x more e = let f : xs ≡ more = cc in f
drop_after (y ∷ xs) (suc i) x more e = drop_after xs i x more e

pub drop_none : {A : Type 0} (xs : List A) (i : ℕ) → length xs ≤ i → drop i xs ≡ []
drop_none [] zero h = refl
drop_none [] (suc i) h = refl
drop_none (x ∷ xs) zero h = absurd (omega arith)
drop_none (x ∷ xs) (suc i) h = drop_none xs i (omega (arith, h))

joined-push : (entries : List (List Value)) (e : List Value) → joined (entries ++ e ∷ []) ≡ joined entries ++ e
joined-push [] e = append-nil e
joined-push (f ∷ entries) e = ap (λ (l : List Value). f ++ l) (joined-push entries e)
    ∙ sym (append_assoc f (joined entries) e)

wide-push : (width : ℕ) (entries : List (List Value)) (e : List Value) → AreWide width entries → length e ≡ width
    → AreWide width (entries ++ e ∷ [])
wide-push width [] e h size = (size, tt)
wide-push width (f ∷ entries) e h size = (h.0, wide-push width entries e h.1 size)

-- ---- one value more

pub holds_more : (pairs : List Pair) (pool : List ℕ) (values : List StoredValue) (entries : List (List Value))
    (before : List Value) (h : StoredValue) → Holds pairs pool values entries before
    → held_end h ≤ length pool → Holds pairs pool (values ++ h ∷ []) entries (before ++ value_held pool h ∷ [])
holds_more pairs pool values entries before h holds within = record {
  held = sym (append_assoc (joined entries) before (value_held pool h ∷ []))
      ∙ ap (λ (l : List Value). l ++ value_held pool h ∷ []) holds.held
      ∙ sym (map-append (value_held pool) values (h ∷ []));
  wide = holds.wide;
  within = omega (arith, values_end-push values h, holds.within, within);
}

pub summed-push : (values : List StoredValue) (h : StoredValue) (filled n : ℕ) → Summed values filled
    → filled + cells_held h ≡ 1 + n → Summed (values ++ h ∷ []) n
summed-push values h filled n summed full = omega
    (arith, sum_by_push cells_held values h, length-append values (h ∷ []), summed, full)

-- an entry is complete
pub holds_entry : (pairs : List Pair) (pool : List ℕ) (values : List StoredValue) (entries : List (List Value))
    (before : List Value) → Holds pairs pool values entries before → length before ≡ length pairs
    → Holds pairs pool values (entries ++ before ∷ []) []
holds_entry pairs pool values entries before holds size = record {
  held = append-nil (joined (entries ++ before ∷ [])) ∙ joined-push entries before ∙ holds.held;
  wide = wide-push (length pairs) entries before holds.wide size;
  within = holds.within;
}

-- what follows a value
pub after_value : (format : Format) (next : TableData → Layout) (pairs : List Pair) (entries : List (List Value))
    (before : List Value) (left : ℕ) (p : Pair) (later : List Pair) (u : Value)
    → drop (length before) pairs ≡ p ∷ later → following (values_left format next pairs entries before left)
    (value_is u) ≡ values_left format next pairs entries (before ++ u ∷ []) left
after_value format next pairs entries before left p later u e =
    let k : List Value → Layout = λ entry. entries_layout format pairs (left - 1) (entries ++ entry ∷ []) λ all. next
    (record { format = format; pairs = pairs; entries = all }) in
    let tail : drop (length (before ++ u ∷ [])) pairs ≡ later =
    ap (λ (n : ℕ). drop n pairs) (let n : length (before ++ u ∷ [])
    ≡ suc (length before) = omega (arith, length-append before (u ∷ [])) in n)
    ∙ drop_after pairs (length before) p later e in
    ap (λ (l : List Pair). following (entry_layout format l before k) (value_is u)) e
    ∙ ap (λ (l : List Pair). entry_layout format l (before ++ u ∷ []) k) (sym tail)

-- the first field of what is left
pub at_value : (format : Format) (next : TableData → Layout) (pairs : List Pair) (entries : List (List Value))
    (before : List Value) (left : ℕ) (p : Pair) (later : List Pair)
    → drop (length before) pairs ≡ p ∷ later
    → values_left format next pairs entries before left
    ≡ value_then format p.form λ v. entry_layout format later (before ++ v ∷ []) λ entry. entries_layout format pairs
    (left - 1) (entries ++ entry ∷ []) λ all. next (record { format = format; pairs = pairs; entries = all })
at_value format next pairs entries before left p later e =
    ap (λ (l : List Pair). entry_layout format l before λ entry. entries_layout format pairs (left - 1)
    (entries ++ entry ∷ []) λ all. next (record { format = format; pairs = pairs; entries = all })) e

-- after the last value of an entry
entry_whole : (format : Format) (next : TableData → Layout) (pairs : List Pair) (entries : List (List Value))
    (before : List Value) (left : ℕ) → length pairs ≤ length before
    → values_left format next pairs entries before left
    ≡ entries_layout format pairs (left - 1) (entries ++ before ∷ []) λ all. next
    (record { format = format; pairs = pairs; entries = all })
entry_whole format next pairs entries before left le =
    ap (λ (l : List Pair). entry_layout format l before λ entry. entries_layout format pairs (left - 1)
    (entries ++ entry ∷ []) λ all. next (record { format = format; pairs = pairs; entries = all }))
    (drop_none pairs (length before) le)

-- another entry
pub next_entry : (format : Format) (next : TableData → Layout) (pairs : List Pair) (entries : List (List Value))
    (before : List Value) (left more : ℕ) → length pairs ≤ length before → 2 ≤ left → more ≡ left - 1
    → values_left format next pairs entries before left ≡ values_left format next pairs (entries ++ before ∷ []) [] more
next_entry format next pairs entries before left more le some e =
    let one : left - 1 ≡ suc (more - 1) = omega (arith, e, some) in
    entry_whole format next pairs entries before left le
    ∙ ap (λ (k : ℕ). entries_layout format pairs k (entries ++ before ∷ []) λ all. next
    (record { format = format; pairs = pairs; entries = all })) one

-- no more entries
pub last_entry : (format : Format) (next : TableData → Layout) (pairs : List Pair) (entries : List (List Value))
    (before : List Value) (left : ℕ) → length pairs ≤ length before → left ≤ 1
    → values_left format next pairs entries before left
    ≡ next (record { format = format; pairs = pairs; entries = entries ++ before ∷ [] })
last_entry format next pairs entries before left le few =
    let none : left - 1 ≡ 0 = omega (arith, few) in
    entry_whole format next pairs entries before left le
    ∙ ap (λ (k : ℕ). entries_layout format pairs k (entries ++ before ∷ []) λ all. next
    (record { format = format; pairs = pairs; entries = all })) none

-- ---- the next value

-- `end_value`, where another one follows
pub moved : (order : Order) (pairs : List Pair) (pool : List ℕ) (values : List StoredValue) (new : TableReader)
    (at to : Cursor) (format : Format) (next : TableData → Layout) (layout : Layout)
    (entries : List (List Value)) (before : List Value) → Moves at (length pairs) (Some to) → at.column < length pairs
    → GoesOn pairs pool values to.column to.left format new
    → Holds pairs pool values entries before → Summed values (length pool) → length before ≡ at.column + 1
    → layout ≡ values_left format next pairs entries before at.left → TableAt order new new.phase format next layout []
moved order pairs pool values new at to format next layout entries before (inl m) lt goes holds summed size is =
    goes order next layout entries before holds summed (size ∙ sym m.1)
    (is ∙ ap (λ (n : ℕ). values_left format next pairs entries before n) (sym m.2))
moved order pairs pool values new at to format next layout entries before (inr m) lt goes holds summed size is =
    goes order next layout (entries ++ before ∷ []) []
    (holds_entry pairs pool values entries before holds (omega (arith, m.0, lt, size))) summed (sym m.2)
    (is ∙ next_entry format next pairs entries before at.left to.left (omega (arith, m.0, size)) m.1 m.3)

-- `end_value`, where it was the last one
pub ended : (t : TableReader) (at : Cursor) (format : Format) (next : TableData → Layout) (layout : Layout)
    (entries : List (List Value)) (before : List Value)
    → Moves at (length t.pairs.items) None → at.column < length t.pairs.items
    → Holds t.pairs.items t.pool.items t.values.items entries before → Summed t.values.items (length t.pool.items)
    → length before ≡ at.column + 1 → layout ≡ values_left format next t.pairs.items entries before at.left
    → IsWhole t format next layout
ended t at format next layout entries before m lt holds summed size is = record {
  entries = entries ++ before ∷ [];
  holds = holds_entry t.pairs.items t.pool.items t.values.items entries before holds (omega (arith, m.0, lt, size));
  summed = summed;
  some_pairs = λ none. absurd (omega (arith, none, lt));
  layout_is = is ∙ last_entry format next t.pairs.items entries before at.left (omega (arith, m.0, size)) m.1;
}

-- what a list is after a push that wasn't refused
pub pushed : {A B E : Type 0} (xs ys : List B) (r : Result A E) → is_err r ≡ false → (if is_ok r then xs else ys) ≡ xs
pushed xs ys (Ok a) e = refl
pushed xs ys (Err x) e = absurd cc

-- and after one that was
pub refused : {A B E : Type 0} (xs ys : List B) (r : Result A E) → is_err r ≡ true → (if is_ok r then xs else ys) ≡ ys
refused xs ys (Ok a) e = absurd cc
refused xs ys (Err x) e = refl

-- what holds of a call that wasn't refused
pub granted : {A E : Type 0} {P : Type 0} (r : Result A E) → OnOk r P → is_err r ≡ false → P
granted (Ok a) holds e = holds
granted (Err x) holds e = absurd cc

-- and of one that was
pub denied : {A E : Type 0} {P : Type 0} (r : Result A E) → OnErr r P → is_err r ≡ true → P
denied (Ok a) holds e = absurd cc
denied (Err x) holds e = holds

-- `enter`
pub entered : (order : Order) (old : TableReader) (values : List StoredValue) (new : TableReader) (at : Cursor)
    (h : StoredValue) (format : Format) (next : TableData → Layout) (layout : Layout) (v : ValuePhase) (rest : List ℕ)
    → InValue old at v format next layout rest → held_end h ≤ length old.pool.items
    → value_filled v (length old.pool.items) + cells_held h ≡ 1 + length old.pool.items
    → GoesOn old.pairs.items old.pool.items values (at.column + 1) at.left format new
    → values ≡ old.values.items ++ h ∷ [] → TableAt order new new.phase format next
    (following layout (value_is (value_held old.pool.items h))) []
entered order old values new at h format next layout v rest is within full goes same =
    let u = value_held old.pool.items h in
    let more = holds_more old.pairs.items old.pool.items old.values.items is.entries is.before h is.holds within in
    goes order next (following layout (value_is u)) is.entries (is.before ++ u ∷ [])
    (subst (λ (hs : List StoredValue). Holds old.pairs.items old.pool.items hs is.entries (is.before ++ u ∷ []))
    (sym same) more)
    (subst (λ (hs : List StoredValue). Summed hs (length old.pool.items)) (sym same)
    (summed-push old.values.items h _ (length old.pool.items) is.summed full))
    (omega (arith, length-append is.before (u ∷ []), is.column))
    (ap (λ (l : Layout). following l (value_is u)) is.layout_is
    ∙ after_value format next old.pairs.items is.entries is.before at.left is.pair is.later u is.at_pair)

-- ---- a pool that grows

pub holds_grown : (pairs : List Pair) (pool more : List ℕ) (values : List StoredValue) (entries : List (List Value))
    (before : List Value) → Holds pairs pool values entries before → Holds pairs (pool ++ more) values entries before
holds_grown pairs pool more values entries before holds =
    record {
      held = holds.held ∙ sym (values_held-more pool more values holds.within);
      wide = holds.wide;
      within = omega
          (arith, holds.within, length-append pool more);
    }

-- more bytes of a text
pub text_grown : (order : Order) (old new : TableReader) (at : Cursor) (start : ℕ) (more : List ℕ) (format : Format)
    (next : TableData → Layout) (layout : Layout) (rest : List ℕ)
    → InValue old at (value.Text start) format next layout rest → new.phase ≡ phase.Value at (value.Text start)
    → new.pairs.items ≡ old.pairs.items → new.values.items ≡ old.values.items
    → new.pool.items ≡ old.pool.items ++ more → HasNoZero (rest ++ more)
    → TableAt order new new.phase format next layout (rest ++ more)
text_grown order old new at start more format next layout rest is phase_is pairs values pool none =
    let grown = holds_grown old.pairs.items old.pool.items more old.values.items is.entries is.before is.holds in
    let dropped : drop start new.pool.items ≡ rest ++ more =
    ap (λ (l : List ℕ). drop start l) pool ∙ drop-append-le start old.pool.items more is.value.1
    ∙ ap (λ (l : List ℕ). l ++ more) is.value.2 in
    let now : InValue new at (value.Text start) format next layout (rest ++ more) = record {
      entries = is.entries;
      before = is.before;
      column = is.column;
      pair = is.pair;
      later = is.later;
      at_pair = ap (λ (ps : List Pair). drop (length is.before) ps) pairs ∙ is.at_pair;
      holds =
          subst (λ (ps : List Pair). Holds ps new.pool.items new.values.items is.entries is.before) (sym pairs)
          (subst (λ (w : List ℕ). Holds old.pairs.items w new.values.items is.entries is.before) (sym pool)
          (subst (λ (hs : List StoredValue). Holds old.pairs.items (old.pool.items ++ more) hs is.entries is.before)
          (sym values) grown));
      summed = subst (λ (hs : List StoredValue). Summed hs start) (sym values) is.summed;
      layout_is = is.layout_is ∙ ap (λ (ps : List Pair). values_left format next ps is.entries is.before at.left)
          (sym pairs);
      value = (is.value.0, omega (arith, is.value.1, ap length pool, length-append old.pool.items more), dropped, none);
    } in
    subst (λ (p : TablePhase). TableAt order new p format next layout (rest ++ more)) (sym phase_is) now
