-- Values of the header reader's current table: from its reader to the header's.
use Rattle.std.proofs.Common.{◌≡◌, ℕ, ◌+◌, List, [], ◌∷◌, ◌++◌, refl, sym, subst, arith, append_assoc, append-nil}
use Rattle.dl_num.specs.declared.fixed.Order.{Order}
use Rattle.dl_table.specs.TableData.{TableData}
use Rattle.dl_field.specs.FieldRuns.{EndEach, TakesFields}
use Rattle.dl_field.specs.Layout.{Layout, Item, following, following_all}
use Rattle.dl_head.specs.declared.reader.HeadReader.{HeadReader}
use Rattle.dl_head.specs.Place.{parts, Bounds, bounds, Past, PastIn, InFields, At, held_cells}
use Rattle.dl_head.specs.Whole.{TakesValues}
use Rattle.dl_head.proofs.OneFieldMore.{past_more}

-- other cells are held beside those of the table
each_beside : (order : Order) (layout : Layout) (rest : List ℕ) (values : List (List ℕ)) (items : List Item)
    (k m n old new : ℕ) (left : List ℕ) → old ≡ k + m → new ≡ k + n → EndEach order layout rest values items m n left
    → EndEach order layout rest values items old new left
each_beside order layout rest [] [] k m n old new left before after e = (e.0, omega (arith, before, after, e.1))
each_beside order layout rest (w ∷ values) (i ∷ items) k m n old new left before after e = (
  k + e.0,
  e.1,
  e.2,
  omega (arith, before, e.3),
  each_beside order (following layout i) [] values items k e.0 n (k + e.0) new left refl after e.4,
)
each_beside order layout rest [] (i ∷ items) k m n old new left before after e = absurd e
each_beside order layout rest (w ∷ values) [] k m n old new left before after e = absurd e

-- after more fields
past_all : (b : Bounds) (items more : List Item) (layout : Layout) → PastIn b items layout
    → PastIn b (items ++ more) (following_all layout more)
past_all b items [] layout p = rw (append-nil items) p
past_all b items (i ∷ more) layout p =
    subst (λ (is : List Item). PastIn b is (following_all layout (i ∷ more))) (append_assoc items (i ∷ []) more)
    (past_all b (items ++ i ∷ []) more (following layout i) (past_more i p))

-- The reader of the current table takes values, from t to u; is_at says in which field the reader is before.
module _ (r new : HeadReader) (bytes : List ℕ) (k : ℕ) {T : Type 0}
    (Among : T → (TableData → Layout) → Layout → List ℕ → Type 0) (cells_of : T → ℕ) (t u : T)
    (next : TableData → Layout) (is_at : Layout → List ℕ → Type 0)
    (v : TakesFields r.dialect.order Among cells_of t bytes u) (phase : new.phase ≡ r.phase) (end : new.end ≡ r.end)
    (before : held_cells r ≡ k + cells_of t) (after : held_cells new ≡ k + cells_of u)
    (of : (items : List Item) (rest : List ℕ) → At r items rest → InFields (bounds (parts r)) items rest is_at)
    (among : (l : Layout) (w : List ℕ) → is_at l w → Among t next l w)
    (to : (is : List Item) (l m : Layout) (w z : List ℕ) → is_at l w → Past r is m → Among u next m z → At new is z)
  where
    pub values_taken : TakesValues r bytes new
    values_taken = record {
      values = v.values;
      bytes_are = v.bytes_are;
      each = λ items rest at.
          let i = of items rest at in
          let e = v.each next i.layout rest (among i.layout rest i.at) in
          record {
            more = e.0;
            left = e.1;
            ends = subst (λ (l : Layout). EndEach r.dialect.order l rest v.values e.0 (held_cells r) (held_cells new)
                e.1) (sym i.tail.follows)
                (each_beside r.dialect.order i.layout rest v.values e.0 k (cells_of t) (cells_of u) (held_cells r)
                (held_cells new) e.1 before after e.2);
            at = to (items ++ e.0) i.layout (following_all i.layout e.0) rest e.1 i.at
                (past_all (bounds (parts r)) items e.0 i.layout i.tail) e.3;
            past = λ some. (i.layout, i.tail);
          };
      phase = phase;
      end = end;
    }
