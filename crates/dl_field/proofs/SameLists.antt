-- The reader of a table of versions 2 to 4 that is as it was.
use Rattle.std.proofs.Common.{◌≡◌, ℕ, List, [], ◌++◌, length, drop, sym, ap, subst, ◌∙◌, arith}
use Rattle.dl_num.specs.declared.leb.Uleb.{Uleb}
use Rattle.dl_num.specs.declared.fixed.Order.{Order}
use Rattle.dl_table.specs.declared.form.Format.{Format}
use Rattle.dl_table.specs.declared.table.Pair.{Pair}
use Rattle.dl_table.specs.declared.table.held.StoredValue.{StoredValue}
use Rattle.dl_table.specs.TableData.{TableData}
use Rattle.dl_table.specs.Value.{Value}
use Rattle.dl_field.specs.Layout.{Layout, path_or_end, listed_from}
use Rattle.dl_field.specs.TablePlace.{Holds, Summed}
use Rattle.dl_field.specs.declared.field_step.FieldStep.{FieldStep}
use Rattle.dl_field.specs.declared.field_step.FieldStep.TheVariants as byte_makes
use Rattle.dl_field.specs.declared.list_reader.ListKind.{ListKind}
use Rattle.dl_field.specs.declared.list_reader.ListPhase.{ListPhase}
use Rattle.dl_field.specs.declared.list_reader.ListPhase.TheVariants as phase
use Rattle.dl_field.specs.declared.list_reader.ListReader.{ListReader}
use Rattle.dl_field.specs.ListStep.{listed}
use Rattle.dl_field.specs.ListPlace.{InPath, InNumber, IsList, ListAt, SameList, list_cells, ListMade, ListTakes}
use Rattle.dl_field.specs.TableMoves.{Adds}
use Rattle.dl_field.proofs.ListLemmas.{list_at}

module _ (old new : ListReader) (s : SameList old new) where
  held_same : (pairs : List Pair) (entries : List (List Value)) (before : List Value)
      → Holds pairs old.pool.items old.values.items entries before
      → Holds pairs new.pool.items new.values.items entries before
  held_same pairs entries before holds =
      subst (λ (w : List ℕ). Holds pairs w new.values.items entries before) (sym s.pool)
      (subst (λ (hs : List StoredValue). Holds pairs old.pool.items hs entries before) (sym s.values) holds)

  of_kind : (entries : List (List Value)) (before : List Value)
      → Holds (listed old.kind) old.pool.items old.values.items entries before
      → Holds (listed new.kind) new.pool.items new.values.items entries before
  of_kind entries before holds =
      subst (λ (k : ListKind). Holds (listed k) new.pool.items new.values.items entries before) (sym s.kind)
      (held_same (listed old.kind) entries before holds)

  all_summed : Summed old.values.items (length old.pool.items) → Summed new.values.items (length new.pool.items)
  all_summed e =
      subst (λ (w : List ℕ). Summed new.values.items (length w)) (sym s.pool)
      (subst (λ (hs : List StoredValue). Summed hs (length old.pool.items)) (sym s.values) e)

  path_same : (start : ℕ) (format : Format) (next : TableData → Layout) (layout : Layout) (rest : List ℕ)
      → InPath old start format next layout rest → InPath new start format next layout rest
  path_same start format next layout rest is = record {
    none = s.pairs ∙ is.none;
    entries = is.entries;
    holds = of_kind is.entries _ is.holds;
    summed = subst (λ (hs : List StoredValue). Summed hs start) (sym s.values) is.summed;
    layout_is = is.layout_is ∙ ap (λ (k : ListKind). path_or_end format (listed k) is.entries next) (sym s.kind);
    start_is = omega (arith, is.start_is, ap length s.pool);
    rest_is = ap (λ (w : List ℕ). drop start w) s.pool ∙ is.rest_is;
    no_zero = is.no_zero;
  }

  number_same : (left : ℕ) (number : Uleb) (format : Format) (next : TableData → Layout) (layout : Layout)
      (rest : List ℕ) → InNumber old left number format next layout rest
      → InNumber new left number format next layout rest
  number_same left number format next layout rest is = record {
    none = s.pairs ∙ is.none;
    entries = is.entries;
    before = is.before;
    path = is.path;
    some = is.some;
    place = is.place ∙ ap (λ (k : ListKind). length (listed k)) (sym s.kind);
    holds = of_kind is.entries is.before is.holds;
    summed = all_summed is.summed;
    layout_is = is.layout_is
        ∙ ap (λ (k : ListKind). listed_from format (listed k) is.entries is.before next) (sym s.kind);
    took = is.took;
  }

  whole_same : (format : Format) (next : TableData → Layout) (layout : Layout) → IsList old format next layout
      → IsList new format next layout
  whole_same format next layout is = record {
    pairs = s.pairs ∙ is.pairs ∙ ap listed (sym s.kind);
    entries = is.entries;
    holds = subst (λ (pairs : List Pair). Holds pairs new.pool.items new.values.items is.entries []) (sym s.pairs)
        (held_same old.pairs.items is.entries [] is.holds);
    summed = all_summed is.summed;
    layout_is = is.layout_is
        ∙ ap (λ (pairs : List Pair). next (record { format = format; pairs = pairs; entries = is.entries }))
        (sym s.pairs);
  }

  same_at : (p : ListPhase) (format : Format) (next : TableData → Layout) (layout : Layout) (rest : List ℕ)
      → ListAt old p format next layout rest → ListAt new p format next layout rest
  same_at (phase.Path start) format next layout rest at = path_same start format next layout rest at
  same_at (phase.Number left number) format next layout rest at =
      number_same left number format next layout rest at
  same_at phase.Whole format next layout rest at = (whole_same format next layout at.0, at.1)

-- the reader is where it was
pub list_same : (old new : ListReader) (format : Format) (next : TableData → Layout) (layout : Layout)
    (rest : List ℕ) → SameList old new → ListAt old old.phase format next layout rest
    → ListAt new new.phase format next layout rest
list_same old new format next layout rest s at =
    same_at old new s new.phase format next layout rest
    (list_at old new.phase format next layout rest (sym s.phase) at)

pub same_list_cells : (old new : ListReader) → SameList old new → list_cells new ≡ list_cells old
same_list_cells old new s = omega (arith, ap length s.pairs, ap length s.values, ap length s.pool)

-- ---- bytes that come after

both_same : (old mid new : ListReader) → SameList old mid → SameList mid new → SameList old new
both_same old mid new s t = record {
  kind = t.kind ∙ s.kind;
  phase = t.phase ∙ s.phase;
  pairs = t.pairs ∙ s.pairs;
  values = t.values ∙ s.values;
  pool = t.pool ∙ s.pool;
}

made_same : (order : Order) (old mid new : ListReader) (format : Format) (next : TableData → Layout) (layout : Layout)
    (w : List ℕ) (result : FieldStep) → SameList old mid
    → ListMade order mid format next layout w result new → ListMade order old format next layout w result new
made_same order old mid new format next layout w byte_makes.Within s made = made
made_same order old mid new format next layout w byte_makes.Ends s made = made
made_same order old mid new format next layout w (byte_makes.Refuses k) s made =
    (made.0, both_same old mid new s made.1)
made_same order old mid new format next layout w byte_makes.NoMemory s made =
    (both_same old mid new s made.0, made.1)

-- what bytes make of a reader that is as it was, they make of it before
pub takes_same : (old mid new : ListReader) (bytes : List ℕ) (result : FieldStep) → SameList old mid
    → ListTakes mid bytes result new → ListTakes old bytes result new
takes_same old mid new bytes result s f = record {
  made = λ going order format next layout rest at.
      made_same order old mid new format next layout (rest ++ bytes) result s
      (f.made (λ whole. going (sym s.phase ∙ whole)) order format next layout rest
      (list_same old mid format next layout rest s at));
  cells = λ going order format next layout rest at.
      subst (λ (n : ℕ). Adds order layout rest (rest ++ bytes) result n (list_cells new)) (same_list_cells old mid s)
      (f.cells (λ whole. going (sym s.phase ∙ whole)) order format next layout rest
      (list_same old mid format next layout rest s at));
}
