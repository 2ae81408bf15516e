-- A table's reader that is as it was, and what bytes make of it.
use Rattle.std.proofs.Common.{◌≡◌, ℕ, List, [], ◌++◌, length, drop, not, ◌==◌, refl, sym, ap, subst, arith}
use Rattle.std.proofs.Common.{◌∙◌}
use Rattle.dl_num.specs.declared.fixed.Order.{Order}
use Rattle.dl_table.specs.declared.form.Format.{Format}
use Rattle.dl_table.specs.declared.table.Pair.{Pair}
use Rattle.dl_table.specs.declared.table.held.StoredValue.{StoredValue}
use Rattle.dl_field.specs.declared.field_step.FieldStep.{FieldStep}
use Rattle.dl_field.specs.declared.field_step.FieldStep.TheVariants as byte_makes
use Rattle.dl_field.specs.declared.table_reader.TableReader.{TableReader}
use Rattle.dl_field.specs.declared.table_reader.TablePhase.{TablePhase}
use Rattle.dl_field.specs.declared.table_reader.TablePhase.TheVariants as table
use Rattle.dl_field.specs.declared.value_phase.Cursor.{Cursor}
use Rattle.dl_field.specs.declared.value_phase.ValuePhase.{ValuePhase}
use Rattle.dl_field.specs.declared.value_phase.ValuePhase.TheVariants as value
use Rattle.dl_table.specs.TableData.{TableData}
use Rattle.dl_table.specs.Value.{Value}
use Rattle.dl_field.specs.Layout.{Layout, number_then, content_code}
use Rattle.dl_field.specs.TablePlace.{NoValues, form_left, after_pairs, values_left, Holds, Summed, InValue}
use Rattle.dl_field.specs.TablePlace.{InBlock, IsWhole, ValueAt, TableAt, reader_cells}
use Rattle.dl_field.specs.TableMoves.{Adds, SameTable, TableMade, BytesFollow}
use Rattle.dl_field.specs.TableStep.{value_filled}
use Rattle.dl_field.proofs.PairLemmas.{table_at}

-- ---- a table that is as it was

no_values_same : (old new : TableReader) → SameTable old new → NoValues old → NoValues new
no_values_same old new s none = record { values = s.values ∙ none.values; pool = s.pool ∙ none.pool }

holds_same : (old new : TableReader) (entries : List (List Value)) (before : List Value) → SameTable old new
    → Holds old.pairs.items old.pool.items old.values.items entries before
    → Holds new.pairs.items new.pool.items new.values.items entries before
holds_same old new entries before s holds =
    subst (λ (ps : List Pair). Holds ps new.pool.items new.values.items entries before) (sym s.pairs)
    (subst (λ (w : List ℕ). Holds old.pairs.items w new.values.items entries before) (sym s.pool)
    (subst (λ (hs : List StoredValue). Holds old.pairs.items old.pool.items hs entries before) (sym s.values) holds))

summed_same : (old new : TableReader) (filled : ℕ → ℕ) → SameTable old new
    → Summed old.values.items (filled (length old.pool.items))
    → Summed new.values.items (filled (length new.pool.items))
summed_same old new filled s summed =
    subst (λ (hs : List StoredValue). Summed hs (filled (length new.pool.items))) (sym s.values)
    (subst (λ (w : List ℕ). Summed old.values.items (filled (length w))) (sym s.pool) summed)

value_same : (old new : TableReader) (at : Cursor) (v : ValuePhase) (format : Format) (next : TableData → Layout)
    (layout : Layout) (rest : List ℕ) → SameTable old new → InValue old at v format next layout rest
    → InValue new at v format next layout rest
value_same old new at v format next layout rest s is = record {
  entries = is.entries;
  before = is.before;
  column = is.column;
  pair = is.pair;
  later = is.later;
  at_pair = ap (λ (ps : List Pair). drop (length is.before) ps) s.pairs ∙ is.at_pair;
  holds = holds_same old new is.entries is.before s is.holds;
  summed = summed_same old new (value_filled v) s is.summed;
  layout_is = is.layout_is ∙ ap (λ (ps : List Pair). values_left format next ps is.entries is.before at.left)
      (sym s.pairs);
  value = subst (λ (w : List ℕ). ValueAt format is.pair.form v w rest) (sym s.pool) is.value;
}

block_same : (order : Order) (old new : TableReader) (at : Cursor) (left : ℕ) (format : Format)
    (next : TableData → Layout) (layout : Layout) (rest : List ℕ) → SameTable old new
    → InBlock order old at left format next layout rest → InBlock order new at left format next layout rest
block_same order old new at left format next layout rest s is = record {
  entries = is.entries;
  before = is.before;
  column = is.column;
  pair = is.pair;
  later = is.later;
  at_pair = ap (λ (ps : List Pair). drop (length is.before) ps) s.pairs ∙ is.at_pair;
  earlier = is.earlier;
  pool = is.pool;
  size = is.size;
  bytes = is.bytes;
  values_are = s.values ∙ is.values_are;
  pool_is = s.pool ∙ is.pool_is;
  holds = subst (λ (ps : List Pair). Holds ps is.pool is.earlier is.entries is.before) (sym s.pairs) is.holds;
  summed = is.summed;
  layout_is = is.layout_is ∙ ap (λ (ps : List Pair). values_left format next ps is.entries is.before at.left)
      (sym s.pairs);
  rest_is = is.rest_is;
  length_is = is.length_is;
  some = is.some;
}

whole_same : (old new : TableReader) (format : Format) (next : TableData → Layout) (layout : Layout) → SameTable old new
    → IsWhole old format next layout → IsWhole new format next layout
whole_same old new format next layout s is = record {
  entries = is.entries;
  holds = holds_same old new is.entries [] s is.holds;
  summed = summed_same old new (λ n. n) s is.summed;
  some_pairs = λ none. is.some_pairs (ap length (sym s.pairs) ∙ none);
  layout_is = is.layout_is ∙ ap (λ (ps : List Pair). next
      (record { format = format; pairs = ps; entries = is.entries })) (sym s.pairs);
}

same_at : (order : Order) (old new : TableReader) (p : TablePhase) (format : Format) (next : TableData → Layout)
    (layout : Layout) (rest : List ℕ) → SameTable old new → new.phase ≡ p
    → TableAt order old p format next layout rest → TableAt order new p format next layout rest
same_at order old new table.PairCount format next layout rest s e at = (
  record { phase = e; pairs = s.pairs ∙ at.0.pairs; values = s.values ∙ at.0.values; pool = s.pool ∙ at.0.pool },
  at.1,
  at.2,
)
same_at order old new (table.ContentCode left code) format next layout rest s e at = (
  no_values_same old new s at.0,
  at.1 ∙ ap
      (λ (ps : List Pair). number_then content_code (form_left format next left ps)) (sym s.pairs),
  at.2,
  at.3,
)
same_at order old new (table.FormCode left content code) format next layout rest s e at = (
  no_values_same old new s at.0,
  at.1 ∙ ap (λ (ps : List Pair). form_left format next left ps content) (sym s.pairs),
  at.2,
  at.3,
)
same_at order old new (table.EntryCount count) format next layout rest s e at = (
  no_values_same old new s at.0,
  at.1 ∙ ap (λ (ps : List Pair). after_pairs format next (not (length ps == 0)) ps)
      (sym s.pairs),
  at.2,
)
same_at order old new (table.Value at (value.Block left)) format next layout rest s e is =
    block_same order old new at left format next layout rest s is
same_at order old new (table.Value at (value.Number f n)) format next layout rest s e is =
    value_same old new at (value.Number f n) format next layout rest s is
same_at order old new (table.Value at (value.Leb u)) format next layout rest s e is =
    value_same old new at (value.Leb u) format next layout rest s is
same_at order old new (table.Value at (value.Text start)) format next layout rest s e is =
    value_same old new at (value.Text start) format next layout rest s is
same_at order old new (table.Value at (value.Data16 x)) format next layout rest s e is =
    value_same old new at (value.Data16 x) format next layout rest s is
same_at order old new (table.Value at (value.BlockLength n)) format next layout rest s e is =
    value_same old new at (value.BlockLength n) format next layout rest s is
same_at order old new (table.Value at (value.LebBlockLength u)) format next layout rest s e is =
    value_same old new at (value.LebBlockLength u) format next layout rest s is
same_at order old new table.Whole format next layout rest s e at = (whole_same old new format next layout s at.0, at.1)

-- the reader is where it was
pub table_same : (order : Order) (old new : TableReader) (format : Format) (next : TableData → Layout) (layout : Layout)
    (rest : List ℕ) → SameTable old new → TableAt order old old.phase format next layout rest
    → TableAt order new new.phase format next layout rest
table_same order old new format next layout rest s at =
    same_at order old new new.phase format next layout rest s refl
    (table_at order old new.phase format next layout rest (sym s.phase) at)

-- ---- bytes that come after

pub both_same : (old mid new : TableReader) → SameTable old mid → SameTable mid new → SameTable old new
both_same old mid new s t = record {
  phase = t.phase ∙ s.phase;
  pairs = t.pairs ∙ s.pairs;
  values = t.values ∙ s.values;
  pool = t.pool ∙ s.pool;
}

pub same_cells : (old mid : TableReader) → SameTable old mid → reader_cells mid ≡ reader_cells old
same_cells old mid s = omega (arith, ap length s.pairs, ap length s.values, ap length s.pool)

made_same : (order : Order) (old mid new : TableReader) (format : Format) (next : TableData → Layout) (layout : Layout)
    (w : List ℕ) (result : FieldStep) → SameTable old mid
    → TableMade order mid format next layout w result new → TableMade order old format next layout w result new
made_same order old mid new format next layout w byte_makes.Within s made = made
made_same order old mid new format next layout w byte_makes.Ends s made = made
made_same order old mid new format next layout w (byte_makes.Refuses kind) s made =
    (made.0, both_same old mid new s made.1)
made_same order old mid new format next layout w byte_makes.NoMemory s made =
    (both_same old mid new s made.0, made.1)

-- what bytes make of a reader that is as it was, they make of it before
pub follows_same : (order : Order) (format : Format) (old mid new : TableReader) (bytes : List ℕ) (result : FieldStep)
    → SameTable old mid → BytesFollow order format mid bytes result new
    → BytesFollow order format old bytes result new
follows_same order format old mid new bytes result s f = record {
  made = λ going next layout rest at.
      made_same order old mid new format next layout (rest ++ bytes) result s
      (f.made (λ whole. going (sym s.phase ∙ whole)) next layout rest
      (table_same order old mid format next layout rest s at));
  cells = λ going next layout rest at.
      subst (λ (n : ℕ). Adds order layout rest (rest ++ bytes) result n (reader_cells new)) (same_cells old mid s)
      (f.cells (λ whole. going (sym s.phase ∙ whole)) next layout rest
      (table_same order old mid format next layout rest s at));
}
