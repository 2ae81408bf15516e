-- Bytes of a table, of whichever version: where its reader begins, and what they make of the field that they fall in.
use Rattle.std.proofs.Common.{◌≡◌, ℕ, List, [], ◌++◌, map, None, refl, sym, ap, subst, ◌∙◌, arith}
use Rattle.dl_num.specs.declared.fixed.Order.{Order}
use Rattle.dl_table.specs.declared.form.Format.{Format}
use Rattle.dl_table.specs.declared.table.held.StoredValue.{StoredValue}
use Rattle.dl_table.specs.Held.{value_held, values_end}
use Rattle.dl_table.specs.TableData.{TableData}
use Rattle.dl_table.specs.Value.{good, bad}
use Rattle.dl_field.specs.declared.field_step.FieldStep.{FieldStep}
use Rattle.dl_field.specs.declared.field_step.FieldStep.TheVariants as byte_makes
use Rattle.dl_field.specs.declared.list_reader.ListKind.{ListKind}
use Rattle.dl_field.specs.declared.list_reader.ListPhase.{ListPhase}
use Rattle.dl_field.specs.declared.list_reader.ListPhase.TheVariants as list
use Rattle.dl_field.specs.declared.list_reader.ListReader.{ListReader}
use Rattle.dl_field.specs.declared.table_reader.TablePhase.{TablePhase}
use Rattle.dl_field.specs.declared.table_reader.TablePhase.TheVariants as table
use Rattle.dl_field.specs.declared.table_reader.TableReader.{TableReader}
use Rattle.dl_field.specs.Layout.{Layout, Item, following, field_spelt, path_or_end, table_layout}
use Rattle.dl_field.specs.ListPlace.{IsFreshList, ListAt, ListFollows, AmongList}
use Rattle.dl_field.specs.ListStep.{listed}
use Rattle.dl_field.specs.TableMoves.{AmongTable, BytesFollow}
use Rattle.dl_field.specs.TablePlace.{IsFresh, Summed, TableAt}
use Rattle.dl_field.proofs.SameLists.{list_same}
use Rattle.dl_field.proofs.SameTables.{table_same}

-- ---- before the first byte

pub table_begins : (order : Order) (format : Format) (t : TableReader) (next : TableData → Layout) (layout : Layout)
    → IsFresh t → layout ≡ table_layout format next → AmongTable order format t next layout []
table_begins order format t next layout is e = (
  subst (λ (p : TablePhase). TableAt order t p format next layout []) (sym is.phase) (is, e, refl),
  λ whole. begun (sym is.phase ∙ whole),
) where
  begun : table.PairCount ≡ table.Whole → ⊥
  begun e = absurd cc

pub list_begins : (k : ListKind) (format : Format) (t : ListReader) (next : TableData → Layout) (layout : Layout)
    → IsFreshList k t → layout ≡ path_or_end format (listed k) [] next → AmongList format t next layout []
list_begins k format t next layout is e = (
  subst (λ (p : ListPhase). ListAt t p format next layout []) (sym is.phase) (record {
    none = is.pairs;
    entries = [];
    holds = record {
      held = ap (λ (hs : List StoredValue). map (value_held t.pool.items) hs) (sym is.values);
      wide = tt;
      within = omega (arith, ap values_end is.values);
    };
    summed = subst (λ (hs : List StoredValue). Summed hs 0) (sym is.values) refl;
    layout_is = e ∙ ap (λ (q : ListKind). path_or_end format (listed q) [] next) (sym is.kind);
    start_is = omega arith;
    rest_is = is.pool;
    no_zero = tt;
  }),
  λ whole. begun (sym is.phase ∙ whole),
) where
  begun : list.Path 0 ≡ list.Whole → ⊥
  begun e = absurd cc

-- ---- bytes more

-- what bytes make of the field, after which Then says where the reader is
abbrev pub Makes : Order → Layout → (rest bytes : List ℕ) → (Layout → List ℕ → Type 0) → FieldStep → Type 0
Makes order layout rest bytes Then byte_makes.Within = (field_spelt order layout (rest ++ bytes) ≡ None)
    × Then layout (rest ++ bytes)
Makes order layout rest bytes Then byte_makes.Ends = (i : Item) × (field_spelt order layout (rest ++ bytes) ≡ good i)
    × Then (following layout i) []
Makes order layout rest bytes Then (byte_makes.Refuses kind) = (field_spelt order layout (rest ++ bytes) ≡ bad kind)
    × Then layout rest
Makes order layout rest bytes Then byte_makes.NoMemory = Then layout rest

module _ (order : Order) (format : Format) (next : TableData → Layout) (layout : Layout) (rest bytes : List ℕ)
    (Then : Layout → List ℕ → Type 0) where
  pub table_makes : (old new : TableReader) (result : FieldStep) → BytesFollow order format old bytes result new
      → AmongTable order format old next layout rest
      → ((l : Layout) (w : List ℕ) → TableAt order new new.phase format next l w → Then l w)
      → Makes order layout rest bytes Then result
  table_makes old new byte_makes.Within f is to = let m = f.made is.1 next layout rest is.0 in (m.0, to _ _ m.1)
  table_makes old new byte_makes.Ends f is to = let m = f.made is.1 next layout rest is.0 in (m.0, m.1, to _ _ m.2)
  table_makes old new (byte_makes.Refuses kind) f is to =
      let m = f.made is.1 next layout rest is.0 in
      (m.0, to _ _ (table_same order old new format next layout rest m.1 is.0))
  table_makes old new byte_makes.NoMemory f is to =
      let m = f.made is.1 next layout rest is.0 in to _ _ (table_same order old new format next layout rest m.0 is.0)

  pub list_makes : (old new : ListReader) (result : FieldStep) → ListFollows old bytes result new
      → AmongList format old next layout rest → ((l : Layout) (w : List ℕ) → ListAt new new.phase format next l w
      → Then l w)
      → Makes order layout rest bytes Then result
  list_makes old new byte_makes.Within f is to = let m = f is.1 order format next layout rest is.0 in (m.0, to _ _ m.1)
  list_makes old new byte_makes.Ends f is to =
      let m = f is.1 order format next layout rest is.0 in (m.0, m.1, to _ _ m.2)
  list_makes old new (byte_makes.Refuses kind) f is to =
      let m = f is.1 order format next layout rest is.0 in
      (m.0, to _ _ (list_same old new format next layout rest m.1 is.0))
  list_makes old new byte_makes.NoMemory f is to =
      let m = f is.1 order format next layout rest is.0 in to _ _ (list_same old new format next layout rest m.0 is.0)
