-- The header reader in its tables: from bytes of the current table, of whichever version, to the header's.
use Rattle.std.proofs.Common.{◌≡◌, ◌≢◌, ℕ, ◌+◌, ◌≤◌, true, List, [], ◌∷◌, ◌++◌, length, take, sym, ap, subst, ◌∙◌}
use Rattle.std.proofs.Common.{arith}
use Rattle.std.proofs.lemmas.Bool.{eqb-true}
use Rattle.dl_num.specs.declared.fixed.Order.{Order}
use Rattle.dl_table.specs.TableCells.{table_cells}
use Rattle.dl_table.specs.TableData.{TableData}
use Rattle.dl_field.specs.declared.field_step.FieldStep.{FieldStep}
use Rattle.dl_field.specs.declared.field_step.FieldStep.TheVariants as byte_makes
use Rattle.dl_field.specs.declared.list_reader.ListKind.TheVariants as kind
use Rattle.dl_field.specs.declared.list_reader.ListPhase.TheVariants as list
use Rattle.dl_field.specs.declared.list_reader.ListReader.{ListReader}
use Rattle.dl_field.specs.declared.table_reader.TablePhase.TheVariants as table
use Rattle.dl_field.specs.declared.table_reader.TableReader.{TableReader}
use Rattle.dl_field.specs.Layout.{Layout, Item, following}
use Rattle.dl_field.specs.ListPlace.{IsFreshList, IsList, ListTakes, AmongList, list_cells}
use Rattle.dl_field.specs.TableMoves.{Adds, AmongTable, BytesFollow}
use Rattle.dl_field.specs.TablePlace.{IsFresh, IsWhole, reader_cells}
use Rattle.dl_field.proofs.ListLemmas.{list_at}
use Rattle.dl_field.proofs.PairLemmas.{table_at}
use Rattle.dl_head.specs.declared.reader.HeadReader.{HeadReader}
use Rattle.dl_head.specs.declared.reader.Phase.{Phase}
use Rattle.dl_head.specs.declared.reader.Phase.TheVariants as phase
use Rattle.dl_head.specs.HeadStep.{tables_fit}
use Rattle.dl_head.specs.Place.{parts, bounds, Past, InFields, TableGoes, ListGoes, At, SameCounts, SameUnit, Keeps}
use Rattle.dl_head.specs.Place.{BytesMade, held_cells}
use Rattle.dl_head.specs.Whole.{Pushed}
use Rattle.dl_head.proofs.OneFieldMore.{past_more}
use Rattle.dl_head.proofs.TableBytes.{Makes, table_makes, list_makes}

-- cells beside those that bytes add
pub adds_beside : (order : Order) (layout : Layout) (rest w : List ℕ) (result : FieldStep) (n before after old new : ℕ)
    → old ≡ n + before → new ≡ n + after → Adds order layout rest w result before after
    → Adds order layout rest w result old new
adds_beside order layout rest w byte_makes.Within n before after old new e f adds = omega (arith, e, f, adds)
adds_beside order layout rest w byte_makes.Ends n before after old new e f adds = omega (arith, e, f, adds)
adds_beside order layout rest w (byte_makes.Refuses kind) n before after old new e f adds = omega (arith, e, f, adds)
adds_beside order layout rest w byte_makes.NoMemory n before after old new e f adds =
    (f ∙ ap (λ (k : ℕ). n + k) adds.0 ∙ sym e, adds.1)

-- what is known of the unit's length is kept, whatever the bytes make of the field
keeps_same : (old new : HeadReader) (result : FieldStep) → SameUnit old new → Keeps old result new
keeps_same old new byte_makes.Within s = tt
keeps_same old new byte_makes.Ends s = tt
keeps_same old new (byte_makes.Refuses kind) s = s
keeps_same old new byte_makes.NoMemory s = tt

-- of some bytes the first used are taken
pub record Front (bytes : List ℕ) (used : ℕ) (result : FieldStep) : Type 0 where
  pub some : 1 ≤ used
  pub within : used ≤ length bytes
  pub one : result ≢ byte_makes.Ends → used ≡ 1

-- The reader is in a field of the current table, where is_at says in which, and the bytes are taken of it; Then says
-- where it is after them. Beside the n cells of the others those of the current table were before, and are after.
module _ (old new : HeadReader) (bytes : List ℕ) (used : ℕ) (result : FieldStep) (is_at Then : Layout → List ℕ → Type 0)
    (n before after : ℕ) (front : Front bytes used result) (counts : SameCounts old new) (unit : SameUnit old new)
    (held : held_cells old ≡ n + before)
    (of : (items : List Item) (rest : List ℕ) → At old items rest → InFields (bounds (parts old)) items rest is_at)
    (makes : (l : Layout) (w : List ℕ) → is_at l w → Makes old.dialect.order l w (take used bytes) Then result)
    (adds : (l : Layout) (w : List ℕ) → is_at l w
    → Adds old.dialect.order l w (w ++ take used bytes) result before after)
    (kept : (l : Layout) (w : List ℕ) → Then l w → held_cells new ≡ n + after)
    (to : (is : List Item) (l : Layout) (w : List ℕ) → Past old is l → Then l w → At new is w) where
  made : (items : List Item) (layout : Layout) (rest : List ℕ) → Past old items layout → (result : FieldStep)
      → Makes old.dialect.order layout rest (take used bytes) Then result
      → BytesMade old items rest (take used bytes) result new
  made items layout rest past byte_makes.Within m = (rw past.follows m.0, to items layout _ past m.1)
  made items layout rest past byte_makes.Ends m =
      (m.0, rw past.follows m.1, to (items ++ m.0 ∷ []) (following layout m.0) [] (past_more m.0 past) m.2)
  made items layout rest past (byte_makes.Refuses kind) m = rw past.follows m.0
  made items layout rest past byte_makes.NoMemory m = to items layout rest past m

  holds : (layout : Layout) (rest : List ℕ) (result : FieldStep)
      → Makes old.dialect.order layout rest (take used bytes) Then result → held_cells new ≡ n + after
  holds layout rest byte_makes.Within m = kept _ _ m.1
  holds layout rest byte_makes.Ends m = kept _ _ m.2
  holds layout rest (byte_makes.Refuses kind) m = kept _ _ m.1
  holds layout rest byte_makes.NoMemory m = kept _ _ m

  pub pushed : Pushed old bytes used result new
  pushed = record {
    some = front.some;
    within = front.within;
    one = front.one;
    follows = record {
      made = λ items rest at.
          let i = of items rest at in made items i.layout rest i.tail result (makes i.layout rest i.at);
      cells = λ items rest at.
          let i = of items rest at in
          subst (λ (l : Layout). Adds old.dialect.order l rest (rest ++ take used bytes) result (held_cells old)
          (held_cells new)) (sym i.tail.follows)
          (adds_beside old.dialect.order i.layout rest (rest ++ take used bytes) result n before after (held_cells old)
          (held_cells new) held (holds i.layout rest result (makes i.layout rest i.at)) (adds i.layout rest i.at));
      counts = counts;
    };
    kept = keeps_same old new result unit;
  }

-- of the table of version 5 that next follows; mid is its reader after the bytes
module _ (old new : HeadReader) (bytes : List ℕ) (used : ℕ) (result : FieldStep) (mid : TableReader)
    (next : TableData → Layout) (n : ℕ) (front : Front bytes used result) (counts : SameCounts old new)
    (unit : SameUnit old new) (before : held_cells old ≡ n + reader_cells old.table)
    (of : (items : List Item) (rest : List ℕ) → At old items rest
    → InFields (bounds (parts old)) items rest (TableGoes (parts old) next))
    (follows : BytesFollow old.dialect.order old.params.format old.table (take used bytes) result mid) where
  -- it goes on
  pub table_goes_on : (mid.phase ≡ table.Whole → ⊥) → new.table ≡ mid → held_cells new ≡ n + reader_cells mid
      → ((is : List Item) (w : List ℕ) → InFields (bounds (parts old)) is w
      (AmongTable old.dialect.order old.params.format new.table next) → At new is w) → Pushed old bytes used result new
  table_goes_on going same after to = pushed old new bytes used result _
      (AmongTable old.dialect.order old.params.format new.table next) n _ _ front counts unit before of
      (λ l w is. table_makes old.dialect.order old.params.format next l w (take used bytes) _ old.table mid result
      follows is
      (λ m z at. subst (λ (t : TableReader). AmongTable old.dialect.order old.params.format t next m z) (sym same)
      (at, going)))
      (λ l w is. follows.cells is.1 next l w is.0) (λ l w t. after)
      (λ is l w past at. to is w (record { layout = l; tail = past; at = at }))

  -- it is whole, and taken
  pub table_ends : (d : TableData) → mid.phase ≡ table.Whole
      → ((layout : Layout) → IsWhole mid old.params.format next layout
      → (layout ≡ next d) × (table_cells d ≡ reader_cells mid))
      → (table_cells d ≡ reader_cells mid → held_cells new ≡ n + reader_cells mid)
      → ((is : List Item) → Past old is (next d) → At new is []) → Pushed old bytes used result new
  table_ends d whole gives after to = pushed old new bytes used result _
      (λ l w. IsWhole mid old.params.format next l × (w ≡ [])) n _ _ front counts unit before of
      (λ l w is. table_makes old.dialect.order old.params.format next l w (take used bytes) _ old.table mid result
      follows is (λ m z at. table_at old.dialect.order mid table.Whole old.params.format next m z whole at))
      (λ l w is. follows.cells is.1 next l w is.0) (λ l w t. after (gives l t.0).1)
      (λ is l w past t. subst (λ (z : List ℕ). At new is z) (sym t.1)
      (to is (subst (λ (m : Layout). Past old is m) (gives l t.0).0 past)))

-- of one of versions 2 to 4
module _ (old new : HeadReader) (bytes : List ℕ) (used : ℕ) (result : FieldStep) (mid : ListReader)
    (next : TableData → Layout) (n : ℕ) (front : Front bytes used result) (counts : SameCounts old new)
    (unit : SameUnit old new) (before : held_cells old ≡ n + list_cells old.list)
    (of : (items : List Item) (rest : List ℕ) → At old items rest
    → InFields (bounds (parts old)) items rest (ListGoes (parts old) next))
    (takes : ListTakes old.list (take used bytes) result mid) where
  pub list_goes_on : (mid.phase ≡ list.Whole → ⊥) → new.list ≡ mid → held_cells new ≡ n + list_cells mid
      → ((is : List Item) (w : List ℕ) → InFields (bounds (parts old)) is w
      (λ l z. AmongList old.params.format new.list next l z × IsFresh old.table) → At new is w)
      → Pushed old bytes used result new
  list_goes_on going same after to = pushed old new bytes used result _
      (λ l w. AmongList old.params.format new.list next l w × IsFresh old.table) n _ _ front counts unit before of
      (λ l w is. list_makes old.dialect.order old.params.format next l w (take used bytes)
      (λ m z. AmongList old.params.format new.list next m z × IsFresh old.table) old.list mid result takes.made is.0
      (λ m z at. (subst (λ (t : ListReader). AmongList old.params.format t next m z) (sym same) (at, going), is.1)))
      (λ l w is. takes.cells is.0.1 old.dialect.order old.params.format next l w is.0.0) (λ l w t. after)
      (λ is l w past at. to is w (record { layout = l; tail = past; at = at }))

  pub list_ends : (d : TableData) → mid.phase ≡ list.Whole
      → ((layout : Layout) → IsList mid old.params.format next layout
      → (layout ≡ next d) × (table_cells d ≡ list_cells mid))
      → (table_cells d ≡ list_cells mid → held_cells new ≡ n + list_cells mid)
      → ((is : List Item) → IsFresh old.table → Past old is (next d) → At new is []) → Pushed old bytes used result new
  list_ends d whole gives after to = pushed old new bytes used result _
      (λ l w. IsList mid old.params.format next l × (w ≡ []) × IsFresh old.table) n _ _ front counts unit before of
      (λ l w is. list_makes old.dialect.order old.params.format next l w (take used bytes)
      (λ m z. IsList mid old.params.format next m × (z ≡ []) × IsFresh old.table) old.list mid result takes.made is.0
      (λ m z at. let e = list_at mid list.Whole old.params.format next m z whole at in (e.0, e.1, is.1)))
      (λ l w is. takes.cells is.0.1 old.dialect.order old.params.format next l w is.0.0)
      (λ l w t. after (gives l t.0).1)
      (λ is l w past t. subst (λ (z : List ℕ). At new is z) (sym t.1)
      (to is t.2 (subst (λ (m : Layout). Past old is m) (gives l t.0).0 past)))

-- ---- the cells

pub fresh_cells : (t : TableReader) → IsFresh t → reader_cells t ≡ 0
fresh_cells t fresh = omega (arith, ap length fresh.pairs, ap length fresh.values, ap length fresh.pool)

pub fresh_list_cells : (t : ListReader) → IsFreshList kind.Files t → list_cells t ≡ 0
fresh_list_cells t fresh = omega (arith, ap length fresh.pairs, ap length fresh.values, ap length fresh.pool)

-- no cell before the table of directories, or before that of files
tables_at : (r : HeadReader) (p : Phase) → r.phase ≡ p
    → tables_fit p (table_cells r.directories) (table_cells r.files) ≡ true
tables_at r p e = ap (λ (q : Phase). tables_fit q (table_cells r.directories) (table_cells r.files)) (sym e) ∙ r.tables

pub no_directories : (r : HeadReader) → r.phase ≡ phase.Directories
    → table_cells r.directories + table_cells r.files ≡ 0
no_directories r e = eqb-true _ _ (tables_at r phase.Directories e)

pub no_files : (r : HeadReader) → r.phase ≡ phase.Files → table_cells r.files ≡ 0
no_files r e = eqb-true _ _ (tables_at r phase.Files e)

pub no_older_directories : (r : HeadReader) → r.phase ≡ phase.OlderDirectories
    → table_cells r.directories + table_cells r.files ≡ 0
no_older_directories r e = eqb-true _ _ (tables_at r phase.OlderDirectories e)

pub no_older_files : (r : HeadReader) → r.phase ≡ phase.OlderFiles → table_cells r.files ≡ 0
no_older_files r e = eqb-true _ _ (tables_at r phase.OlderFiles e)
