-- What the reader of a table has taken: good fields, and bytes of the next one. No promise rests on this file.
use Rattle.std.specs.Prelude.{ℕ, List, ◌++◌}
use Rattle.dl_num.specs.declared.fixed.Order.{Order}
use Rattle.dl_num.specs.Laws.{AllBytes}
use Rattle.dl_table.specs.declared.form.Format.{Format}
use Rattle.dl_head.specs.declared.reader.Phase.{Phase}
use Rattle.dl_head.specs.declared.reader.Phase.TheVariants as phase
use Rattle.dl_field.specs.declared.table_reader.TableReader.{TableReader}
use Rattle.dl_table.specs.TableData.{TableData}
use Rattle.dl_field.specs.Layout.{Layout, last_entry, Item, following_all, table_layout}
use Rattle.dl_head.specs.HeaderLayout.{format_alone}
use Rattle.dl_head.specs.Header.{SpellsFields}
use Rattle.dl_field.specs.TableMoves.{AmongTable}
use Rattle.dl_field.specs.TablePlace.{IsFresh}

-- a table after which no field follows
abbrev pub alone : Format → TableData → Layout
alone format t = last_entry (record { params = format_alone format; directories = t; files = t })

-- good fields were taken from the layout on, and of the next one bytes, in which is_at says where the reader is
pub record Spelt (order : Order) (first : Layout) (is_at : Layout → List ℕ → Type 0) : Type 0 where
  pub items : List Item
  pub fields : List ℕ
  pub rest : List ℕ
  pub bytes : AllBytes (fields ++ rest)
  pub spelt : SpellsFields order first items fields
  pub at : is_at (following_all first items) rest

-- by the reader of the current table, which isn't at the table's end
abbrev pub TableReads : Order → Format → TableReader → Type 0
TableReads order format t = Spelt order (table_layout format (alone format)) (AmongTable order format t (alone format))

-- what is known of it: nothing is taken while the format isn't known
abbrev pub TableStands : Phase → Order → Format → TableReader → Type 0
TableStands (phase.UnitLength n) order format t = IsFresh t
TableStands (phase.LongUnitLength n) order format t = IsFresh t
TableStands phase.Done order format t = Unit {0}
TableStands (phase.Foreign v) order format t = Unit {0}
TableStands (phase.Failed f) order format t = Unit {0}
TableStands p order format t = TableReads order format t
