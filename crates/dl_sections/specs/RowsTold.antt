-- The rows that visits tell of the current unit. No promise rests on this file.
use Rattle.std.specs.Prelude.{List, [], ◌∷◌, ◌++◌}
use Rattle.dl_rows.specs.Items.{a_row}
use Rattle.dl_rows.specs.declared.row.Row.{Row}
use Rattle.dl_sections.specs.Section.{Visit, of_damage, of_item, of_end}

-- the rows since the last unit that is whole or damaged; rows: those before the visits
abbrev pub rows_after : List Row → List Visit → List Row
rows_after rows [] = rows
rows_after rows (of_item (a_row header r) ∷ visits) = rows_after (rows ++ r ∷ []) visits
rows_after rows (of_end h ∷ visits) = rows_after [] visits
rows_after rows (of_damage unit offset kind ∷ visits) = rows_after [] visits
rows_after rows (visit ∷ visits) = rows_after rows visits
