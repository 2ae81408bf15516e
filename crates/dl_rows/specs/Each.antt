-- The sink that stops at each row. No promise rests on this file.
use Rattle.std.specs.Prelude.{◌≡◌, [], ◌∷◌}
use Rattle.dl_rows.specs.Items.{rows_of_items}
use Rattle.dl_rows.specs.declared.row.Row.{Row}
use Rattle.dl_rows.specs.declared.sink.EachRow.{EachRow}
use Rattle.dl_rows.specs.Sinks.{Story}

abbrev pub each_row : Story EachRow
each_row = record {
  hears = λ s items. rows_of_items items ≡ [];
  stops = λ s items. (row : Row) × (rows_of_items items ≡ row ∷ []);
}
