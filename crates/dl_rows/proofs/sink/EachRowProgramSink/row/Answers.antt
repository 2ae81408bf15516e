use Rattle.std.proofs.Common.{List, ap, ◌∷◌, [], ◌++◌, ◌∙◌}
use Rattle.dl_rows.specs.Items.{a_row}
use Rattle.dl_rows.specs.declared.row.Row.{Row}
use Rattle.dl_rows.proofs.ItemLemmas.{rows-append}
use Rattle.dl_rows.proofs.sink.EachRowProgramSink.row.Goals as goal

pub returns : goal.returns
returns c first items none = (
  c.args._row.now,
  rows-append items (a_row c.args._header.now c.args._row.now ∷ []) ∙ ap (λ (z : List Row). z ++ c.args._row.now ∷ []) none,
)
