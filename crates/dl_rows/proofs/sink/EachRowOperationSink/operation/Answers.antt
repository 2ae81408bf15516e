use Rattle.std.proofs.Common.{[], ◌∷◌, ◌∙◌}
use Rattle.dl_rows.specs.Items.{an_operation}
use Rattle.dl_rows.proofs.ItemLemmas.{rows-append}
use Rattle.dl_rows.proofs.sink.EachRowOperationSink.operation.Goals as goal

pub returns : goal.returns
returns c first items none = rows-append items (an_operation c.args._header.now c.args._operation ∷ []) ∙ rw none
