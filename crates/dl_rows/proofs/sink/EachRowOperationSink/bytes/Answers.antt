use Rattle.std.proofs.Common.{map, ◌∙◌}
use Rattle.dl_rows.specs.Items.{a_byte}
use Rattle.dl_rows.proofs.ItemLemmas.{no_row_of_bytes, rows-append}
use Rattle.dl_rows.proofs.sink.EachRowOperationSink.bytes.Goals as goal

pub returns : goal.returns
returns c first items none =
    rows-append items (map a_byte c.args._bytes.now)
    ∙ rw (none, no_row_of_bytes c.args._bytes.now)
