use Rattle.std.proofs.Common.{refl}
use Rattle.dl_rows.specs.Items.{an_operation}
use Rattle.dl_sections.specs.Section.{of_item}
use Rattle.dl_dump_json.proofs.DumpingLemmas.{prints_nothing}
use Rattle.dl_dump_json.proofs.dumping.JsonDumperVisitor.operation.Goals as goal

pub returns-clause-heard : goal.returns-clause-heard
returns-clause-heard g c first start visits s =
    prints_nothing s (of_item (an_operation c.args._header.now c.args._operation)) refl refl
