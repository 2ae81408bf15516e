use Rattle.std.proofs.Common.{refl}
use Rattle.dl_rows.specs.Items.{an_operation}
use Rattle.dl_sections.specs.Section.{of_item}
use Rattle.dl_lines.proofs.SeekLemmas.{still}
use Rattle.dl_lines.proofs.seeker.LineSeekerVisitor.operation.Goals as goal

pub returns-clause-heard : goal.returns-clause-heard
returns-clause-heard g c first start visits s =
    still g.M.Memory.refuses first c.args.self.now start (g.W.Write.contents c.args._output.now) visits s
    (of_item (an_operation c.args._header.now c.args._operation)) refl
