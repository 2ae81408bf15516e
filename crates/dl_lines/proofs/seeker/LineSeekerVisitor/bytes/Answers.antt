use Rattle.std.proofs.Common.{refl}
use Rattle.dl_rows.specs.Items.{a_byte}
use Rattle.dl_sections.specs.Section.{of_item}
use Rattle.dl_sections.proofs.VisitLemmas.{bytes_by_one}
use Rattle.dl_lines.specs.Seeking.{Seeking}
use Rattle.dl_lines.proofs.SeekLemmas.{still}
use Rattle.dl_lines.proofs.seeker.LineSeekerVisitor.bytes.Goals as goal

pub returns-clause-heard : goal.returns-clause-heard
returns-clause-heard g c first start visits s =
    let now = c.args.self.now in
    let held = g.W.Write.contents c.args._output.now in
    bytes_by_one (Seeking g.M.Memory.refuses first now start held)
    (λ visits x s. still g.M.Memory.refuses first now start held visits s (of_item (a_byte x)) refl)
    visits c.args._bytes.now s
