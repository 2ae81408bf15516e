use Rattle.std.proofs.Common.{refl}
use Rattle.dl_rows.specs.Items.{a_row}
use Rattle.dl_sections.specs.Section.{of_item}
use Rattle.dl_lines.proofs.RowVisits.{row_passed, row_told}
use Rattle.dl_lines.proofs.SeekLemmas.{faults}
use Rattle.dl_lines.proofs.seeker.LineSeekerVisitor.row.Goals as goal

pub returns-then-self-clause-heard : goal.returns-then-self-clause-heard
returns-then-self-clause-heard g c first start visits s =
    faults g.M.Memory.refuses first c.args.self.now start (g.W.Write.contents c.args._output.now) visits s
    (of_item (a_row c.args._header.now c.args.row.now)) c.if-self.true

pub returns-then-takes-clause-heard : goal.returns-then-takes-clause-heard
returns-then-takes-clause-heard g c first start visits s =
    let mid = c.takes.new.self in
    row_told g.M.Memory.refuses first c.args.self.now start (g.W.Write.contents c.args._output.now) visits s mid
    c.args._header.now c.args.row.now c.takes.result c.if-self.false c.takes.ensures.told c.takes.ensures.same
    (record mid { searches = c.add_each-added.new.searches }) c.note.new.self c.add_each-added.result c.if-takes.true
    c.add_each-added.ensures.added refl c.add_each-added.ensures.refused c.note.ensures

pub returns-else-takes-clause-heard : goal.returns-else-takes-clause-heard
returns-else-takes-clause-heard g c first start visits s =
    row_passed g.M.Memory.refuses first c.args.self.now start (g.W.Write.contents c.args._output.now) visits s
    c.takes.new.self c.args._header.now c.args.row.now c.takes.result c.if-self.false c.takes.ensures.told c.takes.ensures.same
    c.if-takes.false
