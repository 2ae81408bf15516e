use Rattle.dl_sections.specs.Section.{of_header}
use Rattle.dl_lines.proofs.SeekLemmas.{faults, header_told}
use Rattle.dl_lines.proofs.seeker.LineSeekerVisitor.header.Goals as goal

pub returns-then-self-clause-heard : goal.returns-then-self-clause-heard
returns-then-self-clause-heard g c first start visits s =
    faults g.M.Memory.refuses first c.args.self.now start (g.W.Write.contents c.args._output.now) visits s
    (of_header c.args.offset c.args._lengths c.args.header.now) c.if-self.true

pub returns-clause-heard : goal.returns-clause-heard
returns-clause-heard g c first start visits s =
    header_told g.M.Memory.refuses first c.args.self.now start (g.W.Write.contents c.args._output.now) visits s
    c.begin_unit.new.self c.judge_files-judged.new.self c.note.new.self c.args.offset c.args._lengths c.args.header.now
    c.judge_files-judged.result c.if-self.false c.begin_unit.ensures.searches c.begin_unit.ensures.live
    c.begin_unit.ensures.statements c.begin_unit.ensures.same c.judge_files-judged.ensures.judged
    c.judge_files-judged.ensures.same c.judge_files-judged.ensures.refused c.note.ensures
