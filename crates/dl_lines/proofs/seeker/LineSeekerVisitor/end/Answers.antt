use Rattle.std.proofs.Common.{refl}
use Rattle.dl_sections.specs.Section.{of_end}
use Rattle.dl_lines.proofs.RowVisits.{end_told}
use Rattle.dl_lines.proofs.SeekLemmas.{faults}
use Rattle.dl_lines.proofs.seeker.LineSeekerVisitor.end.Goals as goal

pub returns-then-self-clause-heard : goal.returns-then-self-clause-heard
returns-then-self-clause-heard g c first start visits s told =
    faults g.M.Memory.refuses first c.args.self.now start (g.W.Write.contents c.args._output.now) visits s
    (of_end c.args._header) c.if-self.true

pub returns-clause-heard : goal.returns-clause-heard
returns-clause-heard g c first start visits s told =
    let old = c.args.self.now in
    end_told g.M.Memory.refuses first old start (g.W.Write.contents c.args._output.now) visits s
    (record old {
      searches = c.end_each-ended.new.searches;
      live = c.new-self.result;
      statements =
          c.new-self-2.result;
    }) c.note.new.self c.args._header c.end_each-ended.result c.if-self.false c.end_each-ended.ensures.ended
    c.end_each-ended.ensures.refused c.new-self.ensures c.new-self-2.ensures refl c.note.ensures
