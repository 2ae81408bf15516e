use Rattle.std.proofs.Common.{◌∙◌, List, subst, sym}
use Rattle.dl_findings.specs.declared.finding.Finding.{Finding}
use Rattle.dl_sections.specs.Copying.{offset_after as unit_offset}
use Rattle.dl_sequence_rules.specs.Dead.{dead_found}
use Rattle.dl_lint.specs.Sequences.{dead_told, live_in}
use Rattle.dl_lint.specs.Telling.{Tells}
use Rattle.dl_lint.proofs.TellLemmas.{no_dead, told_none}
use Rattle.dl_lint.proofs.report.Report.tell_dead.Goals as goal

pub returns-then-not-contains-clause-told : goal.returns-then-not-contains-clause-told
returns-then-not-contains-clause-told g c visits knows at =
    let q = c.args.self.now.question.now in
    told_none (g.W.Write.contents c.args.output.now) c.args.self.now (dead_found (unit_offset 0 visits) (dead_told (live_in q) visits))
    (no_dead q.rules (unit_offset 0 visits) (dead_told (live_in q) visits) (sym c.contains.ensures ∙ c.if-not-contains.true))

pub returns-clause-told : goal.returns-clause-told
returns-clause-told g c visits knows at =
    subst (λ (l : List Finding). Tells (g.W.Write.contents c.args.output.now) (g.W.Write.contents c.tell_any.new.output)
    c.args.self.now c.tell_any.new.self l c.tell_any.result)
    (c.dead.ensures c.args.self.now.question.now visits knows (sym c.contains.ensures ∙ c.if-not-contains.false) at)
    c.tell_any.ensures.told
