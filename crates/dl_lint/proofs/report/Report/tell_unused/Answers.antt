use Rattle.std.proofs.Common.{◌∙◌, List, subst, sym}
use Rattle.dl_findings.specs.declared.finding.Finding.{Finding}
use Rattle.dl_sections.specs.Copying.{offset_after as unit_offset}
use Rattle.dl_table_rules.specs.TableFindings.{unused_found}
use Rattle.dl_lint.specs.TableRules.{files_named}
use Rattle.dl_lint.specs.Telling.{Tells}
use Rattle.dl_lint.proofs.TellLemmas.{no_unused, told_none}
use Rattle.dl_lint.proofs.report.Report.tell_unused.Goals as goal

pub returns-then-not-contains-clause-told : goal.returns-then-not-contains-clause-told
returns-then-not-contains-clause-told g c visits h knows told =
    told_none (g.W.Write.contents c.args.output.now) c.args.self.now (unused_found (unit_offset 0 visits) h (files_named visits))
    (no_unused c.args.self.now.question.now.rules (unit_offset 0 visits) h (files_named visits)
    (sym c.contains.ensures ∙ c.if-not-contains.true))

pub returns-clause-told : goal.returns-clause-told
returns-clause-told g c visits h knows told =
    subst (λ (l : List Finding). Tells (g.W.Write.contents c.args.output.now) (g.W.Write.contents c.tell_any.new.output)
    c.args.self.now c.tell_any.new.self l c.tell_any.result)
    (c.unused.ensures c.args.self.now.question.now.rules visits h knows (sym c.contains.ensures ∙ c.if-not-contains.false) told)
    c.tell_any.ensures.told
