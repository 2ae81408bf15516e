use Rattle.std.proofs.Common.{◌∙◌, [], List, ap, subst, sym}
use Rattle.dl_findings.specs.declared.finding.Finding.{Finding}
use Rattle.dl_sequence_rules.specs.Keeping.{IsCoverage}
use Rattle.dl_sequence_rules.specs.SequenceFindings.{overlaps_after}
use Rattle.dl_sequence_rules.specs.declared.ended.Ended.{Ended}
use Rattle.dl_lint.specs.Telling.{Tells}
use Rattle.dl_lint.proofs.SectionLemmas.{no_overlaps}
use Rattle.dl_lint.proofs.TellLemmas.{told_none}
use Rattle.dl_lint.proofs.report.Report.tell_places.Goals as goal

pub returns-in-None-clause-told : goal.returns-in-None-clause-told
returns-in-None-clause-told g c sequences is =
    told_none (g.W.Write.contents c.args.output.now) c.args.self.now (overlaps_after [] sequences)
    (no_overlaps c.args.self.now.question.now.rules (rw c.in-None.is at is.places) [] sequences)

pub returns-in-Some-clause-told : goal.returns-in-Some-clause-told
returns-in-Some-clause-told g c sequences is =
    let places = rw c.in-Some.is at is.places in
    let value = c.as_slice.ensures.value in
    let coverage =
    subst (λ (l : List Ended). IsCoverage c.in-Some.crowded.coverage l) (sym value) places.coverage in
    subst (λ (found : List Finding). Tells (g.W.Write.contents c.args.output.now) (g.W.Write.contents c.tell_overlaps.new.output)
    c.args.self.now c.tell_overlaps.new.self found c.tell_overlaps.result)
    (ap (overlaps_after []) value ∙ places.same) (c.tell_overlaps.ensures.told coverage)
