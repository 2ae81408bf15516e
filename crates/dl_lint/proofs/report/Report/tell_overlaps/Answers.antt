use Rattle.std.proofs.Common.{◌+◌, [], List, arith, drop, subst, take}
use Rattle.std.specs.Prelude.{option_to_list}
use Rattle.std.proofs.lemmas.Result.{err_from_is_err_and}
use Rattle.dl_findings.specs.declared.finding.Finding.{Finding}
use Rattle.dl_sequence_rules.specs.Overlaps.{overlap_at}
use Rattle.dl_sequence_rules.specs.SequenceFindings.{overlaps_after}
use Rattle.dl_lint.proofs.SectionLemmas.{next_overlap, no_overlap_left}
use Rattle.dl_lint.proofs.TellLemmas.{Front, all_told, lost, more_told, none_yet}
use Rattle.dl_lint.proofs.report.Report.tell_overlaps.Goals as goal

pub loop-place-init : goal.loop-place-init
loop-place-init g c = (
  omega arith,
  λ is. none_yet (g.W.Write.contents c.args.output.now) c.args.self.now (overlaps_after [] c.args.sequences.now),
)

pub loop-place-preserved : goal.loop-place-preserved
loop-place-preserved g c =
    let l = c.loop-place in
    let ss = c.args.sequences.now in (
      omega (arith, c.loop-place-test.true),
      λ is. more_told (l.invariant.1 is) (overlap_at ss l.place)
          (overlaps_after (take (l.place + 1) ss) (drop (l.place + 1) ss))
          (next_overlap ss l.place c.loop-place-test.true)
          (g.W.Write.contents c.tell_any.new.output) c.tell_any.new.self (option_to_list c.overlap.result) (c.overlap.ensures is)
          c.in_ok-tell_any.ensures.told,
    )

pub returns-in_err-tell_any-clause-told : goal.returns-in_err-tell_any-clause-told
returns-in_err-tell_any-clause-told g c is =
    let e = err_from_is_err_and c.from_residual.result c.from_residual.ensures.1 in
    let l = c.loop-place in
    let ss = c.args.sequences.now in
    rw (e.1, e.2) (lost (l.invariant.1 is) (overlap_at ss l.place)
    (overlaps_after (take (l.place + 1) ss) (drop (l.place + 1) ss))
    (next_overlap ss l.place c.loop-place-test.true)
    (g.W.Write.contents c.tell_any.new.output) c.tell_any.new.self (option_to_list c.overlap.result) (c.overlap.ensures is) _
    c.in_err-tell_any.ensures.told)

pub returns-clause-told : goal.returns-clause-told
returns-clause-told g c is =
    let l = c.loop-place in
    let ss = c.args.sequences.now in
    all_told (subst (λ (rest : List Finding). Front (g.W.Write.contents c.args.output.now) (g.W.Write.contents l.output)
    c.args.self.now l.self (overlaps_after [] ss) rest)
    (no_overlap_left ss l.place c.loop-place-test.false) (l.invariant.1 is))
