use Rattle.std.proofs.Common.{◌+◌, List, drop, subst}
use Rattle.std.specs.Prelude.{flat_map, option_to_list}
use Rattle.std.proofs.lemmas.Result.{err_from_is_err_and}
use Rattle.dl_findings.specs.declared.finding.Finding.{Finding}
use Rattle.dl_sequence_rules.specs.NoCode.{no_code_found}
use Rattle.dl_lint.proofs.SectionLemmas.{next_range, no_range_left}
use Rattle.dl_lint.proofs.TellLemmas.{Front, all_told, lost, more_told, none_yet}
use Rattle.dl_lint.proofs.report.Report.tell_ranges.Goals as goal

pub loop-range-init : goal.loop-range-init
loop-range-init g c is =
    none_yet (g.W.Write.contents c.args.output.now) c.args.self.now
    (flat_map (no_code_found 0 c.args.sequences.now) c.args.self.now.question.now.ranges.now)

pub loop-range-preserved : goal.loop-range-preserved
loop-range-preserved g c is =
    let l = c.loop-range in
    let ranges = c.args.self.now.question.now.ranges.now in
    more_told (l.invariant is) (no_code_found 0 c.args.sequences.now _)
    (flat_map (no_code_found 0 c.args.sequences.now) (drop (l.range-index + 1) ranges))
    (next_range c.args.sequences.now ranges l.range-index _ c.loop-range-test.true)
    (g.W.Write.contents c.tell_any.new.output) c.tell_any.new.self (option_to_list c.no_code.result) (c.no_code.ensures is)
    c.in_ok-tell_any.ensures.told

pub returns-in_err-tell_any-clause-told : goal.returns-in_err-tell_any-clause-told
returns-in_err-tell_any-clause-told g c is =
    let e = err_from_is_err_and c.from_residual.result c.from_residual.ensures.1 in
    let l = c.loop-range in
    let ranges = c.args.self.now.question.now.ranges.now in
    rw (e.1, e.2) (lost (l.invariant is) (no_code_found 0 c.args.sequences.now _)
    (flat_map (no_code_found 0 c.args.sequences.now) (drop (l.range-index + 1) ranges))
    (next_range c.args.sequences.now ranges l.range-index _ c.loop-range-test.true)
    (g.W.Write.contents c.tell_any.new.output) c.tell_any.new.self (option_to_list c.no_code.result) (c.no_code.ensures is) _
    c.in_err-tell_any.ensures.told)

pub returns-clause-told : goal.returns-clause-told
returns-clause-told g c is =
    let l = c.loop-range in
    let ranges = c.args.self.now.question.now.ranges.now in
    all_told (subst (λ (rest : List Finding). Front (g.W.Write.contents c.args.output.now) (g.W.Write.contents l.output)
    c.args.self.now l.self (flat_map (no_code_found 0 c.args.sequences.now) ranges) rest)
    (no_range_left c.args.sequences.now ranges l.range-index c.loop-range-test.false) (l.invariant is))
