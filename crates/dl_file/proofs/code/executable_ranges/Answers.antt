use Rattle.std.proofs.Common.{rules, arith, sym, ap, ◌∙◌, ◌+◌, length}
use Rattle.std.proofs.lemmas.Result.{err_from_is_err_and}
use Rattle.dl_file.proofs.CodeLemmas.{none_more, one_more, ranges_pushed, ranges_same, ranges_whole}
use Rattle.dl_file.proofs.code.executable_ranges.Goals as goal
use Rattle.dl_file.proofs.code.executable_ranges.Goals.{in-Some+in_ok-push, in_default}

pub loop-at-preserved : goal.loop-at-preserved
loop-at-preserved g c =
    let from = c.loop-at.invariant.0 in (
      omega (arith, from),
      (let within = c.loop-at-test.true in omega (arith, from, within)),
      c.executable_range_at.ensures.shows,
      λ f is short. elim c.match-branch-2.branch [
        | in-Some+in_ok-push w ↦ ap (λ r. r.items) w.ranges-is
            ∙ (search rules ∙ ranges_pushed c.args.elf.now f c.loop-at.at c.loop-at.ranges.items w.in-Some.range from
            (c.loop-at.invariant.3 f is short) (sym w.in-Some.is ∙ c.in_ok-range.ensures.range f is short))
        | in_default w ↦ ap (λ r. r.items) w.ranges-is
            ∙ ranges_same c.args.elf.now f c.loop-at.at c.loop-at.ranges.items from
            (c.loop-at.invariant.3 f is short) (sym w.in_default.is ∙ c.in_ok-range.ensures.range f is short)
      ],
      elim c.match-branch-2.branch [
        | in-Some+in_ok-push w ↦ one_more c.loop-at.at c.loop-at.ranges.items c.match-branch-2.ranges.items w.in-Some.range from
            c.loop-at.invariant.4 (ap (λ r. r.items) w.ranges-is ∙ w.in_ok-push.ensures.items)
        | in_default w ↦ none_more c.loop-at.at c.loop-at.ranges.items c.match-branch-2.ranges.items from
            c.loop-at.invariant.4 (ap (λ r. r.items) w.ranges-is)
      ],
    )

pub returns-in_err-push-clause-most : goal.returns-in_err-push-clause-most
returns-in_err-push-clause-most g c =
    let from = c.loop-at.invariant.0 in
    let few = c.loop-at.invariant.4 in
    let p = err_from_is_err_and c.from_residual-in_err-push.result c.from_residual-in_err-push.ensures.1 in
    rw (p.1, p.2) (
      length c.loop-at.ranges.items + 1,
      omega (arith, from, few, c.loop-at-test.true),
      c.in_err-push.ensures.refused,
    )

pub returns-clause-ranges : goal.returns-clause-ranges
returns-clause-ranges g c = λ f is short.
    ranges_whole c.args.elf.now f c.loop-at.at c.loop-at.ranges.items c.loop-at.invariant.1 c.loop-at-test.false
    (c.loop-at.invariant.3 f is short)
