use Rattle.std.proofs.Common.{inr, ◌∙◌, ap, arith}
use Rattle.std.proofs.lemmas.List.{take_all}
use Rattle.dl_lines.specs.Words.{number_after}
use Rattle.dl_lines.proofs.WordLemmas.{no_digit, on_none, one_digit}
use Rattle.dl_lines.proofs.word.number_in.Goals as goal

pub returns-in_err-number-clause-none : goal.returns-in_err-number-clause-none
returns-in_err-number-clause-none c =
    on_none c.from_residual.result (inr (no_digit c.args.digits.now c.loop-at.at c.loop-at.number c.loop-at-test.true
    c.loop-at.invariant.number c.in_err-number.ensures.none))

pub loop-at-preserved : goal.loop-at-preserved
loop-at-preserved c =
    let l = c.loop-at in
    let lt = c.loop-at-test.true in
    let told = c.in_ok-number.ensures.some in
    let more = one_digit c.args.digits.now l.at l.number c.in_ok-number.number lt l.invariant.digits l.invariant.number told.0
    told.1 in
    record { within = omega (arith, lt); digits = more.0; number = more.1 }

pub returns-clause-number : goal.returns-clause-number
returns-clause-number c =
    c.loop-at.invariant.number ∙ ap (number_after 0) (take_all c.loop-at.at c.args.digits.now c.loop-at-test.false)
