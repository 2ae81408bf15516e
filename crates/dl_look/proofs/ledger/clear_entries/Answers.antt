use Rattle.std.proofs.Common.{◌≡◌, ◌+◌, ◌-◌, ◌<◌, length, set, None, drop, arith, sym, ap, subst, ◌∙◌}
use Rattle.std.proofs.lemmas.List.{length-take, length-drop, get_or-take, get_or-drop}
use Rattle.dl_look.specs.declared.ledger.Answered.{Answered}
use Rattle.dl_look.specs.Ledgers.{no_answer}
use Rattle.dl_look.proofs.ForgetLemmas.{Cleared, cleared_more, all_left}
use Rattle.dl_look.proofs.ledger.clear_entries.Goals as goal

pub loop-answered-preserved : goal.loop-answered-preserved
loop-answered-preserved c =
    let old = c.args.entries.now.items in
    let log = c.args.log.now in
    let whole = c.args.whole in
    let i = c.loop-answered.answered-index in
    let h = c.loop-answered-test.true in
    let lt : i < length log - whole =
    omega (arith, length-take (length log - whole) (drop whole log), length-drop whole log) in
    let here = get_or-take (length log - whole) (drop whole log) i no_answer lt ∙ get_or-drop whole log i no_answer in
    subst (λ n. Cleared old (set c.loop-answered.entries.items n None) whole (whole + (i + 1)))
    (sym (ap (λ (a : Answered). a.number) here))
    (cleared_more old c.loop-answered.entries.items log whole (whole + i) c.loop-answered.invariant (omega arith)
    c.requires.logged c.requires.kept (omega arith) (whole + (i + 1)) (omega arith))

pub returns-clause-left : goal.returns-clause-left
returns-clause-left c =
    let log = c.args.log.now in
    let whole = c.args.whole in
    let all : whole + c.loop-answered.answered-index ≡ length log =
    omega (
      arith,
      c.requires.within,
      length-take (length log - whole) (drop whole log),
      length-drop whole log,
      c.loop-answered-test.false,
    ) in
    all_left c.args.entries.now.items c.loop-answered.entries.items log whole
    (whole + c.loop-answered.answered-index) c.loop-answered.invariant (omega arith) c.requires.logged c.requires.kept
    all
