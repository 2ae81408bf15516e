use Rattle.std.proofs.Common.{◌≡◌, ◌-◌, suc, false, arith, sym, ap, ◌∙◌, subst, drop}
use Rattle.std.specs.List.{list_any}
use Rattle.dl_path.specs.Shown.{separates}
use Rattle.dl_path.proofs.BasenameLemmas.{after_at, after_none}
use Rattle.dl_path.proofs.component.component_start.Goals as goal

pub returns-then-separates-clause-seen : goal.returns-then-separates-clause-seen
returns-then-separates-clause-seen c =
    let path = c.args.path.now in
    let s = c.loop-start in
    let i = s.start - 1 in
    let sep = separates c.args.of_windows in
    let some = c.loop-start-test.true in
    let within = s.invariant.within in
    let next : s.start ≡ suc i = omega arith in
    let none = subst (λ n. list_any sep (drop n path) ≡ false) next s.invariant.none in
    let at = after_at sep path i 0 (omega arith) (sym c.separates.ensures ∙ c.if-separates.true) none in
    ap (λ n. drop n path) next ∙ sym at

pub returns-clause-seen : goal.returns-clause-seen
returns-clause-seen c =
    let path = c.args.path.now in
    let s = c.loop-start in
    let sep = separates c.args.of_windows in
    let at : s.start ≡ 0 = omega (arith, c.loop-start-test.false) in
    let none = subst (λ n. list_any sep (drop n path) ≡ false) at s.invariant.none in
    sym (after_none sep path none)
