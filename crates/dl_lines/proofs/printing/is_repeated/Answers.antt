use Rattle.std.proofs.Common.{◌-◌, sym, ap, ◌∙◌, arith}
use Rattle.dl_lines.specs.declared.best.KeptPlace.{KeptPlace}
use Rattle.dl_lines.specs.Printing.{found_place, is_same_there}
use Rattle.dl_lines.proofs.LineLemmas.{found_nowhere, found_there, nothing_from, one_less, stops_there}
use Rattle.dl_lines.proofs.printing.is_repeated.Goals as goal

pub loop-at-init : goal.loop-at-init
loop-at-init c = record {
  within = omega arith;
  none = nothing_from c.args.search.now c.args.number c.index-place.result.now c.requires.within;
}

pub index-other-requires : goal.index-other-requires
index-other-requires c =
    let within = c.loop-at.invariant.within in
    let below = c.requires.within in
    let some = c.loop-at-test.true in
    grind (arith, within, below, some)

pub returns-then-other-place : goal.returns-then-other-place
returns-then-other-place c =
    let s = c.args.search.now in
    let here = c.index-place.result.now in
    let within = c.loop-at.invariant.within in
    let some = c.loop-at-test.true in
    sym (stops_there s c.args.number here c.requires.within c.requires.rises (c.loop-at.at - 1) c.loop-at.at
    c.index-other.result.now (omega (arith, some)) (omega (arith, some, within)) c.index-other.ensures
    (λ e. c.if-other-place.true (e ∙ ap (λ (p : KeptPlace). p.address) (sym c.index-place.ensures)))
    c.loop-at.invariant.none)

pub returns-then-is_same : goal.returns-then-is_same
returns-then-is_same c =
    let s = c.args.search.now in
    let here = c.index-place.result.now in
    let within = c.loop-at.invariant.within in
    let some = c.loop-at-test.true in
    sym (found_there s c.args.number here c.requires.within (c.loop-at.at - 1) c.index-other.result.now
    (omega (arith, some, within)) c.index-other.ensures
    (ap (λ (p : KeptPlace). p.address) (sym c.index-place.ensures) ∙ sym c.if-other-place.false)
    (ap (λ (p : KeptPlace). is_same_there (found_place s p) (found_place s c.index-other.result.now)) (sym c.index-place.ensures)
    ∙ sym c.is_same.ensures ∙ c.if-is_same.true))

pub loop-at-preserved : goal.loop-at-preserved
loop-at-preserved c =
    let s = c.args.search.now in
    let here = c.index-place.result.now in
    let within = c.loop-at.invariant.within in
    let some = c.loop-at-test.true in
    record {
      within = omega (arith, some, within);
      none = one_less s c.args.number here c.requires.within (c.loop-at.at - 1) c.loop-at.at c.index-other.result.now
          (omega (arith, some)) (omega (arith, some, within)) c.index-other.ensures
          (ap (λ (p : KeptPlace). p.address) (sym c.index-place.ensures) ∙ sym c.if-other-place.false)
          (ap (λ (p : KeptPlace). is_same_there (found_place s p) (found_place s c.index-other.result.now)) (sym c.index-place.ensures)
          ∙ sym c.is_same.ensures ∙ c.if-is_same.false) c.loop-at.invariant.none;
    }

pub returns : goal.returns
returns c =
    let none = c.loop-at-test.false in
    sym (found_nowhere c.args.search.now c.args.number c.index-place.result.now c.requires.within
    (λ i le lt. c.loop-at.invariant.none i (omega (arith, none, le)) lt))
