use Rattle.std.proofs.Common.{◌≡◌, ◌+◌, ℕ, refl, ◌∙◌, arith, length-drop, ap, length, take, subst}
use Rattle.std.proofs.lemmas.List.{take_rest}
use Rattle.dl_head.specs.Whole.{TakesAll}
use Rattle.dl_head.proofs.OfferLemmas.{takes_none, takes_more, advanced, advances_on, offered_last, offered_all}
use Rattle.dl_head.proofs.reader.HeadReader.take.Goals as goal

pub loop-used-init : goal.loop-used-init
loop-used-init c = record {
  within = omega arith;
  dialect = refl;
  goes = λ b s more. takes_none c.args.self.now.dialect b c.args.self.now s more;
}

pub loop-used-preserved-then-whole-gt0 : goal.loop-used-preserved-then-whole-gt0
loop-used-preserved-then-whole-gt0 c =
    let i = c.loop-used.invariant in
    let w = c.whole_values-whole in
    let rest = take_rest c.args.piece.now c.loop-used.used in
    record {
      within = omega (arith, w.ensures.within, ap length rest, length-drop c.loop-used.used c.args.piece.now, i.within);
      dialect = w.ensures.dialect ∙ i.dialect;
      goes = λ b s more. takes_more c.args.piece.now c.loop-used.used w.result
          (i.goes b s more) i.dialect rest w.ensures.takes;
    }

pub loop-used-preserved : goal.loop-used-preserved
loop-used-preserved c =
    let i = c.loop-used.invariant in
    let w = c.whole_values-whole in
    let a = c.advance-taken in
    let used = c.loop-used.used in
    let dialect = w.ensures.dialect ∙ i.dialect in
    let rest = take_rest c.args.piece.now used in
    let none : used + w.result ≡ used = omega (arith, c.if-whole-gt0.false) in
    record {
      within = omega (arith, a.ensures.within, ap length rest, length-drop used c.args.piece.now, i.within);
      dialect = a.ensures.dialect ∙ dialect;
      goes = λ b s more.
          let o = subst (λ (k : ℕ). TakesAll c.args.self.now.dialect b (take k c.args.piece.now) w.new.self) none
          (takes_more c.args.piece.now used w.result (i.goes b s more) i.dialect rest w.ensures.takes) in
          advances_on c.args.piece.now used o c.in-More.is
          (advanced c.args.piece.now used o dialect rest a.ensures.advances);
    }

pub returns-in_default : goal.returns-in_default
returns-in_default c =
    let i = c.loop-used.invariant in
    let w = c.whole_values-whole in
    let a = c.advance-taken in
    let used = c.loop-used.used in
    let dialect = w.ensures.dialect ∙ i.dialect in
    let rest = take_rest c.args.piece.now used in
    let none : used + w.result ≡ used = omega (arith, c.if-whole-gt0.false) in
    record {
      offered = λ b s more.
          let o = subst (λ (k : ℕ). TakesAll c.args.self.now.dialect b (take k c.args.piece.now) w.new.self) none
          (takes_more c.args.piece.now used w.result (i.goes b s more) i.dialect rest w.ensures.takes) in
          offered_last used o i.within c.in_default.not-More
          (advanced c.args.piece.now used o dialect rest a.ensures.advances);
      within = omega (arith, a.ensures.within, ap length rest, length-drop used c.args.piece.now, i.within);
      progress = λ goes fed. omega (arith, a.ensures.some fed);
      dialect = a.ensures.dialect ∙ dialect;
      refused = a.ensures.refused;
    }

pub returns-clause-offered : goal.returns-clause-offered
returns-clause-offered c b s more =
    let i = c.loop-used.invariant in
    offered_all c.loop-used.used (i.goes b s more) i.within (omega (arith, c.loop-used-test.false))
