use Rattle.std.proofs.Common.{◌∙◌, [], ◌∷◌, ◌++◌, refl}
use Rattle.std.proofs.lemmas.Result.{err_from_is_err_and}
use Rattle.dl_member.proofs.WalkLemmas.{adds_more, adds_none, adds_unwritten, ends_unwritten, gone_more, gone_none}
use Rattle.dl_member.proofs.walk.walk_left.Goals as goal

pub loop-step-init : goal.loop-step-init
loop-step-init g c = (refl, λ source hears f is short. ([], adds_none _, gone_none _ _ _ _ _ _ _ _ _ _ _ _ _ _ _))

pub loop-step-preserved : goal.loop-step-preserved
loop-step-preserved g c = (
  c.next_step.ensures.source ∙ c.loop-step.invariant.0,
  λ source hears f is short.
      let (steps, adds, gone) = c.loop-step.invariant.1 source hears f is short in
      let next = c.in_ok-step.ensures.step (c.loop-step.invariant.0 ∙ source) hears f is short in (
        steps ++ c.in-Some.step ∷ [],
        adds_more _ _ _ steps c.in-Some.step adds c.add.ensures.counted,
        gone_more _ _ _ _ _ _ _ _ _ _ _ _ _ _ _ _ _ _ _ _ _ _ gone c.in_ok-step.field-0 c.in-Some.step next c.in-Some.is c.in_ok-add.ensures.written,
      ),
)

pub returns-in_err-add : goal.returns-in_err-add
returns-in_err-add g c = record {
  walked = λ source hears f is short.
      let p = err_from_is_err_and c.from_residual-in_err-add.result c.from_residual-in_err-add.ensures.1 in
      let (steps, adds, gone) = c.loop-step.invariant.1 source hears f is short in
      let next = c.in_ok-step.ensures.step (c.loop-step.invariant.0 ∙ source) hears f is short in (
        steps,
        adds_unwritten _ _ _ steps c.in-Some.step c.in_err-add.field-0.0 c.in_err-add.ensures.fault adds c.add.ensures.counted,
        rw (p.1, p.2) (ends_unwritten _ _ _ _ _ _ _ _ _ _ _ _ _ _ _ _ _ _ _ _ _ _ gone c.in_ok-step.field-0 c.in-Some.step
            c.in_err-add.field-0.0 next c.in-Some.is c.in_err-add.ensures.fault),
      );
}
