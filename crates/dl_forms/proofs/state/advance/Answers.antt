use Rattle.std.proofs.Common.{◌≤◌, ◌++◌, IfErr, IfOk, length, sym, subst, take}
use Rattle.dl_head.specs.declared.dialect.Dialect.{Dialect}
use Rattle.dl_forms.specs.Names.{RefusesCellFrom}
use Rattle.dl_forms.specs.declared.state.WalkStage.{WalkStage}
use Rattle.dl_forms.specs.declared.state.WalkStage.TheVariants as state
use Rattle.dl_forms.specs.Standing.{Onward, StandsAt}
use Rattle.dl_forms.proofs.state.advance.Goals as goal

pub returns-in-Head-clause-stands : goal.returns-in-Head-clause-stands
returns-in-Head-clause-stands c b stands =
    let at : StandsAt c.args.dialect (state.Head c.in-Head.reader) b =
    subst (λ (s : WalkStage). StandsAt c.args.dialect s b) c.in-Head.is stands in
    subst (λ (d : Dialect). IfOk c.read_head.result
    (λ r. (1 ≤ r.1) × StandsAt d r.0 (b ++ take r.1 c.args.piece.now))) at.1
    (c.read_head.ensures.stands b at.0 at.2 (subst (λ (d : Dialect). Onward d b at.0) (sym at.1) at.3))

pub returns-in-Head-clause-memory : goal.returns-in-Head-clause-memory
returns-in-Head-clause-memory c b stands =
    let at : StandsAt c.args.dialect (state.Head c.in-Head.reader) b =
    subst (λ (s : WalkStage). StandsAt c.args.dialect s b) c.in-Head.is stands in
    subst (λ (d : Dialect). IfErr c.read_head.result (λ error. RefusesCellFrom d (length b) (b ++ c.args.piece.now))) at.1
    (c.read_head.ensures.memory b at.0 at.2 (subst (λ (d : Dialect). Onward d b at.0) (sym at.1) at.3))

pub returns-in-Body-clause-stands : goal.returns-in-Body-clause-stands
returns-in-Body-clause-stands c b stands =
    c.after_body.ensures.stands b (subst (λ (s : WalkStage). StandsAt c.args.dialect s b) c.in-Body.is stands)

pub returns-in-Body-clause-memory : goal.returns-in-Body-clause-memory
returns-in-Body-clause-memory c b stands =
    c.after_body.ensures.memory b (subst (λ (s : WalkStage). StandsAt c.args.dialect s b) c.in-Body.is stands)
