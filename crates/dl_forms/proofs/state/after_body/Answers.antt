use Rattle.std.proofs.Common.{◌≤◌, ◌++◌, ◌-◌, List, ℕ, arith, drop, length, sym, subst, take, []}
use Rattle.std.proofs.lemmas.List.{take_all}
use Rattle.dl_head.specs.declared.dialect.Dialect.{Dialect}
use Rattle.dl_forms.specs.Names.{RefusesCellFrom}
use Rattle.dl_forms.specs.declared.state.WalkStage.TheVariants as state
use Rattle.dl_forms.specs.Standing.{Onward, StandsAt}
use Rattle.dl_forms.proofs.WalkLemmas.{begins_none, body_ends, body_goes, further, wants_further}
use Rattle.dl_forms.proofs.state.after_body.Goals as goal

pub returns-then-left-piece-clause-stands : goal.returns-then-left-piece-clause-stands
returns-then-left-piece-clause-stands c b stands =
    let piece = c.args.piece.now in (
      c.requires,
      subst (λ (z : List ℕ). StandsAt c.args.dialect (state.Body (c.args.left - length piece)) (b ++ z))
          (sym (take_all (length piece) piece (omega arith)))
          (body_goes c.args.dialect b piece c.args.left stands c.if-left-piece.true),
    )

pub returns-in_default-clause-memory : goal.returns-in_default-clause-memory
returns-in_default-clause-memory c b stands =
    let piece = c.args.piece.now in
    let left = c.args.left in
    let le : left ≤ length piece = omega (arith, c.if-left-piece.false) in
    wants_further c.args.dialect b piece left
    (subst (λ (d : Dialect). RefusesCellFrom d (length (b ++ take left piece))
    ((b ++ take left piece) ++ take (length piece - left) (drop left piece)))
    c.new.ensures.dialect
    (c.in_default.ensures.memory (b ++ take left piece) [] (begins_none c.new.result c.new.ensures.stands)
    (subst (λ (d : Dialect). Onward d (b ++ take left piece) []) (sym c.new.ensures.dialect)
    (body_ends c.args.dialect b piece left stands le))))

pub returns-clause-stands : goal.returns-clause-stands
returns-clause-stands c b stands =
    let piece = c.args.piece.now in
    let left = c.args.left in
    let le : left ≤ length piece = omega (arith, c.if-left-piece.false) in
    let found = c.in-Ok.ensures.stands (b ++ take left piece) [] (begins_none c.new.result c.new.ensures.stands)
    (subst (λ (d : Dialect). Onward d (b ++ take left piece) []) (sym c.new.ensures.dialect)
    (body_ends c.args.dialect b piece left stands le)) in
    let some = found.0 in (
      omega (arith, some),
      subst (λ (z : List ℕ). StandsAt c.args.dialect c.in-Ok.state z)
          (further b piece left c.in-Ok.used le c.in-Ok.ensures.within)
          (subst (λ (d : Dialect). StandsAt d c.in-Ok.state
          ((b ++ take left piece) ++ take c.in-Ok.used (take (length piece - left) (drop left piece))))
          c.new.ensures.dialect found.1),
    )
