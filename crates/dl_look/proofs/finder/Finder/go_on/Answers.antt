use Rattle.std.proofs.Common.{Bool, Some, refl, sym, ap}
use Rattle.std.specs.Prelude.{if◌then◌else◌}
use Rattle.dl_look.specs.declared.finder.AnswerStage.TheVariants.{Open}
use Rattle.dl_look.proofs.FinderLemmas.{begins, passes, stays, stays_answered, falls, rises}
use Rattle.dl_look.proofs.finder.Finder.go_on.Goals as goal

pub returns-in-Start : goal.returns-in-Start
returns-in-Start c x rows stands =
    begins c.args.self.now _ x rows c.args.row.now c.of-place.result stands c.of-place.ensures refl c.requires
    c.in-Start.is (ap (Open c.of-place.result) c.kept.ensures) (sym c.if-is_at_most.ensures)

pub returns-in-Start-2 : goal.returns-in-Start-2
returns-in-Start-2 c x rows stands =
    passes c.args.self.now _ x rows c.args.row.now c.of-place.result stands c.of-place.ensures refl c.requires
    c.in-Start-2.is refl (sym c.if-is_at_most.ensures)

pub returns-then-is_at_most-3 : goal.returns-then-is_at_most-3
returns-then-is_at_most-3 c x rows stands =
    let kept = ap (λ (b : Bool). if b then Some c.args.row.now else Some c.in-Open.found) (c.if-is_at_most-3.ensures) in
    rises c.args.self.now _ x rows c.args.row.now c.of-place.result stands c.of-place.ensures refl c.in-Open.last
    c.in-Open.found c.args.row.now c.requires c.in-Open.is
    (ap (Open c.of-place.result) c.kept-then-is_at_most-3.ensures) (sym c.if-is_at_most-2.ensures) kept

pub returns-else-is_at_most-3 : goal.returns-else-is_at_most-3
returns-else-is_at_most-3 c x rows stands =
    let kept = ap (λ (b : Bool). if b then Some c.args.row.now else Some c.in-Open.found) (c.if-is_at_most-3.ensures) in
    rises c.args.self.now _ x rows c.args.row.now c.of-place.result stands c.of-place.ensures refl c.in-Open.last
    c.in-Open.found c.in-Open.found c.requires c.in-Open.is refl (sym c.if-is_at_most-2.ensures) kept

pub returns-in-Open-2 : goal.returns-in-Open-2
returns-in-Open-2 c x rows stands =
    falls c.args.self.now _ x rows c.args.row.now c.of-place.result stands c.of-place.ensures refl c.in-Open.last
    c.in-Open.found c.requires c.in-Open.is refl (sym c.if-is_at_most-2.ensures)

pub returns-in-Passed : goal.returns-in-Passed
returns-in-Passed c x rows stands =
    stays c.args.self.now c.args.self.now x rows c.args.row.now c.of-place.result stands c.of-place.ensures refl
    c.requires c.in-Passed.is c.in-Passed.is

pub returns-in-Answered : goal.returns-in-Answered
returns-in-Answered c x rows stands =
    stays_answered c.args.self.now c.args.self.now x rows c.args.row.now c.of-place.result stands c.of-place.ensures
    refl _ c.requires c.in-Answered.is c.in-Answered.is
