use Rattle.std.proofs.Common.{◌≡◌, Bool, false, ◌&&◌, refl, sym, ap, ap₂}
use Rattle.dl_look.specs.Answer.{is_at_most, is_below}
use Rattle.dl_look.proofs.FinderLemmas.{ends_start, ends_passed, ends_answered, ends_open, ends_found}
use Rattle.dl_look.proofs.finder.Finder.end_sequence.Goals as goal
use Rattle.dl_look.proofs.finder.Finder.end_sequence.Goals.{then-is_at_most+else-is_below, else-is_at_most}

pub returns-in-Open : goal.returns-in-Open
returns-in-Open c x rows stands =
    ends_found c.args.self.now _ x rows c.args.row.now c.of-end.result stands c.of-end.ensures refl c.in-Open.last
    c.in-Open.found c.requires c.in-Open.is refl (sym c.if-is_at_most.ensures) (sym c.if-is_below.ensures)

pub returns-in-Open-2 : goal.returns-in-Open-2
returns-in-Open-2 c x rows stands =
    let not_answering =
    elim c.if-is_at_most.branch as (λ w. (is_at_most c.in-Open.last c.of-end.result
    && is_below c.args.self.now.place c.of-end.result) ≡ false) [
      | then-is_at_most+else-is_below w ↦ sym
          (ap₂ (λ (a b : Bool). a && b) w.if-is_at_most.ensures w.if-is_below.ensures)
      | else-is_at_most w ↦ sym
          (ap (λ (a : Bool). a && is_below c.args.self.now.place c.of-end.result) w.if-is_at_most.ensures)
    ] in
    ends_open c.args.self.now _ x rows c.args.row.now c.of-end.result stands c.of-end.ensures refl c.in-Open.last
    c.in-Open.found c.requires c.in-Open.is refl not_answering

pub returns-in-Passed : goal.returns-in-Passed
returns-in-Passed c x rows stands =
    ends_passed c.args.self.now _ x rows c.args.row.now c.of-end.result stands c.of-end.ensures refl c.requires
    c.in-Passed.is refl

pub returns-in-Start : goal.returns-in-Start
returns-in-Start c x rows stands =
    ends_start c.args.self.now c.args.self.now x rows c.args.row.now c.of-end.result stands c.of-end.ensures refl
    c.requires c.in-Start.is c.in-Start.is

pub returns-in-Answered : goal.returns-in-Answered
returns-in-Answered c x rows stands =
    ends_answered c.args.self.now c.args.self.now x rows c.args.row.now c.of-end.result stands c.of-end.ensures refl _
    c.requires c.in-Answered.is c.in-Answered.is
