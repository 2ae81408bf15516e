use Rattle.std.proofs.Common.{◌≡◌, ◌∷◌, ◌++◌, [], Bool, sym, ap, ap₂, subst, ◌∙◌}
use Rattle.std.specs.Prelude.{if◌then◌else◌}
use Rattle.dl_look.specs.FinderRows.{unended}
use Rattle.dl_look.specs.LiveRows.{IsAt, live_rows}
use Rattle.dl_look.proofs.LiveLemmas.{Decided, next_at, live_more, at_more}
use Rattle.dl_look.proofs.live.LiveRows.takes.Goals as goal
use Rattle.dl_look.proofs.live.LiveRows.takes.Goals.{in-Between, in-Live, in-Dead, then-row, else-row+then-live}
use Rattle.dl_look.proofs.live.LiveRows.takes.Goals.{else-row+else-live}

pub returns-clause-told : goal.returns-clause-told
returns-clause-told c live rows told says =
    let at = c.args.self.now.at in
    let decided = elim c.match-self.branch as (λ b. c.match-self.live ≡ Decided at c.args.live) [
      | in-Between w ↦ w.live-is ∙ sym (ap (λ a. Decided a c.args.live) w.in-Between.is)
      | in-Live w ↦ w.live-is ∙ sym (ap (λ a. Decided a c.args.live) w.in-Live.is)
      | in-Dead w ↦ w.live-is ∙ sym (ap (λ a. Decided a c.args.live) w.in-Dead.is)
    ] in
    live_more at live rows c.args.row.now c.args.live told says
    ∙ sym (ap (λ (b : Bool). live_rows live rows ++ (if b then c.args.row.now ∷ [] else [])) decided)

pub returns-clause-goes_on : goal.returns-clause-goes_on
returns-clause-goes_on c live rows told says =
    let at = c.args.self.now.at in
    let r = c.args.row.now in
    let decided = elim c.match-self.branch as (λ b. c.match-self.live ≡ Decided at c.args.live) [
      | in-Between w ↦ w.live-is ∙ sym (ap (λ a. Decided a c.args.live) w.in-Between.is)
      | in-Live w ↦ w.live-is ∙ sym (ap (λ a. Decided a c.args.live) w.in-Live.is)
      | in-Dead w ↦ w.live-is ∙ sym (ap (λ a. Decided a c.args.live) w.in-Dead.is)
    ] in
    let now = elim c.if-row.branch as (λ b. c.if-row.self ≡ next_at r.end_sequence c.match-self.live) [
      | then-row w ↦ w.self-is ∙ sym (ap (λ e. next_at e c.match-self.live) w.if-row.true)
      | else-row+then-live w ↦ w.self-is ∙ sym (ap₂ next_at w.if-row.false w.if-live.true)
      | else-row+else-live w ↦ w.self-is ∙ sym (ap₂ next_at w.if-row.false w.if-live.false)
    ] in
    subst (λ a. IsAt a live (unended (rows ++ r ∷ []))) (sym (now ∙ ap (next_at r.end_sequence) decided))
    (at_more at live rows r c.args.live told says)
