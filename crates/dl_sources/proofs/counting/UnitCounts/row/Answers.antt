use Rattle.std.proofs.Common.{◌≡◌, [], ◌∷◌, ◌++◌, arith, ap, ap₂, sym, subst, ◌∙◌}
use Rattle.std.specs.Prelude.{Bool, if◌then◌else◌}
use Rattle.dl_look.specs.LiveRows.{live_rows, Tells}
use Rattle.dl_sources.specs.Counting.{last_begun, with_gap, with_row}
use Rattle.dl_sources.specs.Counts.{counts_of}
use Rattle.dl_sources.proofs.CountLemmas.{counts_push, last_push}
use Rattle.dl_sources.proofs.counting.UnitCounts.row.Goals as goal

pub returns-then-takes : goal.returns-then-takes
returns-then-takes c live count rows s is =
    let r = c.args.row.now in
    let before = live_rows live rows in
    let told : live_rows live (rows ++ r ∷ []) ≡ before ++ r ∷ [] =
    c.takes.ensures.told live rows s.live_told is
    ∙ ap (λ (b : Bool). before ++ (if b then r ∷ [] else [])) c.if-takes.true in
    record {
      live_told = subst (λ l. Tells l live (rows ++ r ∷ [])) (sym (c.begin.ensures.live ∙ c.end_last.ensures.live))
          (c.takes.ensures.goes_on live rows s.live_told is);
      few = c.begin.ensures.count ∙ c.end_last.ensures.count ∙ s.few;
      each = λ n lt. c.begin.ensures.added n (omega (arith, lt, s.few, c.end_last.ensures.count))
          ∙ ap (with_row n r) (c.end_last.ensures.added n (omega (arith, lt, s.few))
          ∙ ap₂ (λ last counts. with_gap n last r.address counts) s.last_is (s.each n lt))
          ∙ counts_push n before r ∙ ap (counts_of n) (sym told);
      last_is = c.begin.ensures.last ∙ sym (last_push before r) ∙ ap last_begun (sym told);
    }
