use Rattle.std.proofs.Common.{◌≡◌, suc, ◌+◌, ◌-◌, ◌<◌, ◌≤◌, ◌++◌, length, Some, arith, sym, ap, ◌∙◌}
use Rattle.dl_stretch.specs.Made.{no_run, next_start, start_at}
use Rattle.dl_stretch.proofs.NextRuns.{told_before, told_next, next_above, next_upto, next_within}
use Rattle.dl_stretch.proofs.NextRuns.{next_past, starts_upto}
use Rattle.dl_stretch.proofs.LastBegun.{rise_at}
use Rattle.dl_stretch.proofs.RunLemmas.{run_start}
use Rattle.dl_stretch.proofs.StretchLemmas.{made_same}
use Rattle.dl_stretch.proofs.TellLemmas.{tells_both, tells_same}
use Rattle.dl_stretch.proofs.stretching.tell_runs.Goals as goal
use Rattle.dl_stretch.proofs.stretching.tell_runs.Goals.{then-next-gt0, else-next-gt0}

pub loop-next-init : goal.loop-next-init
loop-next-init g c =
    let runs = c.args.runs.now in
    let first = c.args.reach.first in
    let end = c.args.reach.last + 1 in
    let n = c.begun-next.result in
    let at = c.begun-next.ensures in
    let told : told_before runs n ≡ c.if-next-gt0.told = elim c.if-next-gt0.branch [
      | then-next-gt0 w ↦ (let e : n ≡ suc (n - 1) = omega arith in ap (told_before runs) e ∙ ap (λ t. Some t) (sym w.told.ensures) ∙ sym w.told-is)
      | else-next-gt0 w ↦ (let e : n ≡ 0 = omega arith in ap (told_before runs) e ∙ sym w.told-is)
    ] in
    record {
      within = at.within;
      above = at.above;
      made = λ f list last made is. c.tell_from.ensures f list (next_start runs end n) last made
          (next_above runs first end n (omega arith) (λ lt. at.above n (omega arith) lt))
          (λ a from lt. is a from (let h = next_upto runs end n in omega (arith, h, lt))
          ∙ told_next runs first end n c.requires.rise at.within at.upto a from lt ∙ told);
    }

pub loop-next-preserved : goal.loop-next-preserved
loop-next-preserved g c =
    let runs = c.args.runs.now in
    let l = c.loop-next in
    let n = l.next in
    let end = c.args.reach.last + 1 in
    let some : n < length runs = c.loop-next-test.true in
    let from : c.args.reach.first < start_at runs n = l.invariant.above n (omega arith) some in
    let here : start_at runs n ≤ c.args.reach.last = c.if-runs-next.true in
    let at : next_start runs end n ≡ start_at runs n = (let e = next_within runs end n some in omega (arith, e, here)) in
    let more : n + 1 ≡ suc n = omega arith in
    record {
      within = omega arith;
      above = λ k le lt. l.invariant.above k (omega arith) lt;
      made = λ f list last made is. (
          let t = l.invariant.made f list last made is in
          tells_both g.S.StretchSink.hears _ _ _ f list _ (next_start runs end (n + 1)) _ _ t
          (c.tell_from-in-loop-next.ensures f (list ++ t.more) (next_start runs end (n + 1)) t.last
          (made_same f (list ++ t.more) (next_start runs end n) (start_at runs n) t.made at)
          (next_above runs (start_at runs n) end (n + 1) (omega (arith, here))
          (λ lt. rise_at run_start runs c.requires.rise n (n + 1) no_run (omega arith) lt))
          (λ a le lt. is a (omega (arith, from, le)) (let h = next_upto runs end (n + 1) in omega (arith, h, lt))
          ∙ told_next runs (start_at runs n) end (n + 1) c.requires.rise (omega arith)
          (starts_upto runs n (start_at runs n) c.requires.rise some (omega arith)) a le lt
          ∙ ap (told_before runs) more ∙ ap (λ t. Some t) (sym c.told-in-loop-next.ensures))));
    }

pub returns-after-loop-next : goal.returns-after-loop-next
returns-after-loop-next g c = λ f list last made is.
    tells_same g.S.StretchSink.hears _ _ f list _ (c.args.reach.last + 1) _
    (next_past c.args.runs.now (c.args.reach.last + 1) c.loop-next.next c.loop-next-test.false)
    (c.loop-next.invariant.made f list last made is)

pub returns-else-runs-next : goal.returns-else-runs-next
returns-else-runs-next g c = λ f list last made is. (
    let runs = c.args.runs.now in
    let n = c.loop-next.next in
    let end = c.args.reach.last + 1 in
    let over : c.args.reach.last < start_at runs n = c.if-runs-next.false in
    let e : next_start runs end n ≡ end = (let h = next_within runs end n c.loop-next-test.true in omega (arith, h, over)) in
    tells_same g.S.StretchSink.hears _ _ f list _ end _ e (c.loop-next.invariant.made f list last made is))
