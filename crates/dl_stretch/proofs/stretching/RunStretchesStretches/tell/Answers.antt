use Rattle.std.proofs.Common.{◌≡◌, ◌+◌, ◌<◌, ◌^◌, [], length, get_or, arith, refl, sym, ap, ◌∙◌}
use Rattle.std.proofs.lemmas.List.{get_or_read}
use Rattle.dl_look.specs.declared.cuts.Cut.{Cut}
use Rattle.dl_look.specs.Cuts.{no_cut, no_span}
use Rattle.dl_stretch.specs.Made.{cut_start}
use Rattle.dl_stretch.specs.Runs.{run_told_at}
use Rattle.dl_stretch.specs.Spans.{answer_of, runs_in}
use Rattle.dl_stretch.proofs.CutPlaceLemmas.{are_cuts}
use Rattle.dl_stretch.proofs.CutStretches.{none_first, none_between, within_spans, gap_between, told_between, start_past}
use Rattle.dl_stretch.proofs.RunLemmas.{rise_from}
use Rattle.dl_stretch.proofs.StretchLemmas.{all_made, made_same, one_list}
use Rattle.dl_stretch.proofs.TellLemmas.{tells_none, tells_both, tells_same}
use Rattle.dl_stretch.proofs.stretching.RunStretchesStretches.tell.Goals as goal
use Rattle.dl_stretch.proofs.stretching.RunStretchesStretches.tell.Goals.{in-Some-sequence, in-None}

pub loop-i-init : goal.loop-i-init
loop-i-init g c =
    let s = c.args.self.now in
    tells_none g.S.StretchSink.hears _ (answer_of s.runs.now s.spans.now) [] (cut_start s.cuts.items 0) _
    (none_first s.runs.now s.spans.now s.cuts.items (are_cuts s.spans.now s.cuts.items s.stand)) refl

pub loop-i-preserved-in_default : goal.loop-i-preserved-in_default
loop-i-preserved-in_default g c =
    let s = c.args.self.now in
    let t = c.loop-i.invariant in
    record {
      more = t.more;
      heard = t.heard;
      made = none_between s.runs.now s.spans.now s.cuts.items (are_cuts s.spans.now s.cuts.items s.stand) t.more c.loop-i.i
          (rw c.as_slice.ensures.value at c.in_default.ensures) t.made;
      last = t.last;
    }

pub runs_of-requires-clause-within : goal.runs_of-requires-clause-within
runs_of-requires-clause-within g c =
    let s = c.args.self.now in
    let cuts = s.cuts.items in
    let lt : c.loop-i.i < length cuts = omega (arith, s.cuts.ok.0) in
    let cut = get_or_read cuts c.loop-i.i c.index.result.now lt c.index.ensures no_cut in
    within_spans s.runs.now s.spans.now cuts (are_cuts s.spans.now cuts s.stand) c.loop-i.i c.in-Some-sequence.sequence lt
    (ap (λ (c : Cut). c.sequence) (sym cut) ∙ c.in-Some-sequence.is)

pub tell_runs-last-requires-clause-rise : goal.tell_runs-last-requires-clause-rise
tell_runs-last-requires-clause-rise g c =
    let s = c.args.self.now in
    let cuts = s.cuts.items in
    let lt : c.loop-i.i < length cuts = omega (arith, s.cuts.ok.0) in
    let cut = get_or_read cuts c.loop-i.i c.index.result.now lt c.index.ensures no_cut in
    rw c.runs_of.ensures (rise_from (runs_in s.runs.now (get_or s.spans.now c.in-Some-sequence.sequence no_span))
    (s.sound.rise c.in-Some-sequence.sequence no_span
    (within_spans s.runs.now s.spans.now cuts (are_cuts s.spans.now cuts s.stand) c.loop-i.i c.in-Some-sequence.sequence lt
    (ap (λ (c : Cut). c.sequence) (sym cut) ∙ c.in-Some-sequence.is))))

pub loop-i-preserved : goal.loop-i-preserved
loop-i-preserved g c =
    let hears = g.S.StretchSink.hears in
    let s = c.args.self.now in
    let runs = s.runs.now in
    let spans = s.spans.now in
    let cuts = s.cuts.items in
    let are = are_cuts spans cuts s.stand in
    let i = c.loop-i.i in
    let first = c.in-Some.reach.first in
    let lt : i < length cuts = omega (arith, s.cuts.ok.0) in
    let cut = get_or_read cuts i c.index.result.now lt c.index.ensures no_cut in
    let f = answer_of runs spans in
    let reach = c.in-Some.ensures in
    let same = c.as_slice.ensures.value in
    let from : first ≡ cut_start cuts i = reach.0 ∙ ap (λ l. cut_start l i) same in
    let to : c.in-Some.reach.last + 1 ≡ cut_start cuts (i + 1) = reach.1 ∙ ap (λ l. cut_start l (i + 1)) same in
    let t = c.loop-i.invariant in
    let made = made_same f t.more (cut_start cuts i) first t.made (sym from) in
    elim c.match-index.branch [
      | in-Some-sequence w ↦ (
          let is = ap (λ (c : Cut). c.sequence) (sym cut) ∙ w.in-Some-sequence.is in
          rw (w.sink-is, w.last-is) (tells_both hears _ _ _ f [] _ (cut_start cuts (i + 1)) _ _ t
          (tells_same hears _ _ f t.more (c.in-Some.reach.last + 1) (cut_start cuts (i + 1)) _ to
          (w.tell_runs-last.ensures f t.more t.last made (λ a le under.
          told_between runs spans cuts are i w.in-Some-sequence.sequence a lt is
          (omega (arith, from, le)) (omega (arith, to, under)) ∙ ap (λ l. run_told_at l a) (sym w.runs_of.ensures))))))
      | in-None w ↦ (
          let is = ap (λ (c : Cut). c.sequence) (sym cut) ∙ w.in-None.is in
          rw (w.sink-is, w.last-is) (tells_both hears _ _ _ f [] _ (cut_start cuts (i + 1)) _ _ t
          (w.tell_from.ensures f t.more (cut_start cuts (i + 1)) t.last made
          (let some = reach.2 in omega (arith, some, to)) (λ a le under.
          gap_between runs spans cuts are i a lt is (omega (arith, from, le)) under))))
    ]

pub returns : goal.returns
returns g c =
    let s = c.args.self.now in
    let f = answer_of s.runs.now s.spans.now in
    let t = c.loop-i.invariant in
    let made = made_same f t.more (cut_start s.cuts.items c.loop-i.i) (2 ^ 64) t.made
    (start_past s.runs.now s.spans.now s.cuts.items (are_cuts s.spans.now s.cuts.items s.stand) c.loop-i.i
    (omega (arith, s.cuts.ok.0))) in
    let are = all_made f t.more made in (
      t.more,
      (are, made.below),
      (λ other stands. one_list f other t.more stands.0 are stands.1 made.below),
      t.heard,
    )
