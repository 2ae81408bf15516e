-- Runs and spans of units that have ended and of the current one.
use Rattle.std.proofs.Common.{◌≡◌, ℕ, ◌+◌, ◌<◌, ◌≤◌, ◌^◌, ◌&&◌, true, List, [], ◌∷◌, ◌++◌, length, take, drop, map, get_or}
use Rattle.std.proofs.Common.{None, arith, sym, ap, ap₂, subst, ◌∙◌, length-append}
use Rattle.std.specs.Prelude.{if◌then◌else◌, is_none}
use Rattle.std.specs.List.{All}
use Rattle.std.specs.Option.{option_map, option_or}
use Rattle.std.proofs.lemmas.List.{take-append-drop, take-append-le, drop-append-le, take_all, drop_all, length-take-le}
use Rattle.std.proofs.lemmas.List.Elements.{All-take, All-drop, All-push}
use Rattle.dl_look.specs.declared.place.Place.{Place}
use Rattle.dl_look.specs.declared.probed.Span.{Span}
use Rattle.dl_look.specs.Answer.{is_at_most, is_below}
use Rattle.dl_stretch.specs.declared.run.Run.{Run}
use Rattle.dl_stretch.specs.Held.{held}
use Rattle.dl_stretch.specs.Renumbered.{renumbered_run}
use Rattle.dl_stretch.specs.Runs.{place_at, run_told_at, renumbered}
use Rattle.dl_stretch.specs.RowRuns.{StartsRise}
use Rattle.dl_stretch.specs.Sequences.{TellFrom}
use Rattle.dl_stretch.specs.Spans.{runs_in, answer_of, IsFull, AreSound}
use Rattle.dl_stretch.specs.declared.sequence.SequenceRuns.{SequenceRuns}
use Rattle.dl_stretch.specs.Parts.{ended, AreParted}
use Rattle.dl_stretch.proofs.RenumberLemmas.{answer-moved, sound_moved}
use Rattle.dl_stretch.proofs.SpanAnswers.{answer-append, answer-grown, answer_added, runs-grown, sound_grown, sound_append}
use Rattle.dl_stretch.proofs.SpanAnswers.{sound_added}

abbrev Within : ℕ → List Span → Type 0
Within n spans = All (λ (s : Span). s.start + s.len ≤ n) spans

sound_take : (runs : List Run) (spans : List Span) (n : ℕ) → AreSound runs spans → AreSound runs (take n spans)
sound_take runs spans n sound = record {
  within = All-take (λ (s : Span). s.start + s.len ≤ length runs) n spans sound.within;
  rise = All-take (λ (s : Span). StartsRise (runs_in runs s)) n spans sound.rise;
  full = All-take (IsFull runs) n spans sound.full;
}

sound_drop : (runs : List Run) (spans : List Span) (n : ℕ) → AreSound runs spans → AreSound runs (drop n spans)
sound_drop runs spans n sound = record {
  within = All-drop (λ (s : Span). s.start + s.len ≤ length runs) n spans sound.within;
  rise = All-drop (λ (s : Span). StartsRise (runs_in runs s)) n spans sound.rise;
  full = All-drop (IsFull runs) n spans sound.full;
}

sound_cut : (runs more : List Run) (spans : List Span) → AreSound (runs ++ more) spans → Within (length runs) spans
    → AreSound runs spans
sound_cut runs more spans sound within = record {
  within = within;
  rise = λ k d lt. subst StartsRise (runs-grown runs more (get_or spans k d) (within k d lt)) (sound.rise k d lt);
  full = λ k d lt a small covers. ap (λ l. is_none (run_told_at l a))
      (sym (runs-grown runs more (get_or spans k d) (within k d lt))) ∙ sound.full k d lt a small covers;
}

pub ended_len : (s : SequenceRuns) → length (ended s) ≡ s.begun
ended_len s = length-take-le s.begun s.runs.items s.within

module _ (runs : List Run) (spans : List Span) (w n : ℕ) (parted : AreParted runs spans w n) where
  whole_sound : AreSound runs (take n spans)
  whole_sound = sound_take runs spans n parted.sound

  unit_sound : AreSound runs (drop n spans)
  unit_sound = sound_drop runs spans n parted.sound

  front_len : length (take w runs) ≡ w
  front_len = length-take-le w runs parted.runs_few

  whole_within : Within (length (take w runs)) (take n spans)
  whole_within = subst (λ m. Within m (take n spans)) (sym front_len) parted.before

  front_sound : AreSound (take w runs) (take n spans)
  front_sound =
      sound_cut (take w runs) (drop w runs) (take n spans)
      (subst (λ l. AreSound l (take n spans)) (sym (take-append-drop w runs)) whole_sound) whole_within

  -- the spans of units that have ended answer by the first runs alone
  front_answers : (more : List Run) (a : ℕ) → answer_of (take w runs ++ more) (take n spans) a ≡ answer_of runs (take n spans) a
  front_answers more a =
      answer-grown (take w runs) more (take n spans) a whole_within
      ∙ sym (answer-grown (take w runs) (drop w runs) (take n spans) a whole_within)
      ∙ ap (λ l. answer_of l (take n spans) a) (take-append-drop w runs)

  -- ---- one sequence more

  module _ (more : List Run) (first last : Place) (tell : TellFrom first more) (start len : ℕ) (at : start ≡ length runs)
      (count : len ≡ length more) where
    abbrev span : Span
    span = record { start = start; len = len; first = first; last = last; rising = true }

    pub parted_added : AreParted (runs ++ more) (spans ++ span ∷ []) w n
    parted_added = record {
      sound = sound_added runs more spans parted.sound first last tell start len at count;
      runs_few = let h = parted.runs_few in omega (arith, h, length-append runs more);
      spans_few = let h = parted.spans_few in omega (arith, h, length-append spans (span ∷ []));
      before = subst (Within w) (sym (take-append-le n spans (span ∷ []) parted.spans_few)) parted.before;
      after = subst (All (λ (s : Span). w ≤ s.start)) (sym (drop-append-le n spans (span ∷ []) parted.spans_few))
          (All-push (λ (s : Span). w ≤ s.start) (drop n spans) span parted.after
          (let h = parted.runs_few in omega (arith, h, at)));
    }

    pub whole_added : (a : ℕ) → answer_of (runs ++ more) (take n (spans ++ span ∷ [])) a ≡ answer_of runs (take n spans) a
    whole_added a =
        ap (λ l. answer_of (runs ++ more) l a) (take-append-le n spans (span ∷ []) parted.spans_few)
        ∙ answer-grown runs more (take n spans) a whole_sound.within

    pub unit_added : (a : ℕ) → a < 2 ^ 64 → answer_of (runs ++ more) (drop n (spans ++ span ∷ [])) a
        ≡ option_or (answer_of runs (drop n spans) a)
        (if is_at_most first (place_at a) && is_below (place_at a) last then run_told_at more a else None)
    unit_added a lt =
        ap (λ l. answer_of (runs ++ more) l a) (drop-append-le n spans (span ∷ []) parted.spans_few)
        ∙ answer_added runs more (drop n spans) unit_sound first last tell start len at count a lt

  -- ---- the current unit ends

  module _ (number : ℕ → ℕ) where
    abbrev all : List Run
    all = take w runs ++ map (renumbered_run number) (drop w runs)

    ended_front : AreSound all (take n spans)
    ended_front =
        sound_grown (take w runs) (map (renumbered_run number) (drop w runs)) (take n spans) front_sound

    ended_sound : AreSound all spans
    ended_sound =
        subst (AreSound all) (take-append-drop n spans)
        (sound_append all (take n spans) (drop n spans) ended_front
        (sound_moved number runs w parted.runs_few (drop n spans) unit_sound parted.after))

    pub parted_ended : (m k : ℕ) → m ≡ length all → k ≡ length spans → AreParted all spans m k
    parted_ended m k at count = record {
      sound = ended_sound;
      runs_few = omega (arith, at);
      spans_few = omega (arith, count);
      before = subst (Within m) (sym (take_all k spans (omega (arith, count)))) (subst (λ i. Within i spans) (sym at) ended_sound.within);
      after = subst (All (λ (s : Span). m ≤ s.start)) (sym (drop_all k spans (omega (arith, count))))
          (λ j d lt. absurd (omega arith));
    }

    pub answer_ended : (k a : ℕ) → k ≡ length spans → a < 2 ^ 64 → answer_of all (take k spans) a
        ≡ option_or (answer_of runs (take n spans) a)
        (option_map (renumbered (λ file. held (number file))) (answer_of runs (drop n spans) a))
    answer_ended k a count lt =
        ap (λ l. answer_of all l a) (take_all k spans (omega (arith, count)) ∙ sym (take-append-drop n spans))
        ∙ answer-append all (take n spans) (drop n spans) a ended_front.full lt
        ∙ ap₂ option_or (front_answers (map (renumbered_run number) (drop w runs)) a)
        (answer-moved number runs w parted.runs_few (drop n spans) a parted.after)

  -- ---- the current unit is forgotten

  abbrev kept : List Span
  kept = take n spans

  kept_len : length kept ≡ n
  kept_len = length-take-le n spans parted.spans_few

  take_kept : take n kept ≡ kept
  take_kept = take_all n kept (omega (arith, kept_len))

  drop_kept : drop n kept ≡ []
  drop_kept = drop_all n kept (omega (arith, kept_len))

  pub parted_forgotten : AreParted (take w runs) kept w n
  parted_forgotten = record {
    sound = front_sound;
    runs_few = omega (arith, front_len);
    spans_few = omega (arith, kept_len);
    before = subst (Within w) (sym take_kept) parted.before;
    after = subst (All (λ (s : Span). w ≤ s.start)) (sym drop_kept) (λ j d lt. absurd (omega arith));
  }

  pub whole_forgotten : (a : ℕ) → answer_of (take w runs) (take n kept) a ≡ answer_of runs (take n spans) a
  whole_forgotten a =
      ap (λ l. answer_of (take w runs) l a) take_kept
      ∙ sym (answer-grown (take w runs) (drop w runs) kept a whole_within)
      ∙ ap (λ l. answer_of l kept a) (take-append-drop w runs)

  pub unit_forgotten : (a : ℕ) → answer_of (take w runs) (drop n kept) a ≡ None
  unit_forgotten a = ap (λ l. answer_of (take w runs) l a) drop_kept
