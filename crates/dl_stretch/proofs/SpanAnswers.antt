-- What spans answer, as spans are added.
use Rattle.std.proofs.Common.{◌≡◌, ℕ, ◌+◌, ◌<◌, ◌≤◌, ◌^◌, true, false, ◌&&◌, List, [], ◌∷◌, ◌++◌, length, take, drop}
use Rattle.std.proofs.Common.{get_or, Option, Some, None, arith, refl, sym, ap, ap₂, subst, ◌∙◌, length-append}
use Rattle.std.specs.Prelude.{if◌then◌else◌, is_none}
use Rattle.std.specs.List.{find, All}
use Rattle.std.specs.Option.{option_and_then, option_or}
use Rattle.std.proofs.lemmas.Bool.{and_parts}
use Rattle.std.proofs.lemmas.List.{drop-append-le, drop_at, take-append-le, take_all, length-drop}
use Rattle.std.proofs.lemmas.List.Elements.{All-head, All-tail, All-push, All-append}
use Rattle.dl_look.specs.declared.place.Place.{Place}
use Rattle.dl_look.specs.declared.probed.Span.{Span}
use Rattle.dl_look.specs.Answer.{is_at_most, is_below}
use Rattle.dl_look.specs.Cuts.{covers_span}
use Rattle.dl_stretch.specs.declared.told.Told.{Told}
use Rattle.dl_stretch.specs.declared.run.Run.{Run}
use Rattle.dl_stretch.specs.Runs.{place_at, run_told_at}
use Rattle.dl_stretch.specs.RowRuns.{StartsRise}
use Rattle.dl_stretch.specs.Sequences.{TellFrom}
use Rattle.dl_stretch.specs.Spans.{runs_in, answer_of, IsFull, AreSound}

pub answer-cons : (runs : List Run) (s : Span) (spans : List Span) (a : ℕ)
    → answer_of runs (s ∷ spans) a ≡ (if covers_span (place_at a) s then run_told_at (runs_in runs s) a
    else answer_of runs spans a)
answer-cons runs s spans a =
    elim (covers_span (place_at a) s) as (λ b. option_and_then (λ (s : Span). run_told_at (runs_in runs s) a) (if b
    then Some s else find (covers_span (place_at a)) spans) ≡ (if b then run_told_at (runs_in runs s) a
    else answer_of runs spans a)) [ true ↦ refl | false ↦ refl ]

or-some : (o p : Option Told) → is_none o ≡ false → option_or o p ≡ o
or-some None p h = cc
or-some (Some t) p h = refl

-- spans after others
pub answer-append : (runs : List Run) (spans more : List Span) (a : ℕ) → All (IsFull runs) spans → a < 2 ^ 64
    → answer_of runs (spans ++ more) a ≡ option_or (answer_of runs spans a) (answer_of runs more a)
answer-append runs [] more a full lt = refl
answer-append runs (s ∷ spans) more a full lt =
    answer-cons runs s (spans ++ more) a
    ∙ elim (covers_span (place_at a) s) as (λ b. covers_span (place_at a) s ≡ b
    → (if b then run_told_at (runs_in runs s) a else answer_of runs (spans ++ more) a)
    ≡ option_or (if b then run_told_at (runs_in runs s) a else answer_of runs spans a) (answer_of runs more a)) [
      | true ↦ λ e. sym (or-some (run_told_at (runs_in runs s) a) (answer_of runs more a)
          (All-head (IsFull runs) s spans full a lt e))
      | false ↦ λ e. answer-append runs spans more a (All-tail (IsFull runs) s spans full) lt
    ] refl
    ∙ ap (λ o. option_or o (answer_of runs more a)) (sym (answer-cons runs s spans a))

-- ---- runs after those of the spans

pub runs-grown : (runs more : List Run) (s : Span) → s.start + s.len ≤ length runs
    → runs_in (runs ++ more) s ≡ runs_in runs s
runs-grown runs more s le =
    ap (take s.len) (drop-append-le s.start runs more (omega arith))
    ∙ take-append-le s.len (drop s.start runs) more (omega (arith, length-drop s.start runs))

pub answer-grown : (runs more : List Run) (spans : List Span) (a : ℕ)
    → All (λ (s : Span). s.start + s.len ≤ length runs) spans
    → answer_of (runs ++ more) spans a ≡ answer_of runs spans a
answer-grown runs more [] a within = refl
answer-grown runs more (s ∷ spans) a within =
    answer-cons (runs ++ more) s spans a
    ∙ ap₂ (λ o p. if covers_span (place_at a) s then o else p)
    (ap (λ l. run_told_at l a) (runs-grown runs more s (All-head (λ (s : Span). s.start + s.len ≤ length runs) s spans within)))
    (answer-grown runs more spans a (All-tail (λ (s : Span). s.start + s.len ≤ length runs) s spans within))
    ∙ sym (answer-cons runs s spans a)

pub sound_grown : (runs more : List Run) (spans : List Span) → AreSound runs spans → AreSound (runs ++ more) spans
sound_grown runs more spans sound = record {
  within = λ k d lt. (let h = sound.within k d lt in omega (arith, h, length-append runs more));
  rise = λ k d lt. subst StartsRise (sym (runs-grown runs more (get_or spans k d) (sound.within k d lt))) (sound.rise k d lt);
  full = λ k d lt a small covers. ap (λ l. is_none (run_told_at l a))
      (runs-grown runs more (get_or spans k d) (sound.within k d lt)) ∙ sound.full k d lt a small covers;
}

pub sound_append : (runs : List Run) (spans more : List Span) → AreSound runs spans → AreSound runs more
    → AreSound runs (spans ++ more)
sound_append runs spans more s m = record {
  within = All-append (λ (s : Span). s.start + s.len ≤ length runs) spans more s.within m.within;
  rise = All-append (λ (s : Span). StartsRise (runs_in runs s)) spans more s.rise m.rise;
  full = All-append (IsFull runs) spans more s.full m.full;
}

-- ---- one span more, with its runs

module _ (runs more : List Run) (spans : List Span) (sound : AreSound runs spans) (first last : Place)
    (tell : TellFrom first more) (start len : ℕ) (at : start ≡ length runs) (count : len ≡ length more) where
  abbrev span : Span
  span = record { start = start; len = len; first = first; last = last; rising = true }

  its_runs : runs_in (runs ++ more) span ≡ more
  its_runs =
      ap (take len) (drop_at runs more start (sym at)) ∙ take_all len more (omega (arith, count))

  sound_one : AreSound (runs ++ more) (span ∷ [])
  sound_one = record {
    within = All-push (λ (s : Span). s.start + s.len ≤ length (runs ++ more)) [] span
        (λ k d lt. absurd (omega arith)) (omega (arith, at, count, length-append runs more));
    rise = All-push (λ (s : Span). StartsRise (runs_in (runs ++ more) s)) [] span (λ k d lt. absurd (omega arith))
        (subst StartsRise (sym its_runs) tell.rise);
    full = All-push (IsFull (runs ++ more)) [] span (λ k d lt. absurd (omega arith)) (λ a lt covers.
        ap (λ l. is_none (run_told_at l a)) its_runs ∙ tell.full a lt
        (and_parts (is_at_most first (place_at a)) (is_below (place_at a) last) covers).0);
  }

  pub sound_added : AreSound (runs ++ more) (spans ++ span ∷ [])
  sound_added =
      sound_append (runs ++ more) spans (span ∷ []) (sound_grown runs more spans sound) sound_one

  pub answer_added : (a : ℕ) → a < 2 ^ 64 → answer_of (runs ++ more) (spans ++ span ∷ []) a
      ≡ option_or (answer_of runs spans a)
      (if is_at_most first (place_at a) && is_below (place_at a) last then run_told_at more a else None)
  answer_added a lt =
      answer-append (runs ++ more) spans (span ∷ []) a (sound_grown runs more spans sound).full lt
      ∙ ap₂ option_or (answer-grown runs more spans a sound.within)
      (answer-cons (runs ++ more) span [] a
      ∙ ap (λ o. if is_at_most first (place_at a) && is_below (place_at a) last then o else None)
      (ap (λ l. run_told_at l a) its_runs))
