-- Runs with other numbers of their files.
use Rattle.std.proofs.Common.{◌≡◌, ℕ, ◌+◌, ◌-◌, ◌<◌, ◌≤◌, ◌^◌, true, false, List, [], ◌∷◌, ◌++◌, length, take, drop, map}
use Rattle.std.proofs.Common.{get_or, set, Option, Some, None, arith, refl, sym, ap, ap₂, subst, ◌∙◌, length-append}
use Rattle.std.specs.Prelude.{if◌then◌else◌, nat_le, is_none}
use Rattle.std.specs.List.{All}
use Rattle.std.specs.Option.{option_map, option_or}
use Rattle.std.proofs.Math.Seq.{drop-append-add}
use Rattle.std.proofs.lemmas.List.{take-map, drop-map, length-map, length-drop, length-take-le, drop-drop, take_more_set}
use Rattle.std.proofs.lemmas.List.{take_more, drop-set-lt, get_or-drop, map-append}
use Rattle.std.proofs.lemmas.List.Elements.{All-head, All-tail}
use Rattle.dl_look.specs.declared.probed.Span.{Span}
use Rattle.dl_look.specs.Cuts.{covers_span}
use Rattle.dl_stretch.specs.declared.told.Told.{Told}
use Rattle.dl_stretch.specs.declared.run.Run.{Run}
use Rattle.dl_stretch.specs.Renumbered.{renumbered_run}
use Rattle.dl_stretch.specs.Held.{held, told_by}
use Rattle.dl_stretch.specs.Runs.{place_at, run_told_at, renumbered}
use Rattle.dl_stretch.specs.RowRuns.{RunsRise, StartsRise}
use Rattle.dl_stretch.specs.Spans.{runs_in, answer_of, AreSound}
use Rattle.dl_stretch.specs.Stretches.{last_begun}
use Rattle.dl_stretch.proofs.HeldLemmas.{told_renumbered}
use Rattle.dl_stretch.proofs.LastBegun.{last_begun-cons}
use Rattle.dl_stretch.proofs.RunLemmas.{run_start, rise_from, rise_to}
use Rattle.dl_stretch.proofs.SpanAnswers.{answer-cons}

map-or : {A B : Type 0} (f : A → B) (o p : Option A) → option_map f (option_or o p) ≡ option_or (option_map f o) (option_map f p)
map-or f None p = refl
map-or f (Some x) p = refl

pub run_told-cons : (x : Run) (xs : List Run) (a : ℕ) → run_told_at (x ∷ xs) a ≡ option_or (run_told_at xs a)
    (if nat_le x.start a then Some (told_by x) else None)
run_told-cons x xs a =
    ap (option_map told_by) (last_begun-cons run_start x xs a)
    ∙ elim (nat_le x.start a) as (λ b. option_map told_by (option_or
    (last_begun run_start xs a) (if b then Some x else None))
    ≡ option_or (run_told_at xs a) (if b then Some (told_by x) else None)) [
      | true ↦ map-or told_by (last_begun run_start xs a) (Some x)
      | false ↦ map-or told_by (last_begun run_start xs a) None
    ]

module _ (number : ℕ → ℕ) where
  abbrev number_kept : ℕ → ℕ
  number_kept file = held (number file)

  abbrev anew : List Run → List Run
  anew runs = map (renumbered_run number) runs

  told-map : (runs : List Run) (a : ℕ) → run_told_at (anew runs) a ≡ option_map (renumbered number_kept) (run_told_at runs a)
  told-map [] a = refl
  told-map (x ∷ xs) a =
      run_told-cons (renumbered_run number x) (anew xs) a
      ∙ ap₂ (λ o t. option_or o (if nat_le x.start a then Some t else None)) (told-map xs a) (told_renumbered number x)
      ∙ elim (nat_le x.start a) as (λ b. option_or (option_map (renumbered number_kept) (run_told_at xs a)) (if b
      then Some (renumbered number_kept (told_by x)) else None) ≡ option_map (renumbered number_kept) (option_or (run_told_at xs a) (if b
      then Some (told_by x) else None))) [
        | true ↦ sym (map-or (renumbered number_kept) (run_told_at xs a) (Some (told_by x)))
        | false ↦ sym (map-or (renumbered number_kept) (run_told_at xs a) None)
      ]
      ∙ ap (option_map (renumbered number_kept)) (sym (run_told-cons x xs a))

  rise_anew : (runs : List Run) → RunsRise runs → RunsRise (anew runs)
  rise_anew [] r = tt
  rise_anew (x ∷ []) r = tt
  rise_anew (x ∷ y ∷ runs) (less, r) = (less, rise_anew (y ∷ runs) r)

  none-map : (o : Option Told) → is_none (option_map (renumbered number_kept) o) ≡ is_none o
  none-map None = refl
  none-map (Some t) = refl

  -- the runs from w on have their numbers
  module _ (runs : List Run) (w : ℕ) (few : w ≤ length runs) where
    abbrev all : List Run
    all = take w runs ++ anew (drop w runs)

    runs-moved : (s : Span) → w ≤ s.start → runs_in all s ≡ anew (runs_in runs s)
    runs-moved s le =
        let k : ℕ = s.start - w in
        let e : s.start ≡ length (take w runs) + k = omega (arith, le, length-take-le w runs few) in
        let f : w + k ≡ s.start = omega (arith, le) in
        ap (take s.len) (ap (λ n. drop n all) e ∙ drop-append-add (take w runs) (anew (drop w runs)) k
        ∙ drop-map (renumbered_run number) k (drop w runs)
        ∙ ap anew (drop-drop k w runs ∙ ap (λ n. drop n runs) f))
        ∙ take-map (renumbered_run number) s.len (drop s.start runs)

    told-moved : (s : Span) (a : ℕ) → w ≤ s.start
        → run_told_at (runs_in all s) a ≡ option_map (renumbered number_kept) (run_told_at (runs_in runs s) a)
    told-moved s a le = ap (λ l. run_told_at l a) (runs-moved s le) ∙ told-map (runs_in runs s) a

    pub answer-moved : (spans : List Span) (a : ℕ) → All (λ (s : Span). w ≤ s.start) spans
        → answer_of all spans a ≡ option_map (renumbered number_kept) (answer_of runs spans a)
    answer-moved [] a after = refl
    answer-moved (s ∷ spans) a after =
        answer-cons all s spans a
        ∙ ap₂ (λ o p. if covers_span (place_at a) s then o else p)
        (told-moved s a (All-head (λ (s : Span). w ≤ s.start) s spans after))
        (answer-moved spans a (All-tail (λ (s : Span). w ≤ s.start) s spans after))
        ∙ elim (covers_span (place_at a) s) as (λ b. (if b
        then option_map (renumbered number_kept) (run_told_at (runs_in runs s) a)
        else option_map (renumbered number_kept) (answer_of runs spans a)) ≡ option_map (renumbered number_kept) (if b
        then run_told_at (runs_in runs s) a else answer_of runs spans a)) [ true ↦ refl | false ↦ refl ]
        ∙ ap (option_map (renumbered number_kept)) (sym (answer-cons runs s spans a))

    pub len_anew : length all ≡ length runs
    len_anew = omega (
      arith,
      length-append (take w runs) (anew (drop w runs)),
      length-take-le w runs few,
      length-map (drop w runs) (renumbered_run number),
      length-drop w runs,
      few,
    )

    pub sound_moved : (spans : List Span) → AreSound runs spans → All (λ (s : Span). w ≤ s.start) spans
        → AreSound all spans
    sound_moved spans sound after = record {
      within = λ k d lt. (let h = sound.within k d lt in omega (arith, h, len_anew));
      rise = λ k d lt. subst StartsRise (sym (runs-moved (get_or spans k d) (after k d lt)))
          (rise_to (anew (runs_in runs (get_or spans k d))) (rise_anew (runs_in runs (get_or spans k d))
          (rise_from (runs_in runs (get_or spans k d)) (sound.rise k d lt))));
      full = λ k d lt a small covers. ap is_none (told-moved (get_or spans k d) a (after k d lt))
          ∙ none-map (run_told_at (runs_in runs (get_or spans k d)) a) ∙ sound.full k d lt a small covers;
    }

-- one run more has its number
module _ (number : ℕ → ℕ) (items old : List Run) (i : ℕ) (lt : i < length items) (less : i < length old) (d one : Run)
    (is : one ≡ renumbered_run number (get_or items i d))
    (done : take i items ≡ map (renumbered_run number) (take i old)) (left : drop i items ≡ drop i old) where
  here : i + 0 ≡ i
  here = omega arith

  same : get_or items i d ≡ get_or old i d
  same =
      ap (λ n. get_or items n d) (sym here) ∙ sym (get_or-drop i items 0 d) ∙ ap (λ l. get_or l 0 d) left
      ∙ get_or-drop i old 0 d ∙ ap (λ n. get_or old n d) here

  one_is : one ≡ renumbered_run number (get_or old i d)
  one_is = is ∙ ap (renumbered_run number) same

  pub one_done : take (i + 1) (set items i one) ≡ map (renumbered_run number) (take (i + 1) old)
  one_done =
      take_more_set items i one lt ∙ ap₂ (λ l x. l ++ x ∷ []) done one_is
      ∙ sym (map-append (renumbered_run number) (take i old) (get_or old i d ∷ []))
      ∙ ap (map (renumbered_run number)) (sym (take_more old i d less))

  pub one_left : drop (i + 1) (set items i one) ≡ drop (i + 1) old
  one_left =
      drop-set-lt (i + 1) items i one (omega arith) ∙ sym (drop-drop 1 i items) ∙ ap (drop 1) left ∙ drop-drop 1 i old
