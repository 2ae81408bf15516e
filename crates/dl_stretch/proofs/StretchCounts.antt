-- How many stretches there are: each begins where a run does, or where a span begins or ends.
use Rattle.std.proofs.Common.{◌≡◌, ◌≢◌, ℕ, zero, suc, ◌+◌, ◌*◌, ◌<◌, ◌≤◌, ◌^◌, Bool, true, false, ◌&&◌, ◌||◌, eqb, inl, inr}
use Rattle.std.proofs.Common.{List, [], ◌∷◌, ◌++◌, length, length-append, map, take, drop, Option, Some, None}
use Rattle.std.proofs.Common.{arith, refl, sym, ap, ap₂, ◌∙◌}
use Rattle.std.specs.Prelude.{if◌then◌else◌, nat_le, nat_lt}
use Rattle.std.specs.Option.{option_map, option_or}
use Rattle.std.proofs.lemmas.Bool.{cases_lt, cases_eq, eqb-false, ne_eqb, le-leb, lt-leb, lt-ltb, le-ltb}
use Rattle.std.proofs.lemmas.List.{length-map}
use Rattle.dl_look.specs.declared.probed.Span.{Span}
use Rattle.dl_look.specs.Answer.{is_below}
use Rattle.dl_look.specs.Cuts.{covers_span}
use Rattle.dl_stretch.specs.declared.told.Told.{Told}
use Rattle.dl_stretch.specs.declared.run.Run.{Run}
use Rattle.dl_stretch.specs.declared.run_spans.RunSpans.{RunSpans}
use Rattle.dl_stretch.specs.declared.runs.Runs.{Runs}
use Rattle.dl_stretch.specs.declared.stretch.Stretch.{Stretch}
use Rattle.dl_stretch.specs.Held.{told_by}
use Rattle.dl_stretch.specs.Kept.{kept_count, kept_in, unit_count, unit_in, whole_count, whole_in}
use Rattle.dl_stretch.specs.Laws.{AtAddresses}
use Rattle.dl_stretch.specs.Runs.{place_at, first_address, run_told_at}
use Rattle.dl_stretch.specs.Spans.{answer_of, runs_in}
use Rattle.dl_stretch.specs.Stretches.{AreStretches, last_begun}
use Rattle.dl_stretch.proofs.LastBegun.{last_begun-cons}
use Rattle.dl_stretch.proofs.PartLemmas.{ended_len}
use Rattle.dl_stretch.proofs.RunLemmas.{at_most_begun, below_begun, run_start}
use Rattle.dl_stretch.proofs.SpanAnswers.{answer-cons}
use Rattle.dl_stretch.proofs.StretchLemmas.{From, at_first, before_first, from_start, rise, told_from, told_from-at}

-- ---- numbers that are marked

abbrev has : ℕ → List ℕ → Bool
has n [] = false
has n (m ∷ marks) = eqb n m || has n marks

both_false : (x y : Bool) → (x || y) ≡ false → (x ≡ false) × (y ≡ false)
both_false true y e = absurd cc
both_false false y e = (refl, e)

has-append : (n : ℕ) (a b : List ℕ) → has n (a ++ b) ≡ false → (has n a ≡ false) × (has n b ≡ false)
has-append n [] b none = (refl, none)
has-append n (m ∷ a) b none =
    let first = both_false (eqb n m) (has n (a ++ b)) none in
    let rest = has-append n a b first.1 in
    (ap₂ (λ (x y : Bool). x || y) first.0 rest.0, rest.1)

abbrev one : Bool → ℕ
one true = 1
one false = 0

-- how many marks aren't below a number
abbrev above : ℕ → List ℕ → ℕ
above low [] = 0
above low (m ∷ marks) = one (nat_le low m) + above low marks

one_above : (low m : ℕ) → one (nat_le low m) ≤ 1
one_above low m = by (nat_le low m) where
  by : (b : Bool) → one b ≤ 1
  by true = omega arith
  by false = omega arith

few_above : (low : ℕ) (marks : List ℕ) → above low marks ≤ length marks
few_above low [] = omega arith
few_above low (m ∷ marks) = omega (arith, few_above low marks, one_above low m)

is_above : (low m : ℕ) → low ≤ m → one (nat_le low m) ≡ 1
is_above low m le = ap one (le-leb low m le)

not_above : (low m : ℕ) → m < low → one (nat_le low m) ≡ 0
not_above low m lt = ap one (lt-leb low m lt)

one_fewer : (a b m : ℕ) → a ≤ b → one (nat_le b m) ≤ one (nat_le a m)
one_fewer a b m le = elim (cases_lt m b) [
  | inl lt ↦ omega (arith, not_above b m lt)
  | inr from ↦ omega (arith, is_above a m (omega (arith, le, from)), one_above b m)
]

fewer_above : (a b : ℕ) (marks : List ℕ) → a ≤ b → above b marks ≤ above a marks
fewer_above a b [] le = omega arith
fewer_above a b (m ∷ marks) le = omega (arith, fewer_above a b marks le, one_fewer a b m le)

-- a mark is one more from itself on than from the next number on
mark_above : (a : ℕ) (marks : List ℕ) → has a marks ≡ true → above (suc a) marks + 1 ≤ above a marks
mark_above a [] marked = absurd cc
mark_above a (m ∷ marks) marked = elim (cases_eq a m) [
  | inl is ↦ omega (
    arith,
    is_above a m (omega (arith, is)),
    not_above (suc a) m (omega (arith, is)),
    fewer_above a (suc a) marks (omega arith),
  )
  | inr other ↦ omega (
    arith,
    one_fewer a (suc a) m (omega arith),
    mark_above a marks (ap (λ (b : Bool). b || has a marks) (sym (ne_eqb a m other)) ∙ marked),
  )
]

-- ---- stretches that begin at marks

-- what is answered before a
abbrev prior : (ℕ → Option Told) → ℕ → Option Told
prior f zero = None
prior f (suc a) = f a

module _ (f : ℕ → Option Told) (marks : List ℕ)
    (marked : (a : ℕ) → a < 2 ^ 64 → f a ≢ prior f a → has a marks ≡ true) where
  prior_first : (low : ℕ) (before : Option Told) (x : Stretch) (s : List Stretch) → From low before (x ∷ s)
      → ((a : ℕ) → low ≤ a → a < 2 ^ 64 → told_from before (x ∷ s) a ≡ f a) → prior f low ≡ before
      → (n : ℕ) → n ≡ x.start → prior f n ≡ before
  prior_first low before x s from same is n at = elim (cases_eq n low) [
    | inl here ↦ ap (prior f) here ∙ is
    | inr other ↦ by n at other
  ] where
    by : (m : ℕ) → m ≡ x.start → (m ≡ low → ⊥) → prior f m ≡ before
    by zero at other = absurd (other (omega (arith, at, from.0)))
    by (suc m) at other =
        sym (same m (let ne : (suc m ≡ low → ⊥) = other in omega (arith, at, from.0, ne)) (omega (arith, at, from.1)))
        ∙ before_first x.start before (x ∷ s) m (omega arith, from.1, from.2, from.3) (omega (arith, at))

  few_from : (low : ℕ) (before : Option Told) (s : List Stretch) → From low before s
      → ((a : ℕ) → low ≤ a → a < 2 ^ 64 → told_from before s a ≡ f a) → prior f low ≡ before
      → length s ≤ above low marks
  few_from low before [] from same is = omega arith
  few_from low before (x ∷ s) from same is =
      let told : f x.start ≡ x.told = sym (same x.start from.0 from.1) ∙ at_first low before x s from in
      let first = prior_first low before x s from same is x.start refl in
      let mark = marked x.start from.1 (λ e. from.2 (sym first ∙ sym e ∙ told)) in
      let rest = few_from (suc x.start) x.told s from.3
      (λ a le lt. sym (after x s a le) ∙ same a (omega (arith, from.0, le)) lt) told in
      omega (arith, rest, mark_above x.start marks mark, fewer_above low x.start marks from.0)
    where
      after : (x : Stretch) (s : List Stretch) (a : ℕ) → suc x.start ≤ a
          → told_from before (x ∷ s) a ≡ told_from x.told s a
      after x s a le =
          ap (λ (b : Bool). if b then before else told_from x.told s a) (le-ltb a x.start (omega (arith, le)))

  few_marked : (s : List Stretch) → AreStretches f s → AtAddresses s → length s ≤ length marks
  few_marked s are at =
      omega (
        arith,
        few_above 0 marks,
        few_from 0 None s (from_start s are.apart at are.first)
            (λ a le lt. told_from-at s a (rise s are.apart) ∙ are.right a lt) refl,
      )

-- ---- where spans change what they answer

abbrev span_marks : List Span → List ℕ
span_marks [] = []
span_marks (s ∷ spans) = first_address s.first ∷ first_address s.last ∷ span_marks spans

abbrev marks_of : List Run → List Span → List ℕ
marks_of runs spans = map run_start runs ++ span_marks spans

count_of_spans : (spans : List Span) → length (span_marks spans) ≡ 2 * length spans
count_of_spans [] = refl
count_of_spans (s ∷ spans) = omega (arith, count_of_spans spans)

le_same : (n a : ℕ) → eqb (suc a) n ≡ false → nat_le n (suc a) ≡ nat_le n a
le_same n a other = elim (cases_lt a n) [
  | inl lt ↦ (let ne = eqb-false (suc a) n other in
      lt-leb n (suc a) (omega (arith, lt, ne))
      ∙ sym (lt-leb n a lt))
  | inr le ↦ le-leb n (suc a) (omega (arith, le)) ∙ sym (le-leb n a le)
]

lt_same : (n a : ℕ) → eqb (suc a) n ≡ false → nat_lt (suc a) n ≡ nat_lt a n
lt_same n a other = elim (cases_lt a n) [
  | inl lt ↦ (let ne = eqb-false (suc a) n other in
      lt-ltb (suc a) n (omega (arith, lt, ne))
      ∙ sym (lt-ltb a n lt))
  | inr le ↦ le-ltb (suc a) n (omega (arith, le)) ∙ sym (le-ltb a n le)
]

covers_same : (s : Span) (a : ℕ) → eqb (suc a) (first_address s.first) ≡ false
    → eqb (suc a) (first_address s.last) ≡ false → covers_span (place_at (suc a)) s ≡ covers_span (place_at a) s
covers_same s a begins ends =
    ap₂ (λ (x y : Bool). s.rising && (x && y))
    (at_most_begun s.first (suc a) ∙ le_same (first_address s.first) a begins ∙ sym (at_most_begun s.first a))
    (below_begun s.last (suc a) ∙ lt_same (first_address s.last) a ends ∙ sym (below_begun s.last a))

last_same : (runs : List Run) (a : ℕ) → has (suc a) (map run_start runs) ≡ false
    → last_begun run_start runs (suc a) ≡ last_begun run_start runs a
last_same [] a none = refl
last_same (x ∷ runs) a none =
    let first = both_false (eqb (suc a) x.start) (has (suc a) (map run_start runs)) none in
    last_begun-cons run_start x runs (suc a)
    ∙ ap₂ option_or (last_same runs a first.1)
    (ap (λ (b : Bool). if b then Some x else None) (le_same x.start a first.0))
    ∙ sym (last_begun-cons run_start x runs a)

not_dropped : (n m : ℕ) (runs : List Run) → has n (map run_start runs) ≡ false
    → has n (map run_start (drop m runs)) ≡ false
not_dropped n zero runs none = none
not_dropped n (suc m) [] none = none
not_dropped n (suc m) (x ∷ runs) none =
    not_dropped n m runs (both_false (eqb n x.start) (has n (map run_start runs)) none).1

not_taken : (n m : ℕ) (runs : List Run) → has n (map run_start runs) ≡ false
    → has n (map run_start (take m runs)) ≡ false
not_taken n zero runs none = refl
not_taken n (suc m) [] none = none
not_taken n (suc m) (x ∷ runs) none =
    let first = both_false (eqb n x.start) (has n (map run_start runs)) none in
    ap₂ (λ (x y : Bool). x || y) first.0 (not_taken n m runs first.1)

module _ (runs : List Run) where
  answers_same : (spans : List Span) (a : ℕ) → has (suc a) (map run_start runs) ≡ false
      → has (suc a) (span_marks spans) ≡ false → answer_of runs spans (suc a) ≡ answer_of runs spans a
  answers_same [] a no_run no_end = refl
  answers_same (s ∷ spans) a no_run no_end =
      let first = both_false (eqb (suc a) (first_address s.first)) _ no_end in
      let last = both_false (eqb (suc a) (first_address s.last)) _ first.1 in
      answer-cons runs s spans (suc a)
      ∙ ap₂ (λ (o p : Option Told). if covers_span (place_at (suc a)) s then o else p)
      (ap (option_map told_by) (last_same (runs_in runs s) a
      (not_taken (suc a) s.len (drop s.start runs) (not_dropped (suc a) s.start runs no_run))))
      (answers_same spans a no_run last.1)
      ∙ ap (λ (b : Bool). if b then run_told_at (runs_in runs s) a else answer_of runs spans a)
      (covers_same s a first.0 last.0)
      ∙ sym (answer-cons runs s spans a)

  covers_not : (s : Span) → eqb 0 (first_address s.first) ≡ false → covers_span (place_at 0) s ≡ false
  covers_not s other =
      ap (λ (b : Bool). s.rising && (b && is_below (place_at 0) s.last))
      (at_most_begun s.first 0
      ∙ lt-leb (first_address s.first) 0 (omega (arith, eqb-false 0 (first_address s.first) other)))
      ∙ by s.rising
    where
      by : (b : Bool) → (b && (false && is_below (place_at 0) s.last)) ≡ false
      by true = refl
      by false = refl

  none_at_0 : (spans : List Span) → has 0 (span_marks spans) ≡ false → answer_of runs spans 0 ≡ None
  none_at_0 [] no_end = refl
  none_at_0 (s ∷ spans) no_end =
      let first = both_false (eqb 0 (first_address s.first)) _ no_end in
      let last = both_false (eqb 0 (first_address s.last)) _ first.1 in
      answer-cons runs s spans 0
      ∙ ap (λ (b : Bool). if b then run_told_at (runs_in runs s) 0 else answer_of runs spans 0) (covers_not s first.0)
      ∙ none_at_0 spans last.1

  unmarked : (spans : List Span) (a : ℕ) → has a (marks_of runs spans) ≡ false
      → answer_of runs spans a ≡ prior (answer_of runs spans) a
  unmarked spans zero none = none_at_0 spans (has-append 0 (map run_start runs) (span_marks spans) none).1
  unmarked spans (suc a) none =
      let both = has-append (suc a) (map run_start runs) (span_marks spans) none in
      answers_same spans a both.0 both.1

  changes : (spans : List Span) (a : ℕ) → a < 2 ^ 64 → answer_of runs spans a ≢ prior (answer_of runs spans) a
      → has a (marks_of runs spans) ≡ true
  changes spans a lt differs = by (has a (marks_of runs spans)) refl where
    by : (b : Bool) → has a (marks_of runs spans) ≡ b → has a (marks_of runs spans) ≡ true
    by true is = is
    by false is = absurd (differs (unmarked spans a is))

  -- the stretches of what spans answer are no more than the runs, and two for each span
  pub few_stretches : (spans : List Span) (list : List Stretch) → AreStretches (answer_of runs spans) list
      → AtAddresses list → length list ≤ length runs + 2 * length spans
  few_stretches spans list are at =
      omega (
        arith,
        few_marked (answer_of runs spans) (marks_of runs spans) (changes spans) list are at,
        length-append (map run_start runs) (span_marks spans),
        length-map runs run_start,
        count_of_spans spans,
      )

-- ---- runs of the units that have ended

begun_at_most : (s : RunSpans) → whole_in s + unit_in s ≤ kept_in s
begun_at_most s = omega (arith, s.parted.runs_few, ended_len s.list, s.list.within)

-- they are kept, with those of the current unit
pub begun_within : (runs : Runs) → whole_count runs + unit_count runs ≤ kept_count runs
begun_within runs = begun_at_most runs.spans
