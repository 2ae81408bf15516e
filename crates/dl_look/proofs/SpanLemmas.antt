-- The sequences of rows, one after the other, and what an index keeps of them.
use Rattle.std.proofs.Common.{◌≡◌, ℕ, zero, suc, ◌+◌, ◌<◌, ◌≤◌, Bool, true, false, ◌&&◌, List, [], ◌∷◌, ◌++◌, length}
use Rattle.std.proofs.Common.{take, drop, get_or, Some, None, arith, refl, zero-add, sym, ap, ap₂, ◌∙◌, append_assoc}
use Rattle.std.proofs.Common.{append-nil, length-append}
use Rattle.std.specs.Prelude.{if◌then◌else◌}
use Rattle.std.specs.Option.{option_and_then}
use Rattle.std.specs.List.{find}
use Rattle.std.proofs.Math.Seq.{take-append_seam, drop-append-add, drop-cons}
use Rattle.std.proofs.Math.ListN.{drop_of_length-le}
use Rattle.std.proofs.lemmas.Bool.{and_parts}
use Rattle.dl_rows.specs.declared.row.Row.{Row}
use Rattle.dl_look.specs.declared.place.Place.{Place}
use Rattle.dl_look.specs.declared.probed.Span.{Span}
use Rattle.dl_look.specs.Answer.{is_below, is_at_most, is_rising, first_place, last_place, sequences_after, sequences}
use Rattle.dl_look.specs.Answer.{covers, last_upto, answer}
use Rattle.dl_look.specs.FinderRows.{unended_after, unended}
use Rattle.dl_look.specs.Spans.{span_of, spans_from, spans}
use Rattle.dl_look.proofs.MoreRows.{answers_for, answer_among}

abbrev pub joined : List (List Row) → List Row
joined [] = []
joined (s ∷ ss) = s ++ joined ss

-- the rows are their sequences, and those after the last end row
pub joined-sequences : (begun rows : List Row)
    → joined (sequences_after begun rows) ++ unended_after begun rows ≡ begun ++ rows
joined-sequences begun [] = sym (append-nil begun)
joined-sequences begun (r ∷ rows) =
    elim r.end_sequence as (λ b. joined (if b then (begun ++ r ∷ []) ∷ sequences_after [] rows
    else sequences_after (begun ++ r ∷ []) rows) ++ (if b then unended_after [] rows
    else unended_after (begun ++ r ∷ []) rows) ≡ begun ++ r ∷ rows) [
      | true ↦ append_assoc (begun ++ r ∷ []) (joined (sequences_after [] rows)) (unended_after [] rows)
          ∙ ap (λ l. (begun ++ r ∷ []) ++ l) (joined-sequences [] rows)
          ∙ append_assoc begun (r ∷ []) rows
      | false ↦ joined-sequences (begun ++ r ∷ []) rows ∙ append_assoc begun (r ∷ []) rows
    ]

length-spans_from : (k : ℕ) (ss : List (List Row)) → length (spans_from k ss) ≡ length ss
length-spans_from k [] = refl
length-spans_from k (s ∷ ss) = ap suc (length-spans_from (k + length s) ss)

pub length-spans : (rows : List Row) → length (spans rows) ≡ length (sequences rows)
length-spans rows = length-spans_from 0 (sequences rows)

-- each of them has a row
few_sequences_after : (begun rows : List Row) → length (sequences_after begun rows) ≤ length rows
few_sequences_after begun [] = omega arith
few_sequences_after begun (r ∷ rows) =
    elim r.end_sequence as (λ (ends : Bool).
    length (if ends then (begun ++ r ∷ []) ∷ sequences_after [] rows else sequences_after (begun ++ r ∷ []) rows)
    ≤ length (r ∷ rows)) [
      | true ↦ let fewer = few_sequences_after [] rows in omega arith
      | false ↦ let fewer = few_sequences_after (begun ++ r ∷ []) rows in omega arith
    ]

pub few_spans : (rows : List Row) → length (spans rows) ≤ length rows
few_spans rows = let few = few_sequences_after [] rows in let same = length-spans rows in omega arith

-- where the sequence i starts
abbrev pub start_at : List (List Row) → ℕ → ℕ
start_at ss i = length (joined (take i ss))

get_or-spans_from : (k : ℕ) (ss : List (List Row)) (i : ℕ) (d : Span) → i < length ss
    → get_or (spans_from k ss) i d ≡ span_of (k + start_at ss i) (get_or ss i [])
get_or-spans_from k [] i d h = absurd (omega arith)
get_or-spans_from k (s ∷ ss) zero d h = let e : k ≡ k + 0 = omega arith in ap (λ n. span_of n s) e
get_or-spans_from k (s ∷ ss) (suc i) d h =
    let e : k + length s + start_at ss i ≡ k + length (s ++ joined (take i ss)) =
    omega (arith, length-append s (joined (take i ss))) in
    get_or-spans_from (k + length s) ss i d (omega arith) ∙ ap (λ n. span_of n (get_or ss i [])) e

part_is : (ss : List (List Row)) (rest : List Row) (i : ℕ) → i < length ss
    → take (length (get_or ss i [])) (drop (start_at ss i) (joined ss ++ rest)) ≡ get_or ss i []
part_is [] rest i h = absurd (omega arith)
part_is (s ∷ ss) rest zero h =
    ap (take (length s)) (append_assoc s (joined ss) rest) ∙ take-append_seam s (joined ss ++ rest)
part_is (s ∷ ss) rest (suc i) h =
    ap (take (length (get_or ss i [])))
    (ap₂ drop (length-append s (joined (take i ss))) (append_assoc s (joined ss) rest)
    ∙ drop-append-add s (joined ss ++ rest) (start_at ss i))
    ∙ part_is ss rest i (omega arith)

part_fits : (ss : List (List Row)) (rest : List Row) (i : ℕ) → i < length ss
    → start_at ss i + length (get_or ss i []) ≤ length (joined ss ++ rest)
part_fits [] rest i h = absurd (omega arith)
part_fits (s ∷ ss) rest zero h = omega (arith, length-append (s ++ joined ss) rest, length-append s (joined ss))
part_fits (s ∷ ss) rest (suc i) h =
    omega (
      arith,
      part_fits ss rest i (omega arith),
      length-append (s ++ joined ss) rest,
      length-append s (joined ss),
      length-append (joined ss) rest,
      length-append s (joined (take i ss)),
    )

-- before the sequence i is probed: the answer is among it and those after it
pub record Passed (rows now : List Row) (x : Place) (i probes : ℕ) : Type 0 where
  pub same : now ≡ rows
  pub others : answer rows x ≡ answer_among (drop i (sequences rows)) x
  pub count : probes ≡ i
  pub within : i ≤ length (sequences rows)

pub all_passed : (rows now : List Row) (x : Place) (i probes : ℕ) → Passed rows now x i probes
    → length (sequences rows) ≤ i → None ≡ answer rows x
all_passed rows now x i probes p all =
    sym (p.others ∙ ap (λ ss. answer_among ss x) (drop_of_length-le (sequences rows) all))

pub among_next : (s : List Row) (ss : List (List Row)) (x : Place)
    → answer_among (s ∷ ss) x ≡ (if answers_for x s then last_upto x s else answer_among ss x)
among_next s ss x =
    elim (answers_for x s) as (λ b. option_and_then (last_upto x) (if b then Some s else find (answers_for x) ss)
    ≡ (if b then last_upto x s else answer_among ss x)) [
      | true ↦ refl
      | false ↦ refl
    ]

-- the first rising sequence that covers x has len rows from start on
pub record Hit (rows now : List Row) (x : Place) (start len : ℕ) : Type 0 where
  pub within : start + len ≤ length now
  pub rising : is_rising (take len (drop start now)) ≡ true
  pub low : is_at_most (first_place (take len (drop start now))) x ≡ true
  pub high : is_below x (last_place (take len (drop start now))) ≡ true
  pub value : last_upto x (take len (drop start now)) ≡ answer rows x

-- the probe of the sequence i answers the span
module _ (rows now new : List Row) (x : Place) (i probes : ℕ) (p : Passed rows now x i probes)
    (lt : i < length (sequences rows)) (span : Span) (is : span ≡ get_or (spans now) i span) (same : new ≡ now) where
  abbrev sequence : List Row
  sequence = get_or (sequences rows) i []

  abbrev start : ℕ
  start = start_at (sequences rows) i

  span_is : span ≡ span_of start sequence
  span_is =
      is ∙ ap (λ l. get_or (spans l) i span) p.same ∙ get_or-spans_from 0 (sequences rows) i span lt
      ∙ ap (λ n. span_of n sequence) (zero-add start)

  all : joined (sequences rows) ++ unended rows ≡ rows
  all = joined-sequences [] rows

  part : take span.len (drop span.start new) ≡ sequence
  part =
      ap (λ l. take span.len (drop span.start l)) (same ∙ p.same)
      ∙ ap₂ (λ n k. take n (drop k rows)) (ap (λ (s : Span). s.len) span_is) (ap (λ (s : Span). s.start) span_is)
      ∙ ap (λ l. take (length sequence) (drop start l)) (sym all)
      ∙ part_is (sequences rows) (unended rows) i lt

  fits : span.start + span.len ≤ length new
  fits =
      let from = ap (λ (s : Span). s.start) span_is in
      let count = ap (λ (s : Span). s.len) span_is in
      let new_length = ap length (same ∙ p.same) in
      omega (arith, part_fits (sequences rows) (unended rows) i lt, ap length all)

  -- what the span says of the sequence
  says : (span.rising && (is_at_most span.first x && is_below x span.last)) ≡ answers_for x sequence
  says = ap (λ (s : Span). s.rising && (is_at_most s.first x && is_below x s.last)) span_is

  split : answer rows x ≡ (if answers_for x sequence then last_upto x sequence
      else answer_among (drop (suc i) (sequences rows)) x)
  split =
      p.others ∙ ap (λ ss. answer_among ss x) (drop-cons (sequences rows) i [] lt)
      ∙ among_next sequence (drop (suc i) (sequences rows)) x

  pub hit : (span.rising && (is_at_most span.first x && is_below x span.last)) ≡ true
      → Hit rows new x span.start span.len
  hit test =
      let hits = sym says ∙ test in
      let rises = and_parts (is_rising sequence) (covers x sequence) hits in
      let ends = and_parts (is_at_most (first_place sequence) x) (is_below x (last_place sequence)) rises.1 in
      record {
        within = fits;
        rising = ap is_rising part ∙ rises.0;
        low = ap (λ l. is_at_most (first_place l) x) part ∙ ends.0;
        high = ap (λ l. is_below x (last_place l)) part ∙ ends.1;
        value = ap (last_upto x) part
            ∙ sym (split ∙ ap (λ (b : Bool). if b then last_upto x sequence
            else answer_among (drop (suc i) (sequences rows)) x) hits);
      }

  pub miss : (span.rising && (is_at_most span.first x && is_below x span.last)) ≡ false
      → Passed rows new x (i + 1) (probes + 1)
  miss test =
      let e : suc i ≡ i + 1 = omega arith in
      record {
        same = same ∙ p.same;
        others =
            split ∙ ap (λ (b : Bool). if b then last_upto x sequence
            else answer_among (drop (suc i) (sequences rows)) x) (sym says ∙ test)
            ∙ ap (λ n. answer_among (drop n (sequences rows)) x) e;
        count = ap (λ n. n + 1) p.count;
        within = omega arith;
      }
