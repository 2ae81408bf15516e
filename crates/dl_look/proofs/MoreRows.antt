-- One more row after others.
use Rattle.std.proofs.Common.{◌≡◌, Bool, true, false, ◌&&◌, List, [], ◌∷◌, ◌++◌, Option, Some, None, refl, sym, ap, ap₂}
use Rattle.std.proofs.Common.{◌∙◌}
use Rattle.std.specs.Prelude.{if◌then◌else◌, is_none}
use Rattle.std.specs.List.{find}
use Rattle.std.specs.Option.{option_and_then, option_map}
use Rattle.std.proofs.Math.Bool.{and-true, and_assoc}
use Rattle.std.proofs.lemmas.Bool.{and_parts}
use Rattle.dl_rows.specs.declared.row.Row.{Row}
use Rattle.dl_look.specs.declared.place.Place.{Place}
use Rattle.dl_look.specs.declared.sequence_so_far.SequenceSoFar.{SequenceSoFar}
use Rattle.dl_look.specs.Answer.{place_of, is_at_most, is_rising, last_place, covers, sequences_after, sequences}
use Rattle.dl_look.specs.Answer.{last_upto, answer}
use Rattle.dl_look.specs.FinderRows.{unended_after, unended}
use Rattle.dl_look.specs.Spans.{run_of}
use Rattle.dl_look.proofs.LastUpto.{some_upto}

pub last_place-push : (s : List Row) (r : Row) → last_place (s ++ r ∷ []) ≡ place_of r
last_place-push [] r = refl
last_place-push (q ∷ []) r = refl
last_place-push (q ∷ t ∷ s) r = last_place-push (t ∷ s) r

pub is_rising-push : (q : Row) (s : List Row) (r : Row)
    → is_rising (q ∷ s ++ r ∷ []) ≡ (is_rising (q ∷ s) && is_at_most (last_place (q ∷ s)) (place_of r))
is_rising-push q [] r = and-true (is_at_most (place_of q) (place_of r))
is_rising-push q (t ∷ s) r =
    ap (λ b. is_at_most (place_of q) (place_of t) && b) (is_rising-push t s r)
    ∙ sym (and_assoc (is_at_most (place_of q) (place_of t)) (is_rising (t ∷ s))
    (is_at_most (last_place (t ∷ s)) (place_of r)))

-- a row after a run
pub run_of-push : (rows : List Row) (r : Row) (run : SequenceSoFar) → Some run ≡ run_of rows
    → run_of (rows ++ r ∷ []) ≡ Some (record {
      first = run.first;
      last = place_of r;
      rising =
          run.rising && is_at_most run.last (place_of r);
    })
run_of-push [] r run e = cc
run_of-push (q ∷ s) r run e =
    ap₂ (λ (p : Place) (b : Bool). Some (record { first = place_of q; last = p; rising = b }))
    (last_place-push (q ∷ s) r) (is_rising-push q s r)
    ∙ ap (λ o. option_map (λ (k : SequenceSoFar). record {
      first = k.first;
      last = place_of r;
      rising =
          k.rising && is_at_most k.last (place_of r);
    }) o) (sym e)

-- where a row ends a sequence, and where it doesn't
pub sequences-push_end : (begun rows : List Row) (r : Row) → r.end_sequence ≡ true
    → sequences_after begun (rows ++ r ∷ []) ≡ sequences_after begun rows ++ (unended_after begun rows ++ r ∷ []) ∷ []
sequences-push_end begun [] r ends =
    ap (λ (b : Bool). if b then (begun ++ r ∷ []) ∷ [] else []) ends
sequences-push_end begun (q ∷ rows) r ends =
    elim q.end_sequence as (λ b. (if b then (begun ++ q ∷ []) ∷ sequences_after [] (rows ++ r ∷ [])
    else sequences_after (begun ++ q ∷ []) (rows ++ r ∷ [])) ≡ (if b
    then (begun ++ q ∷ []) ∷ sequences_after [] rows else sequences_after (begun ++ q ∷ []) rows)
    ++ ((if b then unended_after [] rows else unended_after (begun ++ q ∷ []) rows) ++ r ∷ []) ∷ []) [
      | true ↦ ap (λ ss. (begun ++ q ∷ []) ∷ ss) (sequences-push_end [] rows r ends)
      | false ↦ sequences-push_end (begun ++ q ∷ []) rows r ends
    ]

pub sequences-push : (begun rows : List Row) (r : Row) → r.end_sequence ≡ false
    → sequences_after begun (rows ++ r ∷ []) ≡ sequences_after begun rows
sequences-push begun [] r more =
    ap (λ (b : Bool). if b then (begun ++ r ∷ []) ∷ [] else []) more
sequences-push begun (q ∷ rows) r more =
    elim q.end_sequence as (λ b. (if b then (begun ++ q ∷ []) ∷ sequences_after [] (rows ++ r ∷ [])
    else sequences_after (begun ++ q ∷ []) (rows ++ r ∷ [])) ≡ (if b
    then (begun ++ q ∷ []) ∷ sequences_after [] rows else sequences_after (begun ++ q ∷ []) rows)) [
      | true ↦ ap (λ ss. (begun ++ q ∷ []) ∷ ss) (sequences-push [] rows r more)
      | false ↦ sequences-push (begun ++ q ∷ []) rows r more
    ]

pub unended-push_end : (begun rows : List Row) (r : Row) → r.end_sequence ≡ true
    → unended_after begun (rows ++ r ∷ []) ≡ []
unended-push_end begun [] r ends = ap (λ (b : Bool). if b then [] else begun ++ r ∷ []) ends
unended-push_end begun (q ∷ rows) r ends =
    elim q.end_sequence as (λ b. (if b then unended_after [] (rows ++ r ∷ [])
    else unended_after (begun ++ q ∷ []) (rows ++ r ∷ [])) ≡ []) [
      | true ↦ unended-push_end [] rows r ends
      | false ↦ unended-push_end (begun ++ q ∷ []) rows r ends
    ]

pub unended-push : (begun rows : List Row) (r : Row) → r.end_sequence ≡ false
    → unended_after begun (rows ++ r ∷ []) ≡ unended_after begun rows ++ r ∷ []
unended-push begun [] r more = ap (λ (b : Bool). if b then [] else begun ++ r ∷ []) more
unended-push begun (q ∷ rows) r more =
    elim q.end_sequence as (λ b. (if b then unended_after [] (rows ++ r ∷ [])
    else unended_after (begun ++ q ∷ []) (rows ++ r ∷ [])) ≡ (if b then unended_after [] rows
    else unended_after (begun ++ q ∷ []) rows) ++ r ∷ []) [
      | true ↦ unended-push [] rows r more
      | false ↦ unended-push (begun ++ q ∷ []) rows r more
    ]

-- the answer among sequences, and one more after them
abbrev pub answers_for : Place → List Row → Bool
answers_for x s = is_rising s && covers x s

abbrev pub answer_among : List (List Row) → Place → Option Row
answer_among ss x = option_and_then (last_upto x) (find (answers_for x) ss)

answer_among-push : (ss : List (List Row)) (s : List Row) (x : Place)
    → answer_among (ss ++ s ∷ []) x ≡ (if is_none (answer_among ss x) && answers_for x s then last_upto x s
    else answer_among ss x)
answer_among-push [] s x =
    elim (answers_for x s) as (λ b. option_and_then (last_upto x) (if b then Some s else None) ≡ (if b
    then last_upto x s else None)) [
      | true ↦ refl
      | false ↦ refl
    ]
answer_among-push (t ∷ ss) s x =
    elim (answers_for x t) as (λ b. answers_for x t ≡ b
    → option_and_then (last_upto x) (if b then Some t else find (answers_for x) (ss ++ s ∷ []))
    ≡ (if is_none (option_and_then (last_upto x) (if b then Some t else find (answers_for x) ss)) && answers_for x s
    then last_upto x s else option_and_then (last_upto x) (if b then Some t else find (answers_for x) ss))) [
      | true ↦ λ e. sym (ap (λ (b : Bool). if b && answers_for x s then last_upto x s
          else last_upto x t) (some_upto x t (and_parts (is_rising t) (covers x t) e).1))
      | false ↦ λ e. answer_among-push ss s x
    ] refl

pub answer-push_end : (rows : List Row) (r : Row) (x : Place) → r.end_sequence ≡ true
    → answer (rows ++ r ∷ []) x ≡ (if is_none (answer rows x) && answers_for x (unended rows ++ r ∷ [])
    then last_upto x (unended rows ++ r ∷ []) else answer rows x)
answer-push_end rows r x ends =
    ap (λ ss. answer_among ss x) (sequences-push_end [] rows r ends)
    ∙ answer_among-push (sequences rows) (unended rows ++ r ∷ []) x

pub answer-push : (rows : List Row) (r : Row) (x : Place) → r.end_sequence ≡ false
    → answer (rows ++ r ∷ []) x ≡ answer rows x
answer-push rows r x more = ap (λ ss. answer_among ss x) (sequences-push [] rows r more)
