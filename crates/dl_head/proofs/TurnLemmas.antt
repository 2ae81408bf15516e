-- Bytes offered in turns, whatever the answers are.
use Rattle.std.proofs.Common.{◌≡◌, ◌+◌, ◌<◌, ◌≤◌, ◌⊎◌, inl, inr, ℕ, Bool, true, false, List, [], ◌∷◌, ◌++◌}
use Rattle.std.proofs.Common.{length, take, drop, slice_index_or, refl, sym, ap, subst, ◌∙◌, arith, append_assoc}
use Rattle.std.proofs.Common.{append-nil, length-take}
use Rattle.std.proofs.lemmas.List.{take_more, drop_more, take-append-drop, take-take, drop-drop}
use Rattle.std.proofs.lemmas.List.Sums.{sum_by-cons}
use Rattle.std.proofs.Math.Seq.{take-add}
use Rattle.dl_head.specs.Turns.{Answer, used_in, last_given, IsTrace}

-- the first k bytes after b, and then i more
pub joined : (b bytes : List ℕ) (k i : ℕ) → (b ++ take k bytes) ++ take i (drop k bytes) ≡ b ++ take (k + i) bytes
joined b bytes k i = rw take-add (append_assoc b (take k bytes) (take i (drop k bytes)))

-- the first bytes of a piece's front are its own
pub front_taken : (piece bytes : List ℕ) (len n : ℕ) → bytes ≡ take len piece → n ≤ length bytes
    → take n bytes ≡ take n piece
front_taken piece bytes len n e le = rw e (take-take n len piece
    (omega (arith, le, ap length e, length-take len piece)))

pub used_cons : {A : Type 0} (a : Answer A) (answers : List (Answer A))
    → used_in (a ∷ answers) ≡ a.used + used_in answers
used_cons {A} a answers = sum_by-cons (λ (c : Answer A). c.used) a answers

pub true_false : {v : Bool} → v ≡ true → v ≡ false → ⊥
true_false {v} t f = (let e : true ≡ false = sym t ∙ f in absurd cc)

pub true_or_false : (v : Bool) → (v ≡ true) ⊎ (v ≡ false)
true_or_false true = inl refl
true_or_false false = inr refl

-- where another turn follows the last answer, one follows the first
pub goes_first : {A : Type 0} (goes_on : A → Bool) (a : Answer A) (answers : List (Answer A))
    → (goes_on a.gave ≡ false → answers ≡ []) → goes_on (last_given a.gave answers) ≡ true → goes_on a.gave ≡ true
goes_first {A} goes_on a answers none goes = elim (true_or_false (goes_on a.gave)) [
  | inl is ↦ is
  | inr is ↦ absurd (true_false (rw (none is) at goes) is)
]

pub last_of_push : {A : Type 0} (first : A) (answers : List (Answer A)) (a : Answer A)
    → last_given first (answers ++ a ∷ []) ≡ a.gave
last_of_push first [] a = refl
last_of_push first (c ∷ answers) a = last_of_push c.gave answers a

-- no turn follows the last answer, unless there are no others
module _ {A : Type 0} (May : List ℕ → List ℕ → Answer A → Type 0) (goes_on : A → Bool) where
  pub trace_on : (b bytes turns : List ℕ) (answers : List (Answer A)) (n : ℕ) (later : List ℕ) (a : Answer A)
      (first : A)
      → IsTrace May goes_on b bytes turns answers → goes_on (last_given first answers) ≡ true
      → May (b ++ take (used_in answers) bytes) (take n (drop (used_in answers) bytes)) a
      → (goes_on a.gave ≡ true → later ≡ [])
      → IsTrace May goes_on b bytes (turns ++ n ∷ later) (answers ++ a ∷ [])
  trace_on b bytes [] [] n later a first t goes may last =
      (rw (append-nil b) at may, λ ends. refl, λ more. rw (last more) refl)
  trace_on b bytes [] (c ∷ answers) n later a first t goes may last = absurd cc
  trace_on b bytes (m ∷ turns) [] n later a first t goes may last = absurd t
  trace_on b bytes (m ∷ turns) (c ∷ answers) n later a first t goes may last =
      let more = goes_first goes_on c answers t.1 goes in (
        t.0,
        λ ends. absurd (true_false more ends),
        λ is. trace_on (b ++ take c.used bytes) (drop c.used bytes) turns answers n later a c.gave (t.2 is) goes
            (rw (
              joined b bytes c.used (used_in answers),
              drop-drop
                  (used_in answers) c.used bytes,
              ← used_cons c answers,
            )
            may) last,
      )

  module _ (b bytes turns : List ℕ) (i : ℕ) (answers : List (Answer A)) (a : Answer A) (first : A)
      (lt : i < length turns)
      (t : IsTrace May goes_on b bytes (take i turns) answers) (goes : goes_on (last_given first answers) ≡ true)
      (may : May (b ++ take (used_in answers) bytes) (take (slice_index_or turns i 0) (drop (used_in answers) bytes)) a)
    where
      -- a turn more
      pub trace_more : IsTrace May goes_on b bytes (take (i + 1) turns) (answers ++ a ∷ [])
      trace_more = subst (λ (l : List ℕ). IsTrace May goes_on b bytes l (answers ++ a ∷ []))
          (sym (take_more turns i 0 lt))
          (trace_on b bytes (take i turns) answers (slice_index_or turns i 0) [] a first t goes may (λ is. refl))

      -- the last turn
      pub trace_last : goes_on a.gave ≡ false → IsTrace May goes_on b bytes turns (answers ++ a ∷ [])
      trace_last ends =
          let later = drop (i + 1) turns in
          let whole : take i turns ++ slice_index_or turns i 0 ∷ later ≡ turns =
          ap (λ (l : List ℕ). take i turns ++ l) (sym (drop_more turns i 0 lt)) ∙ take-append-drop i turns in
          subst (λ (l : List ℕ). IsTrace May goes_on b bytes l (answers ++ a ∷ [])) whole
          (trace_on b bytes (take i turns) answers (slice_index_or turns i 0) later a first t goes may
          (λ is. absurd (true_false is ends)))

module _ {A : Type 0} (May : List ℕ → List ℕ → Answer A → Type 0) (goes_on : A → Bool) where
  -- after the first answer
  pub trace_rest : (b bytes turns : List ℕ) (a : Answer A) (answers : List (Answer A))
      → IsTrace May goes_on b bytes turns (a ∷ answers)
      → (n : ℕ) × (later : List ℕ) × May b (take n bytes) a
      × IsTrace May goes_on (b ++ take a.used bytes) (drop a.used bytes) later answers
  trace_rest b bytes [] a answers t = absurd cc
  trace_rest b bytes (n ∷ turns) a answers t =
      elim (true_or_false (goes_on a.gave)) [ inl is ↦ (n, turns, t.0, t.2 is) | inr is ↦ (n, [], t.0, t.1 is) ]
