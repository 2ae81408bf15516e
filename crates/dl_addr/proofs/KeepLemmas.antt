-- What a locator keeps at the end of a unit.
use Rattle.std.proofs.Common.{◌≡◌, ◌<◌, ℕ, List, length, slice_index_or, Option, Result, Ok, Err, arith, subst}
use Rattle.std.specs.Prelude.{⊤, OnOk, OnErr}
use Rattle.std.proofs.lemmas.Option.{slice_get_within}
use Rattle.dl_rows.specs.declared.row.Row.{Row}
use Rattle.dl_memory.specs.declared.memory.NoMemory.{NoMemory}
use Rattle.dl_look.specs.declared.ledger.Answered.{Answered}
use Rattle.dl_look.specs.declared.place.Place.{Place}
use Rattle.dl_look.specs.Ledgers.{no_answer}
use Rattle.dl_look.specs.Units.{AreFirstAnswers, FirstAnswer}
use Rattle.dl_addr.specs.declared.kept.PathUnit.{PathUnit}
use Rattle.dl_addr.specs.declared.kept.Paths.{Paths}
use Rattle.dl_addr.specs.Texts.{AreNumbers, IsKept, IsOther}

pub on_ok : {A B : Type 0} (r : Result ⊤ NoMemory) → OnOk r A → (A → B) → OnOk r B
on_ok (Ok u) a f = f a
on_ok (Err e) a f = tt

pub on_err : {A E B : Type 0} (r : Result A E) → B → OnErr r B
on_err (Ok u) b = tt
on_err (Err e) b = b

module _ (places : List Place) (units : List (List Row)) (rows : List Row) (answered : List Answered)
    (are : AreFirstAnswers places units rows answered) where
  -- a place that has no first answer is none of those
  pub is_other : (i : ℕ) → ((r : Row) → FirstAnswer places units rows i r → ⊥) → IsOther answered (length answered) i
  is_other i none j lt same =
      none (slice_index_or answered j no_answer).row
      (subst (λ n. FirstAnswer places units rows n (slice_index_or answered j no_answer).row) same
      (are.right j no_answer lt))

  pub numbers : (kept : List ℕ) → length kept ≡ length places → AreNumbers answered kept
  numbers kept count = record {
    once = λ j m lt lt' same. are.once j m no_answer lt lt' same;
    within =
        λ j lt. (let f = are.right j no_answer lt in
        let w = slice_get_within places (slice_index_or answered j no_answer).number f.0 f.1 in omega (arith, count));
  }

  -- each that has one is kept
  pub is_kept : (paths : Paths) (kept : List ℕ) (path : Row → Option (List ℕ) × PathUnit)
      → ((j : ℕ) → j < length answered
      → IsKept paths kept (slice_index_or answered j no_answer).number (path (slice_index_or answered j no_answer).row))
      → (i : ℕ) (r : Row) → FirstAnswer places units rows i r → IsKept paths kept i (path r)
  is_kept paths kept path each i r f =
      let k = are.all i r f in
      subst (λ (a : Answered). IsKept paths kept a.number (path a.row)) (k.2 no_answer) (each k.0 k.1)

  pub none_kept : length answered ≡ 0 → (i : ℕ) (r : Row) → FirstAnswer places units rows i r → ⊥
  none_kept empty i r f = let k = are.all i r f in let lt = k.1 in omega (arith, empty)

  pub some_first : 0 < length answered → (i : ℕ) × (r : Row) × FirstAnswer places units rows i r
  some_first lt = (
    (slice_index_or answered 0 no_answer).number,
    (slice_index_or answered 0 no_answer).row,
    are.right 0 no_answer lt,
  )
