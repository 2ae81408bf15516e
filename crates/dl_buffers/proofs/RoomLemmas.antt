-- What is written into a room as far as it fits.
use Rattle.std.proofs.Common.{◌≡◌, ◌<◌, ◌≤◌, ℕ, ◌+◌, ◌-◌, List, [], ◌∷◌, ◌++◌, length, take, drop, arith}
use Rattle.std.proofs.Common.{sym, ap, ap₂, ◌∙◌, append_assoc, length-append, length-drop, length-take, min, ⊎_elim}
use Rattle.std.proofs.Common.{drop-drop}
use Rattle.std.proofs.lemmas.Bool.{cases_lt}
use Rattle.std.proofs.lemmas.List.{drop_all, drop_more, nil_from_length, take_all, take-append-le}
use Rattle.std.proofs.Math.Seq.{set-append_seam, take-append_seam, take-append-add, drop-append_seam}
use Rattle.std.proofs.Math.ListN.{set, get_or}
use Rattle.dl_buffers.specs.UnitCalls.{written_over}

module _ {A : Type 0} where
  pub length-over : (old new : List A) → length (written_over old new) ≡ length old
  length-over old new =
      omega (
        arith,
        length-append (take (length old) new) (drop (length new) old),
        length-take (length old) new,
        length-drop (length new) old,
      )

  -- no element
  pub over_none : (old : List A) → old ≡ written_over old []
  over_none old =
      sym (ap (λ (l : List A). l ++ old) (nil_from_length {X = A} (take (length old) [])
      (omega (arith, length-take {A = A} (length old) []))))

  -- one more element, for which there is room
  pub over_more : (old new : List A) (x : A) → length new < length old
      → set (written_over old new) (length new) x ≡ written_over old (new ++ x ∷ [])
  over_more old new x room =
      let n = length new in
      ap (λ (l : List A). set l n x) (ap₂ (λ (a b : List A). a ++ b)
      (take_all (length old) new (omega (arith, room))) (drop_more old n x room))
      ∙ set-append_seam new (get_or old n x) (drop (n + 1) old) x
      ∙ sym (ap₂ (λ (a b : List A). a ++ b)
      (take_all (length old) (new ++ x ∷ []) (omega (arith, room, length-append new (x ∷ []))))
      (ap (λ (i : ℕ). drop i old) (length-append new (x ∷ []))) ∙ append_assoc new (x ∷ []) (drop (n + 1) old))

  -- more elements, for which there is no room
  pub over_full : (old new more : List A) → length old ≤ length new
      → written_over old new ≡ written_over old (new ++ more)
  over_full old new more full =
      ap₂ (λ (a b : List A). a ++ b) (sym (take-append-le (length old) new more full))
      (drop_all (length new) old full
      ∙ sym (drop_all (length (new ++ more)) old (omega (arith, full, length-append new more))))

  module _ (old new more : List A) (k : ℕ) (room : length new < length old)
      (end : length new + k ≡ min (length old) (length new + length more)) where
    abbrev n : ℕ
    n = length new

    fits : written_over old new ≡ new ++ drop n old
    fits = ap (λ (l : List A). l ++ drop n old) (take_all (length old) new (omega (arith, room)))

    rest : drop k (drop n (written_over old new)) ≡ drop (n + k) old
    rest =
        ap (λ (l : List A). drop k (drop n l)) fits ∙ ap (drop k) (drop-append_seam new (drop n old))
        ∙ drop-drop k n old

    taken : take k more ≡ take (length old - n) more
    taken = ⊎_elim
        (λ (lt : length old < n + length more). ap (λ (i : ℕ). take i more) (omega (arith, lt, room, end)))
        (λ (le : n + length more ≤ length old). take_all k more (omega (arith, le, end))
        ∙ sym (take_all (length old - n) more (omega (arith, le))))
        (cases_lt (length old) (n + length more))

    left : drop (n + k) old ≡ drop (length (new ++ more)) old
    left = ⊎_elim
        (λ (lt : length old < n + length more). drop_all (n + k) old (omega (arith, lt, end))
        ∙ sym (drop_all (length (new ++ more)) old (omega (arith, lt, length-append new more))))
        (λ (le : n + length more ≤ length old). ap (λ (i : ℕ). drop i old)
        (omega (arith, le, end, length-append new more)))
        (cases_lt (length old) (n + length more))

    -- more elements after those that were written
    pub over_added : take n (written_over old new) ++ (take k more ++ drop k (drop n (written_over old new)))
        ≡ written_over old (new ++ more)
    over_added =
        ap₂ (λ (a b : List A). a ++ b) (ap (take n) fits ∙ take-append_seam new (drop n old))
        (ap₂ (λ (a b : List A). a ++ b) taken (rest ∙ left))
        ∙ sym (append_assoc new (take (length old - n) more) (drop (length (new ++ more)) old))
        ∙ ap (λ (l : List A). l ++ drop (length (new ++ more)) old)
        (sym (take-append-add new more (length old - n))
        ∙ ap (λ (i : ℕ). take i (new ++ more)) (omega (arith, room)))
