-- Starts of a column, halved until those that are left lie in one piece.
use Rattle.std.proofs.Common.{◌≡◌, ℕ, suc, ◌+◌, ◌-◌, ◌<◌, ◌≤◌, ◌⊎◌, inl, inr, sym, ap, subst, arith, ⊎_elim}
use Rattle.std.proofs.lemmas.Bool.{cases_eq}
use Rattle.std.proofs.lemmas.Bool.Decides.{leb_tells}
use Rattle.dl_index.specs.LookUp.{Rise, IsLastUpto, FindsLast}
use Rattle.dl_index_file.specs.Narrowed.{Narrowed}

lt_or_le : (m n : ℕ) → (m < n) ⊎ (n ≤ m)
lt_or_le m n = ⊎_elim (λ u. inr u.1) (λ a. inl a.1) (leb_tells n m)

module _ (start : ℕ → ℕ) (count x low left : ℕ) (within : low + left ≤ count) (some : 0 < left)
    (n : Narrowed start count x low left) where
  pub goes_up : (half : ℕ) → half ≤ left → start (low + half) ≤ x → Narrowed start count x (low + half) (left - half)
  goes_up half part upto =
      let e : low + half + (left - half) ≡ low + left = omega arith in
      record {
        upto = λ first. upto;
        next = λ rise less. subst (λ i. x < start i) (sym e) (n.next rise (omega arith));
      }

  pub goes_down : (half : ℕ) → half ≤ left - half → x < start (low + half) → Narrowed start count x low (left - half)
  goes_down half part above =
      record {
        upto = n.upto;
        next = λ rise less.
            ⊎_elim
            (λ here. subst (λ i. x < start i) here above)
            (λ ne. (let r = rise (low + half) (low + (left - half)) (omega arith) less in omega arith))
            (cases_eq (low + half) (low + (left - half)));
      }

  -- the last one of those that are left is the last one of all
  pub narrows : (start' : ℕ → ℕ) (k : ℕ) → ((j : ℕ) → j < left → start' j ≡ start (low + j))
      → FindsLast start' left x k → FindsLast start count x (low + k)
  narrows start' k same found =
      let less = found.within in
      let e : low + 0 ≡ low = omega arith in
      let last : Rise start count → start 0 ≤ x → IsLastUpto start' left x k =
      λ rise first.
      found.last
      (λ i j before inside.
      (let r = rise (low + i) (low + j) (omega arith) (omega arith) in
      let si = same i (omega arith) in
      let sj = same j inside in
      omega arith))
      (let s0 = same 0 some in let u = n.upto first in let z = ap start e in omega arith) in
      record {
        within = omega arith;
        last = λ rise first.
            record {
              within = omega arith;
              upto = (let u = (last rise first).upto in let s = same k less in omega arith);
              next = λ more.
                  (let e' : suc (low + k) ≡ low + suc k = omega arith in
                  ⊎_elim
                  (λ (inside : suc k < left).
                  (let u = (last rise first).next inside in
                  let s = same (suc k) inside in
                  let z = ap start e' in
                  omega arith))
                  (λ (outside : left ≤ suc k).
                  (let e'' : low + left ≡ suc (low + k) = omega arith in
                  subst (λ i. x < start i) e'' (n.next rise (omega arith))))
                  (lt_or_le (suc k) left));
            };
      }
