-- A link that is made to lead further.
use Rattle.std.proofs.Common.{◌≡◌, ℕ, ◌<◌, ◌≤◌, ◌≢◌, true, false, length, get_or, arith, sym, ap, ◌∙◌}
use Rattle.std.proofs.Common.{⊎_elim, length-set, get_or-set_same, get_or-set_other}
use Rattle.std.specs.Prelude.{◌==◌}
use Rattle.std.specs.Vec.{with_item}
use Rattle.std.proofs.lemmas.Bool.{cases_eq, cases_lt, ne_eqb}
use Rattle.dl_look.specs.declared.links.Links.{Links}
use Rattle.dl_look.specs.Links.{IsLinked, is_open, is_sealed}

-- that of a slot to where the link of the next one leads, which is sealed where the slot is
module _ (old : Links) (at next further : ℕ) (linked : IsLinked old) (lt : at < length old.next.items)
    (is_next : next ≡ get_or old.next.items at 0) (is_further : further ≡ get_or old.next.items next 0)
    (moves : next ≢ at)
    (steady : is_sealed old.sealed.items at ≡ true → is_sealed old.sealed.items next ≡ true) where
  abbrev new : Links
  new = record { next = with_item old.next at further; sealed = old.sealed }

  pub same_length : length new.next.items ≡ length old.next.items
  same_length = length-set old.next.items at further

  new_at : get_or new.next.items at 0 ≡ further
  new_at = get_or-set_same old.next.items at further 0 lt

  new_other : (j : ℕ) → j ≢ at → get_or new.next.items j 0 ≡ get_or old.next.items j 0
  new_other j ne = get_or-set_other old.next.items at j further 0 ne

  above : at < next
  above = omega (arith, linked.ahead at lt)

  next_within : next < length old.next.items
  next_within = omega (arith, linked.within at lt)

  onward : next ≤ further
  onward = omega (arith, linked.ahead next next_within)

  pub same_open : (j : ℕ) → is_open new.next.items j ≡ is_open old.next.items j
  same_open j =
      ⊎_elim
      (λ is. ap (is_open new.next.items) is
      ∙ ne_eqb (get_or new.next.items at 0) at (omega (arith, new_at, above, onward))
      ∙ sym (ap (is_open old.next.items) is ∙ ne_eqb (get_or old.next.items at 0) at (omega (arith, above))))
      (λ ne. ap (λ n. n == j) (new_other j ne))
      (cases_eq j at)

  over_open : (j k : ℕ) → j < length old.next.items → j ≤ k → k < get_or new.next.items j 0
      → is_open old.next.items k ≡ false
  over_open j k less from to =
      ⊎_elim
      (λ is. let there : get_or new.next.items j 0 ≡ further = ap (λ i. get_or new.next.items i 0) is ∙ new_at in
      ⊎_elim
      (λ before. linked.over at k lt (omega arith) (omega arith))
      (λ after. linked.over next k next_within after (omega arith))
      (cases_lt k next))
      (λ ne. linked.over j k less from (omega (arith, new_other j ne)))
      (cases_eq j at)

  over_sealed : (j k : ℕ) → j < length old.next.items → is_sealed old.sealed.items j ≡ true → j ≤ k
      → k < get_or new.next.items j 0 → is_sealed old.sealed.items k ≡ true
  over_sealed j k less seal from to =
      ⊎_elim
      (λ is. let there : get_or new.next.items j 0 ≡ further = ap (λ i. get_or new.next.items i 0) is ∙ new_at in
      let here : is_sealed old.sealed.items at ≡ true = ap (is_sealed old.sealed.items) (sym is) ∙ seal in
      ⊎_elim
      (λ before. linked.sealed at k lt here (omega arith) (omega arith))
      (λ after. linked.sealed next k next_within (steady here) after (omega arith))
      (cases_lt k next))
      (λ ne. linked.sealed j k less seal from (omega (arith, new_other j ne)))
      (cases_eq j at)

  pub further_on : IsLinked new
  further_on =
      record {
        count = linked.count ∙ sym same_length;
        ahead = λ j less. ⊎_elim
            (λ is. omega (arith, ap (λ i. get_or new.next.items i 0) is, new_at, above, onward))
            (λ ne. omega (arith, new_other j ne, linked.ahead j (omega (arith, same_length))))
            (cases_eq j at);
        within = λ j less. ⊎_elim
            (λ is. omega (
              arith,
              ap (λ i. get_or new.next.items i 0) is,
              new_at,
              same_length,
              linked.within next next_within,
            ))
            (λ ne. omega (arith, new_other j ne, same_length, linked.within j (omega (arith, same_length))))
            (cases_eq j at);
        over = λ j k less from to. same_open k ∙ over_open j k (omega (arith, same_length)) from to;
        shut = λ j less seal. same_open j ∙ linked.shut j (omega (arith, same_length)) seal;
        sealed = λ j k less seal from to. over_sealed j k (omega (arith, same_length)) seal from to;
      }
