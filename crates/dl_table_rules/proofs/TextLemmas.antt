-- Where the texts of a section end.
use Rattle.std.proofs.Common.{◌≡◌, ◌∙◌, ℕ, ◌+◌, ◌-◌, ◌<◌, ◌≤◌, false, List, [], ◌∷◌, length, drop, Option, Some, None}
use Rattle.std.proofs.Common.{refl, sym, ap, arith, inl, inr, get_or, zero, suc}
use Rattle.std.specs.Prelude.{◌==◌, ◌≢◌, is_none, nat_le, option_map}
use Rattle.std.proofs.lemmas.Bool.{cases_Bool, leb-false, leb-true}
use Rattle.std.proofs.lemmas.List.{get_or-drop, length-drop}
use Rattle.dl_table.specs.Text.{text_at, text_in}

-- no byte from a place on is zero
abbrev pub NoneFrom : List ℕ → ℕ → Type 0
NoneFrom w place = (k : ℕ) → place ≤ k → k < length w → get_or w k 0 ≢ 0

not_some : (b : ℕ) (o : Option (List ℕ)) → is_none (option_map (λ text. b ∷ text) o) ≡ is_none o
not_some b None = refl
not_some b (Some w) = refl

-- without a zero byte there is no text
no_text : (w : List ℕ) → ((k : ℕ) → k < length w → get_or w k 0 ≢ 0) → text_in w ≡ None
no_text [] none = refl
no_text (b ∷ w) none = elim (cases_Bool (b == 0)) [
  | inl is ↦ absurd (none 0 (omega arith) (grind (arith, is)))
  | inr other ↦ rw other (ap (option_map (λ text. b ∷ text)) (no_text w (λ k lt. none (suc k) (omega (arith, lt)))))
]

-- a zero byte ends one
a_text : (w : List ℕ) (k : ℕ) → k < length w → get_or w k 0 ≡ 0 → is_none (text_in w) ≡ false
a_text [] k lt zero_at = absurd (omega (arith, lt))
a_text (b ∷ w) zero lt zero_at = rw zero_at refl
a_text (b ∷ w) (suc k) lt zero_at = elim (cases_Bool (b == 0)) [
  | inl is ↦ rw is refl
  | inr other ↦ rw other (not_some b (text_in w) ∙ a_text w k (omega (arith, lt)) zero_at)
]

-- a section has a text at an offset just where a zero byte follows
pub texts_before : (w : List ℕ) (end : ℕ) → NoneFrom w end → (0 < end → (end ≤ length w) × (get_or w (end - 1) 0 ≡ 0))
    → (n : ℕ) → is_none (text_at w n) ≡ nat_le end n
texts_before w end none last n = elim (cases_Bool (nat_le end n)) [
  | inl past ↦
      let le : end ≤ n = leb-true end n past in
      ap is_none (no_text (drop n w) (λ k lt is. none (n + k) (omega (arith, le)) (omega (arith, lt, length-drop n w))
      (sym (get_or-drop n w k 0) ∙ is))) ∙ sym past
  | inr before ↦
      let lt : n < end = leb-false end n before in
      let zero_at = last (omega (arith, lt)) in
      let m : n + (end - 1 - n) ≡ end - 1 = omega (arith, lt) in
      a_text (drop n w) (end - 1 - n) (omega (arith, lt, zero_at.0, length-drop n w))
      (get_or-drop n w (end - 1 - n) 0 ∙ ap (λ i. get_or w i 0) m ∙ zero_at.1)
      ∙ sym before
]
