-- The texts of a string section end at its zero bytes.
use Rattle.std.proofs.Common.{◌≡◌, ℕ, inl, inr, eqb, cond, List, [], ◌∷◌, ◌++◌, length, drop, Option, Some, option_map}
use Rattle.std.proofs.Common.{arith, sym, ap, ◌∙◌, length-append}
use Rattle.std.proofs.lemmas.Bool.{ne_eqb, cases_lt}
use Rattle.std.proofs.lemmas.List.{drop-append-le}
use Rattle.std.proofs.Math.ListN.{drop_of_length-le}
use Rattle.dl_table.specs.Text.{text_in, text_at}

-- a last byte that isn't zero ends no text
text_in-push : (w : List ℕ) (b : ℕ) → (b ≡ 0 → ⊥) → text_in (w ++ b ∷ []) ≡ text_in w
text_in-push [] b some = rw (ne_eqb b 0 some)
text_in-push (c ∷ w) b some =
    ap (λ (o : Option (List ℕ)). cond (eqb c 0) (Some []) (option_map (λ text. c ∷ text) o)) (text_in-push w b some)

pub text_at-push : (w : List ℕ) (b n : ℕ) → (b ≡ 0 → ⊥) → text_at (w ++ b ∷ []) n ≡ text_at w n
text_at-push w b n some = elim (cases_lt (length w) n) [
  | inl past ↦ ap text_in (drop_of_length-le (w ++ b ∷ []) (omega (arith, past, length-append w (b ∷ [])))
      ∙ sym (drop_of_length-le w (omega (arith, past))))
  | inr within ↦ ap text_in (drop-append-le n w (b ∷ []) within) ∙ text_in-push (drop n w) b some
]
