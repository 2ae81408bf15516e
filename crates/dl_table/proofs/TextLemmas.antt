-- A text up to the next zero byte.
use Rattle.std.proofs.Common.{◌≡◌, ◌≤◌, ℕ, suc, ◌+◌, Bool, true, false, cond, not, eqb, ltb, List, [], ◌∷◌, length, take, drop}
use Rattle.std.proofs.Common.{Option, Some, None, option_map, refl, inl, inr, arith, length-drop}
use Rattle.std.specs.Prelude.{◌==◌, IfSome}
use Rattle.std.specs.List.{position, position_or_len}
use Rattle.std.proofs.lemmas.Bool.{lt-ltb, le-ltb, cases_lt}
use Rattle.dl_table.specs.Text.{text_at, text_in}

-- the text ends before the first zero byte
pub text_in-position : (w : List ℕ) → text_in w ≡ option_map (λ n. take n w) (position (λ b. eqb b 0) w)
text_in-position [] = refl
text_in-position (b ∷ w) =
    let p = position_or_len (λ c. eqb c 0) w in
    elim (eqb b 0) as (λ z. cond z (Some []) (option_map (λ t. b ∷ t) (text_in w))
    ≡ option_map (λ n. take n (b ∷ w))
    (cond (ltb (cond (not z) (1 + p) 0) (suc (length w))) (Some (cond (not z) (1 + p) 0)) None)) [
      | true ↦ rw (lt-ltb 0 (suc (length w)) (omega arith))
      | false ↦ rw (text_in-position w) (elim (cases_lt p (length w)) [
        | inl below ↦ let e : 1 + p ≡ suc p = omega arith in
            rw (lt-ltb p (length w) below, lt-ltb (1 + p) (suc (length w)) (omega arith), e)
        | inr above ↦ rw (le-ltb p (length w) above, le-ltb (1 + p) (suc (length w)) (omega arith))
      ])
    ]

-- ---- how long texts are

-- a text has no more bytes than so many, where there is one
abbrev pub Few : (most : ℕ) → Option (List ℕ) → Type 0
Few most o = IfSome o (λ w. length w ≤ most)

pub fewer : (a b : ℕ) (o : Option (List ℕ)) → Few a o → a ≤ b → Few b o
fewer a b None few le = tt
fewer a b (Some w) few le = omega (arith, few, le)

text_in_few : (b : List ℕ) → Few (length b) (text_in b)
text_in_few [] = tt
text_in_few (x ∷ b) = by (x == 0) (text_in b) (text_in_few b) where
  by : (is : Bool) (o : Option (List ℕ)) → Few (length b) o
      → Few (suc (length b)) (cond is (Some []) (option_map (λ t. x ∷ t) o))
  by true o few = omega arith
  by false None few = tt
  by false (Some w) few = omega (arith, few)

-- that at an offset has no more than the section
pub text_at_few : (b : List ℕ) (n : ℕ) → Few (length b) (text_at b n)
text_at_few b n =
    fewer (length (drop n b)) (length b) (text_at b n) (text_in_few (drop n b)) (omega (arith, length-drop n b))
