-- Bits that are read one after the other.
use Rattle.std.proofs.Common.{◌≡◌, ◌∙◌, ℕ, ◌+◌, ◌<◌, ◌⊎◌, ◌≢◌, List, Bool, true, false, length, inl, inr, sym, ap, arith, get_or-set_other}
use Rattle.std.specs.Prelude.{◌==◌, ◌/◌, ◌^◌, bit_and, slice_index_or, slice_set}
use Rattle.std.specs.Int.{bit_at}
use Rattle.std.proofs.lemmas.Bool.{cases_Bool, eqb-true, eqb-false}
use Rattle.std.proofs.lemmas.Grind.{get_or-set_at}
use Rattle.std.proofs.lemmas.Nat.Bits.{shr_and_one}

abbrev pub AreRead : (bits : ℕ) (has : List Bool) (place : ℕ) → Type 0
AreRead bits has place = (k : ℕ) → k < place → slice_index_or has k false ≡ (bit_at bits k == 1)

pub one_more : (bits : ℕ) (has : List Bool) (place : ℕ) → place < length has → AreRead bits has place
    → AreRead bits (slice_set has place (bit_and (bits / 2 ^ place) 1 == 1)) (place + 1)
one_more bits has place within read k lt = by (cases_Bool (k == place)) where
  told : Bool
  told = bit_and (bits / 2 ^ place) 1 == 1

  by : ((k == place) ≡ true) ⊎ ((k == place) ≡ false)
      → slice_index_or (slice_set has place (bit_and (bits / 2 ^ place) 1 == 1)) k false ≡ (bit_at bits k == 1)
  by (inl same) =
      let e = eqb-true k place same in
      get_or-set_at has place k (bit_and (bits / 2 ^ place) 1 == 1) false e (omega (arith, within))
      ∙ ap (λ (n : ℕ). n == 1) (shr_and_one bits place)
      ∙ ap (λ (n : ℕ). bit_at bits n == 1) (sym e)
  by (inr other) =
      let ne : k ≢ place = eqb-false k place other in
      get_or-set_other has place k (bit_and (bits / 2 ^ place) 1 == 1) false ne ∙ read k (omega (arith, lt, ne))
