-- The lines of stretches, one after the other.
use Rattle.std.proofs.Common.{◌≡◌, ◌∙◌, ◌+◌, ◌-◌, ◌<◌, ◌≤◌, ℕ, suc, List, [], ◌++◌, Option, Some, None, sym, ap}
use Rattle.std.proofs.Common.{arith, inl, inr, map}
use Rattle.std.proofs.Math.Nat.{eq-or-lt_of_le}
use Rattle.std.specs.Prelude.{◌^◌, ◌⊎◌, unwrap_or}
use Rattle.std.specs.List.{range_with_len}
use Rattle.dl_index.specs.IsIndex.{IsIndex}
use Rattle.dl_index.specs.Layout.{base_in, count_in, start_in}
use Rattle.dl_index.specs.Stretches.{Told}
use Rattle.dl_index.specs.Telling.{IsStart, stretch_in, told_in}
use Rattle.dl_listing.specs.Lines.{line_of, stretches_from}
use Rattle.dl_listing.specs.Listing.{begins_at, listing, stretch_line, stretch_lines}

one_less : (n k : ℕ) → k < n → n - k ≡ suc (n - (k + 1))
one_less n k lt = omega arith

no_more : (n k : ℕ) → n ≤ k → n - k ≡ 0
no_more n k le = omega arith

all_of : (n : ℕ) → n ≡ n - 0
all_of n = omega arith

module _ (b : List ℕ) where
  pub from_the_first : listing b ≡ stretch_lines (stretches_from b 0)
  from_the_first = ap (λ (n : ℕ). stretch_lines (map (stretch_in b) (range_with_len 0 n))) (all_of (count_in b))

  -- a line, and those after it
  pub line_first : (k : ℕ) → k < count_in b
      → stretch_lines (stretches_from b k) ≡ line_of b k ++ stretch_lines (stretches_from b (k + 1))
  line_first k lt =
      ap (λ (n : ℕ). stretch_lines (map (stretch_in b) (range_with_len k n))) (one_less (count_in b) k lt)

  pub no_line : (k : ℕ) → count_in b ≤ k → stretch_lines (stretches_from b k) ≡ []
  no_line k le = ap (λ (n : ℕ). stretch_lines (map (stretch_in b) (range_with_len k n))) (no_more (count_in b) k le)

  begins : (k : ℕ) → k < count_in b → begins_at (stretches_from b k) ≡ base_in b + start_in b k
  begins k lt = ap (λ (n : ℕ). begins_at (map (stretch_in b) (range_with_len k n))) (one_less (count_in b) k lt)

  begins_last : (k : ℕ) → count_in b ≤ k → begins_at (stretches_from b k) ≡ 2 ^ 64
  begins_last k le = ap (λ (n : ℕ). begins_at (map (stretch_in b) (range_with_len k n))) (no_more (count_in b) k le)

  -- the stretch after k is the first of those after it; where there is none, k is the last one
  end_is : (k : ℕ) (end : Option ℕ) → IsIndex b → k < count_in b → IsStart b (k + 1) end
      → unwrap_or end (2 ^ 64) ≡ begins_at (stretches_from b (k + 1))
  end_is k (Some a) index lt (less, is) = is ∙ sym (begins (k + 1) less)
  end_is k None index lt (inl le) = sym (begins_last (k + 1) le)
  end_is k None index lt (inr above) = last (eq-or-lt_of_le next) where
    next : k + 1 ≤ count_in b
    next = omega (arith, lt)

    last : ((k + 1) ≡ count_in b) ⊎ (k + 1 < count_in b) → 2 ^ 64 ≡ begins_at (stretches_from b (k + 1))
    last (inl e) = sym (begins_last (k + 1) (omega (arith, e)))
    last (inr less) = absurd (let below = index.ordered.top (k + 1) less in omega (arith, above, below))

  pub stretch_is : (k start : ℕ) (end : Option ℕ) (told : Option Told) → IsIndex b → k < count_in b
      → IsStart b k (Some start) → IsStart b (k + 1) end → told ≡ told_in b k
      → stretch_line start (unwrap_or end (2 ^ 64)) told ≡ line_of b k
  stretch_is k start end told index lt (within, starts) ends tells =
      ap (λ (a : ℕ). stretch_line a (unwrap_or end (2 ^ 64)) told) starts
      ∙ ap (λ (a : ℕ). stretch_line (base_in b + start_in b k) a told) (end_is k end index lt ends)
      ∙ ap (stretch_line (base_in b + start_in b k) (begins_at (stretches_from b (k + 1)))) tells
