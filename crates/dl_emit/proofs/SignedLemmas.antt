-- The bytes of numbers that have one group, and of signed ones that have two.
use Rattle.std.proofs.Common.{◌≡◌, ℕ, ◌+◌, ◌*◌, ◌/◌, ◌%◌, ◌<◌, ◌≤◌, zero, suc, Bool, true, false, List, [], ◌∷◌, refl}
use Rattle.std.proofs.Common.{ap, ◌∙◌, arith}
use Rattle.std.proofs.lemmas.Bool.{le-ltb, lt-ltb}
use Rattle.dl_num.specs.Magnitude.{byte_of, signed_value}
use Rattle.dl_num.specs.Shortest.{group_bytes, shortest_sleb, shortest_uleb}

abbrev bytes_on : ℕ → Bool → ℕ → ℕ → Bool → List ℕ
bytes_on end negative count n b =
    elim b [
      | true ↦ byte_of negative n ∷ []
      | false ↦ (128 + byte_of negative (n % 128))
          ∷ group_bytes end negative count (n / 128)
    ]

spelled : (negative : Bool) (n : ℕ) → shortest_sleb (signed_value negative n) ≡ group_bytes 64 negative n n
spelled false n = refl
spelled true n = refl

last_group : (end : ℕ) (negative : Bool) (count n : ℕ) → n < end
    → group_bytes end negative count n ≡ byte_of negative n ∷ []
last_group end negative zero n lt = refl
last_group end negative (suc count) n lt = ap (bytes_on end negative count n) (lt-ltb n end lt)

-- a number of one group
pub one_group : (negative : Bool) (n : ℕ) → n < 64
    → shortest_sleb (signed_value negative n) ≡ byte_of negative n ∷ []
one_group negative n lt = spelled negative n ∙ last_group 64 negative n n lt

-- a number of two groups
pub two_groups : (negative : Bool) (n : ℕ) → 64 ≤ n → n < 64 * 128
    → shortest_sleb (signed_value negative n) ≡ (128 + byte_of negative (n % 128)) ∷ byte_of negative (n / 128) ∷ []
two_groups negative n ge lt = spelled negative n ∙ by n (omega arith) where
  by : (count : ℕ) → 1 ≤ count
      → group_bytes 64 negative count n ≡ (128 + byte_of negative (n % 128)) ∷ byte_of negative (n / 128) ∷ []
  by zero some = absurd (omega arith)
  by (suc count) some =
      ap (bytes_on 64 negative count n) (le-ltb n 64 ge)
      ∙ ap (λ (l : List ℕ). (128 + byte_of negative (n % 128)) ∷ l)
      (last_group 64 negative count (n / 128) (omega arith))

-- an unsigned number of one group
pub one_byte : (n : ℕ) → n < 128 → shortest_uleb n ≡ n ∷ []
one_byte n lt = last_group 128 false n n lt
