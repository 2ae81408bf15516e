-- Laws of the definitions of numbers.
use Rattle.std.specs.Prelude.{◌≡◌, ℕ, ◌^◌, ◌<◌, ◌↔◌, ℤ, List, [], ◌∷◌, ◌++◌, length, Option, None, IsTrue}
use Rattle.dl_num.specs.declared.fixed.Order.{Order}
use Rattle.dl_num.specs.Fixed.{fixed, fixed_bytes}
use Rattle.dl_num.specs.Leb.{groups, IsUleb, IsSleb, IsShortestUleb, IsShortestSleb}
use Rattle.dl_num.specs.Shortest.{shortest_uleb, shortest_sleb}
use Rattle.dl_num.specs.LebFront.{is_leb, leb_front, after_leb}
use Rattle.dl_num.specs.Front.{IsCut, standing}
use Rattle.dl_num.specs.Steps.{Verdict, EndsWith}

-- each element is below 256
abbrev pub AllBytes : List ℕ → Type 0
AllBytes [] = Unit {0}
AllBytes (b ∷ bs) = (b < 256) × AllBytes bs

-- a spelling has one value
abbrev pub OneUnsignedValue : Type 0
OneUnsignedValue = (w : List ℕ) (m n : ℕ) → IsUleb w m → IsUleb w n → m ≡ n

abbrev pub OneSignedValue : Type 0
OneSignedValue = (w : List ℕ) (i j : ℤ) → IsSleb w i → IsSleb w j → i ≡ j

-- no spelling begins another
abbrev pub NoUlebBeginsAnother : Type 0
NoUlebBeginsAnother = (w v : List ℕ) (m n : ℕ) → IsUleb w m → IsUleb (w ++ v) n → v ≡ []

abbrev pub NoSlebBeginsAnother : Type 0
NoSlebBeginsAnother = (w v : List ℕ) (i j : ℤ) → IsSleb w i → IsSleb (w ++ v) j → v ≡ []

-- the test is true of spellings, and of nothing else
abbrev pub LebIsTested : Type 0
LebIsTested = (w : List ℕ) (n : ℕ) → IsUleb w n ↔ (IsTrue (is_leb w) × (n ≡ groups w))

-- the front of a spelling and what follows it is the spelling
abbrev pub LebIsFront : Type 0
LebIsFront = (w v : List ℕ) (n : ℕ) → IsUleb w n → (leb_front (w ++ v) ≡ w) × (after_leb (w ++ v) ≡ v)

-- the computed shortest spelling is one
abbrev pub ComputedIsShortest : Type 0
ComputedIsShortest = (n : ℕ) → IsShortestUleb (shortest_uleb n) n

abbrev pub ComputedSlebIsShortest : Type 0
ComputedSlebIsShortest = (i : ℤ) → IsShortestSleb (shortest_sleb i) i

-- a number is spelled by its bytes, and bytes are those of the number that they spell
abbrev pub FixedReadsBack : Type 0
FixedReadsBack = (order : Order) (k n : ℕ) → n < 256 ^ k → fixed order (fixed_bytes order k n) ≡ n

abbrev pub FixedHasItsSize : Type 0
FixedHasItsSize = (order : Order) (k n : ℕ) → length (fixed_bytes order k n) ≡ k

abbrev pub BytesReadBack : Type 0
BytesReadBack = (order : Order) (w : List ℕ) → AllBytes w → fixed_bytes order (length w) (fixed order w) ≡ w

-- k bytes spell a number below 256^k
abbrev pub FixedIsBelow : Type 0
FixedIsBelow = (order : Order) (w : List ℕ) → AllBytes w → fixed order w < 256 ^ length w

-- there is one cut of any bytes, the computed one, where nothing spells the empty list
abbrev pub CutIsStanding : (A : Type 0) → Type 0
CutIsStanding A =
    (spelt : List ℕ → Option A) (b : List ℕ) (found : List A) (rest : List ℕ) → ◌≡◌ {A = Option A} (spelt []) None
    → IsCut spelt b found rest ↔ (standing spelt b ≡ record { found = found; rest = rest })

-- bytes that end a run of a step begin no others that do
abbrev pub OneEnd : (S R : Type 0) → Type 0
OneEnd S R = (step : S → ℕ → Verdict S R) (p : S) (w v : List ℕ) (r t : R)
    → EndsWith step p w r → EndsWith step p (w ++ v) t → (v ≡ []) × (r ≡ t)
