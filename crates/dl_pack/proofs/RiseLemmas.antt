-- Starts that rise.
use Rattle.std.proofs.Common.{◌≡◌, ℕ, zero, suc, ◌<◌, ◌≤◌, List, [], ◌∷◌, length, get_or, arith, refl}
use Rattle.dl_stretch.specs.declared.stretch.Stretch.{Stretch}
use Rattle.dl_pack.specs.IndexOf.{base_of}
use Rattle.dl_pack.specs.Telling.{StretchesRise}
use Rattle.dl_pack.proofs.ReadLemmas.{no_stretch}

abbrev pub start_at : List Stretch → ℕ → ℕ
start_at stretches k = (get_or stretches k no_stretch).start

above_first : (s : Stretch) (stretches : List Stretch) (k : ℕ) → StretchesRise (s ∷ stretches) → k < length stretches
    → s.start < start_at stretches k
above_first s [] k rise lt = absurd (omega arith)
above_first s (t ∷ stretches) zero (less, rise) lt = less
above_first s (t ∷ stretches) (suc k) (less, rise) lt = omega (arith, less, above_first t stretches k rise (omega arith))

rest_rises : (s : Stretch) (stretches : List Stretch) → StretchesRise (s ∷ stretches) → StretchesRise stretches
rest_rises s [] rise = tt
rest_rises s (t ∷ stretches) (less, rise) = rise

-- each is above all before it
pub start_above : (stretches : List Stretch) (j k : ℕ) → StretchesRise stretches → j < k → k < length stretches
    → start_at stretches j < start_at stretches k
start_above [] j k rise less lt = absurd (omega arith)
start_above (s ∷ stretches) j zero rise less lt = absurd (omega arith)
start_above (s ∷ stretches) zero (suc k) rise less lt = above_first s stretches k rise (omega arith)
start_above (s ∷ stretches) (suc j) (suc k) rise less lt =
    start_above stretches j k (rest_rises s stretches rise) (omega arith) (omega arith)

pub base_upto : (stretches : List Stretch) (k : ℕ) → StretchesRise stretches → k < length stretches
    → base_of stretches ≤ start_at stretches k
base_upto [] k rise lt = absurd (omega arith)
base_upto (s ∷ stretches) zero rise lt = omega arith
base_upto (s ∷ stretches) (suc k) rise lt = omega (arith, above_first s stretches k rise (omega arith))

pub base_first : (stretches : List Stretch) → base_of stretches ≡ start_at stretches 0
base_first [] = refl
base_first (s ∷ stretches) = refl
