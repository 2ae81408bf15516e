-- The number that a whole list of bytes spells is the one that byteorder reads at its front;
-- a number's bytes, the lowest first.
use Rattle.std.proofs.Common.{◌≡◌, ℕ, suc, ◌/◌, ◌%◌, List, [], ◌∷◌, ◌++◌, length, refl, ◌∙◌, append_assoc}
use Rattle.byteorder.specs.Endian.{little_from, big_from}
use Rattle.byteorder.specs.Numbers.{little_from-cons, big_from-cons}
use Rattle.dl_num.specs.Fixed.{little, big, little_bytes}

pub little_from-all : (bytes : List ℕ) → little_from 0 (length bytes) bytes ≡ little bytes
little_from-all [] = refl
little_from-all (b ∷ bytes) = rw (little_from-cons 0 (length bytes) b bytes, little_from-all bytes) refl

pub big_from-all : (bytes : List ℕ) → big_from 0 (length bytes) bytes ≡ big bytes
big_from-all [] = refl
big_from-all (b ∷ bytes) = rw (big_from-cons 0 (length bytes) b bytes, big_from-all bytes) refl

-- the low byte of a number, and those of what is left
pub little-more : (items whole : List ℕ) (k rest : ℕ) → items ++ little_bytes (suc k) rest ≡ whole
    → (items ++ rest % 256 ∷ []) ++ little_bytes k (rest / 256) ≡ whole
little-more items whole k rest h = append_assoc items (rest % 256 ∷ []) (little_bytes k (rest / 256)) ∙ h
