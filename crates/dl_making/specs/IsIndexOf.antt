-- The index of what is told of addresses.
use Rattle.std.specs.Prelude.{◌≡◌, ◌≢◌, ℕ, ◌<◌, ◌^◌, Bool, false, is_none, List, [], ◌∷◌, Option}
use Rattle.dl_index.specs.Stretches.{Told, Stretch}
use Rattle.dl_index.specs.IsIndex.{IsIndex}
use Rattle.dl_index.specs.Telling.{find_in, stretches_in}
use Rattle.dl_stretch.specs.declared.stretch.Stretch as kept
use Rattle.dl_stretch.specs.Stretches.{Neighbours}
use Rattle.dl_pack.specs.declared.names.FileTexts.{FileTexts}
use Rattle.dl_pack.specs.IndexOf.{index_of}

-- the later stretch begins above the other, and they differ in what they tell
abbrev pub Apart : Stretch → Stretch → Type 0
Apart s t = (s.start < t.start) × (s.told ≢ t.told)

abbrev pub is_gap_first : List Stretch → Bool
is_gap_first [] = false
is_gap_first (s ∷ stretches) = is_none s.told

-- well-formed bytes that answer each address with what f tells of it, by stretches that are as long as can be, written in
-- the one way in which an index is written
pub record IsIndexOf (all : Bool) (build_id : List ℕ) (f : ℕ → Option Told) (b : List ℕ) : Type 0 where
  pub is_index : IsIndex b
  pub right : (a : ℕ) → a < 2 ^ 64 → find_in b a ≡ f a
  pub apart : Neighbours Apart (stretches_in b)
  pub first : is_gap_first (stretches_in b) ≡ false
  pub stretches : List kept.Stretch
  pub files : List FileTexts
  pub texts : List (List ℕ)
  pub written : b ≡ index_of all build_id stretches files texts
