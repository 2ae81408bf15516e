-- Which slots are open, and which are sealed. No promise rests on this file.
use Rattle.std.specs.Prelude.{◌≡◌, ℕ, ◌<◌, ◌≤◌, Bool, true, false, ◌==◌, List, length, slice_index, slice_index_or}
use Rattle.dl_look.specs.declared.links.Links.{Links}

-- those whose link leads to themselves
abbrev pub is_open : List ℕ → ℕ → Bool
is_open next j = slice_index next j == j

abbrev pub is_sealed : List Bool → ℕ → Bool
is_sealed sealed j = slice_index_or sealed j false

-- a link leads to a slot, no further back, and over no open one; that of a sealed slot over sealed ones alone
pub record IsLinked (links : Links) : Type 0 where
  pub count : length links.sealed.items ≡ length links.next.items
  pub ahead : (j : ℕ) → j < length links.next.items → j ≤ slice_index links.next.items j
  pub within : (j : ℕ) → j < length links.next.items → slice_index links.next.items j < length links.next.items
  pub over : (j k : ℕ) → j < length links.next.items → j ≤ k → k < slice_index links.next.items j
      → is_open links.next.items k ≡ false
  pub shut : (j : ℕ) → j < length links.next.items → is_sealed links.sealed.items j ≡ true
      → is_open links.next.items j ≡ false
  pub sealed : (j k : ℕ) → j < length links.next.items → is_sealed links.sealed.items j ≡ true → j ≤ k
      → k < slice_index links.next.items j → is_sealed links.sealed.items k ≡ true

-- the slots that are neither open nor sealed
pub record AreClosed (links : Links) (slots : List ℕ) : Type 0 where
  pub within : (e : ℕ) → e < length slots → slice_index slots e < length links.next.items
  pub closed : (e : ℕ) → e < length slots → is_open links.next.items (slice_index slots e) ≡ false
  pub unsealed : (e : ℕ) → e < length slots → is_sealed links.sealed.items (slice_index slots e) ≡ false
  pub each : (j : ℕ) → j < length links.next.items → is_open links.next.items j ≡ false
      → is_sealed links.sealed.items j ≡ false → (e : ℕ) × (e < length slots) × (slice_index slots e ≡ j)
