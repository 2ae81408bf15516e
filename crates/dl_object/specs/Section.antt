-- What is left of a section of units where the sequences of one section of an object file are wanted. DWARF 5, sections
-- 6.2.4 and 7.4.
use Rattle.std.specs.Prelude.{◌≡◌, ◌⊎◌, ℕ, ◌+◌, ◌<◌, ◌≤◌, List, [], ◌∷◌, ◌++◌, length, Some}
use Rattle.dl_head.specs.declared.dialect.Dialect.{Dialect}
use Rattle.dl_field.specs.HeaderData.{HeaderData}
use Rattle.dl_head.specs.Header.{IsHeader, foreign_in, unit_len}
use Rattle.dl_head.specs.Refusal.{HeaderRefused}
use Rattle.dl_table.specs.declared.fault.FaultKind.{FaultKind}
use Rattle.dl_head.specs.Reading.{RefusesCell as RefusesCellAt}
use Rattle.dl_reloc.specs.declared.placed.Placed.{Placed}
use Rattle.dl_object.specs.Kept.{program_kept}

-- the first bytes of a unit, its header, are `head`; `body` is the rest of it, or all bytes that are there, where it is
-- cut short, and `after` follows it
pub record IsBody (dialect : Dialect) (head body after : List ℕ) : Type 0 where
  pub len : ℕ
  pub told : unit_len dialect head ≡ Some len
  pub head_within : length head ≤ len
  pub size : (length (head ++ body) ≡ len) ⊎ ((length (head ++ body) < len) × (after ≡ []))

-- b begins with no header, nor with a unit of another version, up to that version
pub record NoUnitBegins (dialect : Dialect) (b : List ℕ) : Type 0 where
  pub own : (h : HeaderData) (head back : List ℕ) → b ≡ head ++ back → IsHeader dialect h head → ⊥
  pub foreign : (version : ℕ) (head back : List ℕ) (len : ℕ) → b ≡ head ++ back
      → foreign_in dialect head ≡ Some version → unit_len dialect head ≡ Some len → length head ≤ len → ⊥

-- head is refused: its last byte decides a fault of its header
pub record IsRefused (dialect : Dialect) (head : List ℕ) : Type 0 where
  pub place : ℕ
  pub kind : FaultKind
  pub refused : HeaderRefused dialect head place kind

-- the front of a unit that isn't read: of another version, up to that, or of one whose header is damaged
abbrev pub IsUnread : Dialect → (head : List ℕ) → Type 0
IsUnread dialect head = ((version : ℕ) × (foreign_in dialect head ≡ Some version)) ⊎ IsRefused dialect head

-- no unit whose length is known begins b
pub record NoneFollows (dialect : Dialect) (b : List ℕ) : Type 0 where
  pub none : NoUnitBegins dialect b
  pub refused : (head back : List ℕ) (len : ℕ) → b ≡ head ++ back → IsRefused dialect head
      → unit_len dialect head ≡ Some len → ⊥

-- what is left of the units at the front of bytes, which begin at that place
pub data Keeps (dialect : Dialect) (places : List Placed) (section : ℕ) : ℕ → List ℕ → List ℕ → Type 0 where
  -- after the last unit of which the length is known all stays
  ends : {at : ℕ} {b : List ℕ} → NoneFollows dialect b → Keeps dialect places section at b b
  -- a unit that isn't read stays
  unread : {at : ℕ} {head body after new : List ℕ} → IsUnread dialect head → IsBody dialect head body after
      → Keeps dialect places section (at + length (head ++ body)) after new
      → Keeps dialect places section at ((head ++ body) ++ after) ((head ++ body) ++ new)
  -- of a unit with a header the sequences of the section stay, and its operations from the first damaged one on
  own : {at : ℕ} {h : HeaderData} {head body after new : List ℕ} → IsHeader dialect h head
      → IsBody dialect head body after
      → Keeps dialect places section (at + length (head ++ body)) after new
      → Keeps dialect places section at ((head ++ body) ++ after)
      ((head ++ program_kept dialect.order h.params places section (at + length head) body) ++ new)

-- with a byte of b the header that b begins with holds a cell more, for which memory may be refused
abbrev pub RefusesCell : Dialect → List ℕ → Type 0
RefusesCell dialect b =
    (front : List ℕ) × (byte : ℕ) × (back : List ℕ) × (b ≡ front ++ byte ∷ back) × RefusesCellAt dialect front byte

-- the same of a unit in b
abbrev pub WantsCell : Dialect → List ℕ → Type 0
WantsCell dialect b = (before after : List ℕ) × (b ≡ before ++ after) × RefusesCell dialect after
