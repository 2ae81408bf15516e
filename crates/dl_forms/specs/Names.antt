-- Whether a table of a section of units names `.debug_str`. DWARF 5, sections 6.2.4, 6.2.4.1, 7.4 and 7.5.6.
use Rattle.std.specs.Prelude.{◌≡◌, ℕ, ◌+◌, ◌≤◌, Bool, true, false, ◌||◌, List, ◌∷◌, ◌++◌, length, drop, Option, Some}
use Rattle.std.specs.Prelude.{None}
use Rattle.std.specs.List.{list_any}
use Rattle.dl_head.specs.declared.dialect.Dialect.{Dialect}
use Rattle.dl_table.specs.declared.form.Form.{Form}
use Rattle.dl_table.specs.declared.form.Form.TheVariants as form
use Rattle.dl_table.specs.declared.table.Pair.{Pair}
use Rattle.dl_field.specs.HeaderData.{HeaderData}
use Rattle.dl_head.specs.Header.{IsHeader, unit_len}
use Rattle.dl_head.specs.Reading.{RefusesCell}
use Rattle.dl_object.specs.Section.{IsUnread}

abbrev pub is_strp : Form → Bool
is_strp form.Strp = true
is_strp other = false

-- one of the pairs of a format has DW_FORM_strp
abbrev pub has_strp : List Pair → Bool
has_strp pairs = list_any (λ p. is_strp p.form) pairs

-- the format of the directories has such a pair, or that of the files
abbrev pub names_str : HeaderData → Bool
names_str h = has_strp h.directories.pairs || has_strp h.files.pairs

abbrev pub named_in : Option HeaderData → Bool
named_in None = false
named_in (Some h) = names_str h

-- The header of a unit in b names the section. The units are cut by their lengths alone: their programs aren't looked
-- into, and a unit that is cut short is followed by nothing, as is one whose length isn't known.
pub data Names (dialect : Dialect) : List ℕ → Type 0 where
  -- b begins with such a header
  here : {h : HeaderData} {b : List ℕ} (head back : List ℕ) → b ≡ head ++ back → IsHeader dialect h head
      → names_str h ≡ true → Names dialect b
  -- b begins with a header, and a unit after that one has such a header
  after : {h : HeaderData} {b : List ℕ} (head back : List ℕ) {len : ℕ} → b ≡ head ++ back → IsHeader dialect h head
      → unit_len dialect head ≡ Some len → Names dialect (drop len b) → Names dialect b
  -- the same after a unit that isn't read, with the front of which b begins
  after_unread : {b : List ℕ} (head back : List ℕ) {len : ℕ} → b ≡ head ++ back → IsUnread dialect head
      → unit_len dialect head ≡ Some len → length head ≤ len → Names dialect (drop len b) → Names dialect b

-- with a byte after the first n of b the header of a unit in b holds a cell more, for which memory may be refused
abbrev pub RefusesCellFrom : Dialect → (n : ℕ) (b : List ℕ) → Type 0
RefusesCellFrom dialect n b =
    (before : List ℕ) × (front : List ℕ) × (byte : ℕ) × (back : List ℕ) × (b ≡ before ++ (front ++ byte ∷ back))
    × (n ≤ length before + length front) × RefusesCell dialect front byte
