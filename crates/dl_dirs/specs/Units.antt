-- The compilation directories of line tables. DWARF 2, 3, 4 and 5, sections 3.1.1 and 7.5. b: the bytes of .debug_info.
use Rattle.std.specs.Prelude.{◌≡◌, ℕ, zero, suc, Bool, true, false, ◌==◌, ◌&&◌, List, [], ◌∷◌, ◌++◌, length, drop}
use Rattle.std.specs.Prelude.{Option, Some}
use Rattle.std.specs.List.{find}
use Rattle.std.specs.Option.{is_some, option_and_then, option_map_or}
use Rattle.dl_num.specs.declared.fixed.Order.{Order}
use Rattle.dl_info.specs.declared.head.UnitLength.{UnitLength}
use Rattle.dl_info.specs.declared.unit.Answer.{Answer}
use Rattle.dl_info.specs.declared.unit.Answer.TheVariants.{Found, More, Unreadable}
use Rattle.dl_info.specs.Entries.{EntryData, TextData, here, str, line_str, index}
use Rattle.dl_info.specs.Units.{first_entry, unit_length}
use Rattle.dl_dirs.specs.Texts.{TextsData, directory_text}

-- ---- units

-- the first entry of a unit, where it can be read
abbrev pub found_in : Answer EntryData → List EntryData
found_in (Found e) = e ∷ []
found_in More = []
found_in Unreadable = []

-- what is after a unit, where there is one
abbrev pub after : (UnitLength → List EntryData) → Answer UnitLength → List EntryData
after f (Found l) = f l
after f More = []
after f Unreadable = []

-- The first entries of at most n units, one after the other, which are cut by their lengths: after a length that is none or
-- isn't whole no unit stands, and one that is cut short is followed by nothing.
unfoldable pub entries_in : Order → (abbreviations : List ℕ) → (n : ℕ) → List ℕ → List EntryData
entries_in order abbreviations zero b = []
entries_in order abbreviations (suc n) b =
    found_in (first_entry order abbreviations b)
    ++ after (λ l. entries_in order abbreviations n (drop l.size b)) (unit_length order b)

-- there are no more units than bytes
abbrev pub entries : Order → (abbreviations : List ℕ) → List ℕ → List EntryData
entries order abbreviations b = entries_in order abbreviations (length b) b

-- ---- directories

-- the entry has this DW_AT_stmt_list, and DW_AT_comp_dir
abbrev pub says : (offset : ℕ) → EntryData → Bool
says offset e = option_map_or (λ n. n == offset) e.stmt_list false && is_some e.comp_dir

-- the first entry that says the directory of the line table at this offset
abbrev pub saying : (offset : ℕ) → List EntryData → Option EntryData
saying offset es = find (says offset) es

-- the compilation directory of the line table at this offset; None where no unit says it, or its text isn't there
abbrev pub directory : Order → (abbreviations : List ℕ) → TextsData → List ℕ → (offset : ℕ) → Option (List ℕ)
directory order abbreviations t b offset =
    option_and_then (directory_text order t) (saying offset (entries order abbreviations b))

-- a unit says the directory of a line table
abbrev pub HasDirectory : List EntryData → Type 0
HasDirectory es = (offset : ℕ) × (e : EntryData) × (saying offset es ≡ Some e)

-- ---- where their texts stand

-- in .debug_str
abbrev pub has_str : TextData → Bool
has_str (here w) = false
has_str (str n) = true
has_str (line_str n) = false
has_str (index n) = true

-- in .debug_line_str
abbrev pub has_line_str : TextData → Bool
has_line_str (here w) = false
has_line_str (str n) = false
has_line_str (line_str n) = true
has_line_str (index n) = false

-- their offsets, in .debug_str_offsets
abbrev pub has_index : TextData → Bool
has_index (here w) = false
has_index (str n) = false
has_index (line_str n) = false
has_index (index n) = true

-- the directory of a line table stands so
abbrev pub Stands : (TextData → Bool) → List EntryData → Type 0
Stands test es =
    (offset : ℕ) × (e : EntryData) × (saying offset es ≡ Some e) × (option_map_or test e.comp_dir false ≡ true)
