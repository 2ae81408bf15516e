-- What a file without a line section says of the file with its debug information. f: its bytes; e: the file as it is opened.
use Rattle.std.specs.Prelude.{◌≡◌, ℕ, Bool, true, false, ◌||◌, is_some, List, Option, Ok, option_map}
use Rattle.dl_elf.specs.Found.{AreFound, Sections}
use Rattle.dl_elf.specs.Notes.{build_id_bytes, build_id_of}
use Rattle.dl_elf.specs.Sections.{opened}
use Rattle.dl_elf.specs.declared.file.Elf.{Elf}
use Rattle.dl_elf.specs.declared.name.SectionName.TheVariants.{BuildIdNote, DebugLine, DebugLineDwo, ZdebugLine}
use Rattle.dl_link.specs.DebugLink.{LinkData, link_of}
use Rattle.dl_link.specs.Told.{link_seen}
use Rattle.dl_follow.specs.Candidates.{SoughtData}
use Rattle.dl_follow.specs.Places.{folder_of}
use Rattle.dl_follow.specs.declared.clues.Clues.{Clues}

-- its build ID, and its debug link
pub record CluesData : Type 0 where
  pub id : Option (List ℕ)
  pub link : Option LinkData

abbrev pub clues_seen : Clues → CluesData
clues_seen c = record {
  id = option_map build_id_bytes c.id;
  link = option_map link_seen c.link;
}

-- what is looked for, of the file at a path
abbrev pub sought_by : (path : List ℕ) → CluesData → SoughtData
sought_by path c = record { folder = folder_of path; id = c.id; link = c.link }

-- one of the three sections with a line table is there
abbrev pub has_lines : Sections → Bool
has_lines at = is_some (at DebugLine) || is_some (at ZdebugLine) || is_some (at DebugLineDwo)

-- the headers can be read, and there is a line section
abbrev pub HasLines : (f : List ℕ) → Type 0
HasLines f = (e : Elf) × (opened f ≡ Ok e) × (at : Sections) × AreFound e f at × (has_lines at ≡ true)

-- the headers can be read, there is no line section, and the file says this
abbrev pub GivesClues : (f : List ℕ) → CluesData → Type 0
GivesClues f c = (e : Elf) × (opened f ≡ Ok e) × (at : Sections) × AreFound e f at × (has_lines at ≡ false)
    × (c.id ≡ build_id_of e f (at BuildIdNote)) × (c.link ≡ link_of e f)
