-- What a lister is told, and what it keeps of it. No promise rests on this file.
use Rattle.std.specs.Prelude.{◌≡◌, ◌≤◌, ℕ, ◌+◌, ◌*◌, true, false, length, List, [], ◌∷◌, ◌++◌, Option, Some, None}
use Rattle.std.specs.Option.{option_map_or}
use Rattle.std.specs.Io.KnownBytes.{Appends}
use Rattle.dl_field.specs.HeaderData.{HeaderData, header_cells}
use Rattle.dl_rows.specs.declared.row.Row.{Row}
use Rattle.dl_rows.specs.Items.{a_row}
use Rattle.dl_print.specs.ValueText.{Strings, strings_of}
use Rattle.dl_path.specs.Paths.{beside_table, has_directory_0}
use Rattle.dl_path.specs.TextRoom.{text_room}
use Rattle.dl_dirs.specs.Compilation.{directory_by}
use Rattle.dl_sections.specs.declared.fault.RunFault.{RunFault}
use Rattle.dl_sections.specs.declared.fault.RunFault.TheVariants.{NoMemory}
use Rattle.dl_sections.specs.Copying.{offset_after}
use Rattle.dl_sections.specs.Section.{Visit, of_damage, of_end, of_header, of_item}
use Rattle.dl_sections.specs.Visiting.{Story, header_told}
use Rattle.dl_addr.specs.Texts.{files_end}
use Rattle.dl_making.specs.Few.{AreFew, cells_told}
use Rattle.dl_making.specs.Room.{DirectoriesWithin}
use Rattle.dl_sources.specs.declared.lister.Lister.{Lister}
use Rattle.dl_sources.specs.declared.question.SourcesQuestion.{SourcesQuestion}
use Rattle.dl_sources.specs.Counting.{Counting}
use Rattle.dl_sources.specs.Entries.{table_told}
use Rattle.dl_sources.specs.Holding.{Holds}
use Rattle.dl_sources.specs.SectionTold.{is_live, unit_mentions}
use Rattle.dl_sources.specs.Sources.{Mention}
use Rattle.dl_sources.specs.UnitEntries.{counts_at}
use Rattle.dl_sources.specs.Wanting.{listing_room}

-- ---- what visits tell; rows, offset: of the current unit before the visits

-- the rows since the last header, and since the last unit that is whole or damaged
abbrev pub rows_since : List Row → List Visit → List Row
rows_since rows [] = rows
rows_since rows (of_header n l h ∷ visits) = rows_since [] visits
rows_since rows (of_item (a_row header r) ∷ visits) = rows_since (rows ++ r ∷ []) visits
rows_since rows (of_end h ∷ visits) = rows_since [] visits
rows_since rows (of_damage unit at kind ∷ visits) = rows_since [] visits
rows_since rows (visit ∷ visits) = rows_since rows visits

-- what the units tell that ended
abbrev pub told_after : Strings → SourcesQuestion → List Row → (offset : ℕ) → List Visit → List Mention
told_after s q rows offset [] = []
told_after s q rows offset (of_header n l h ∷ visits) = told_after s q [] n visits
told_after s q rows offset (of_item (a_row header r) ∷ visits) = told_after s q (rows ++ r ∷ []) offset visits
told_after s q rows offset (of_end h ∷ visits) = unit_mentions s q offset h rows ++ told_after s q [] offset visits
told_after s q rows offset (of_damage unit at kind ∷ visits) = told_after s q [] offset visits
told_after s q rows offset (visit ∷ visits) = told_after s q rows offset visits

-- ---- the lister

-- a number from which on the unit has no files
abbrev pub file_count : Option HeaderData → ℕ
file_count h = option_map_or files_end h 0

abbrev pub cells_of : Option HeaderData → ℕ
cells_of h = option_map_or header_cells h 0

abbrev pub entry_count : Option HeaderData → ℕ
entry_count h = option_map_or (λ (g : HeaderData). length g.files.entries) h 0

-- what is told at the end of a unit, by what was counted
abbrev pub end_told : {M : Type 0} → Lister M → Option HeaderData → List Mention
end_told l None = []
end_told l (Some h) =
    table_told (strings_of l.strings.now) (beside_table (has_directory_0 (Some h)) (directory_by l.question.directories l.unit))
    l.question.md5 h (counts_at l.counts)

-- and for how much memory is wanted at most then
abbrev pub end_room : {M : Type 0} → Lister M → Option HeaderData → ℕ
end_room l None = 0
end_room l (Some h) =
    option_map_or length (beside_table (has_directory_0 (Some h)) (directory_by l.question.directories l.unit)) 0
    + 3 * text_room (strings_of l.strings.now) (Some h) + 4 + length h.files.entries

-- what it was made with
pub record IsSame {M : Type 0} (first now : Lister M) : Type 0 where
  pub memory : now.memory.now ≡ first.memory.now
  pub strings : now.strings.now ≡ first.strings.now
  pub question : now.question ≡ first.question

abbrev pub told_by : {M : Type 0} → Lister M → List Visit → List Mention
told_by first visits = told_after (strings_of first.strings.now) first.question [] first.unit visits

-- it was told these visits, and memory sufficed; no more entries are told than the headers have cells
pub record Listed {M : Type 0} (first now : Lister M) (visits : List Visit) : Type 0 where
  pub counts : Counting (is_live first.question) (file_count (header_told None visits)) now.counts (rows_since [] visits)
  pub table : Holds now.table (told_by first visits)
  pub few : length (told_by first visits) + cells_of (header_told None visits) ≤ cells_told visits

-- memory was refused for no more than the room of a section that may tell these visits
abbrev pub RefusesAfter : {M : Type 0} → (refuses : M → ℕ → Type 0) → (first : Lister M) → List Visit → Type 0
RefusesAfter refuses first visits =
    (n : ℕ) × refuses first.memory.now n
    × ((directory bytes : ℕ) → DirectoriesWithin directory first.question.directories → AreFew bytes visits
    → n ≤ listing_room (strings_of first.strings.now) directory bytes)

-- it was told these visits; where it says that memory was refused no more is known than that
pub record Listing {M : Type 0} (refuses : M → ℕ → Type 0) (first now : Lister M) (start held : Option (List ℕ))
    (visits : List Visit) : Type 0 where
  pub same : IsSame first now
  pub unit : now.unit ≡ offset_after first.unit visits
  pub told : now.is_refused ≡ false → Listed first now visits
  pub refused : now.is_refused ≡ true → RefusesAfter refuses first visits
  pub nothing : Appends start held []

-- memory was refused for what it was told
pub record StopsFor {M : Type 0} (refuses : M → ℕ → Type 0) (first : Lister M) (visits : List Visit) (fault : RunFault)
    : Type 0 where
  pub is : fault ≡ NoMemory
  pub refused : RefusesAfter refuses first visits

-- nothing is printed, and it stops for want of memory alone
abbrev pub listing_story : {M : Type 0} → (refuses : M → ℕ → Type 0) → Story (Lister M)
listing_story refuses = record {
  text = λ first visits. [];
  tells = Listing refuses;
  is_done = λ first new start now visits. ⊥;
  refuses = λ first visits fault. StopsFor refuses first visits fault;
}
