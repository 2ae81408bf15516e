-- The directories in which the units of a file were compiled. f: the bytes of the file; g: the directory of the line table at
-- an offset, where it is known. DWARF 5, section 3.1.1.
use Rattle.std.specs.Prelude.{◌≡◌, ◌⊎◌, ℕ, ◌+◌, ◌^◌, if◌then◌else◌, nat_le, List, length, Option, Some, None, option_and_then}
use Rattle.std.specs.Option.{option_map_or}
use Rattle.std.specs.declared.io.Error.{Error}
use Rattle.dl_elf.specs.declared.fault.ElfFault.{ElfFault}
use Rattle.dl_elf.specs.declared.fault.ElfFault.TheVariants.{Read, NoMemory}
use Rattle.dl_memory.specs.Refusals.{IsRefused}
use Rattle.dl_dirs.specs.Texts.{TextsData}
use Rattle.dl_dirs.specs.Units.{directory}
use Rattle.dl_file.specs.InfoTable.{HasInfo, InfoTable, InfoTooLong, TakesInfoMemory}
use Rattle.dl_file.specs.LineTable.{Content, Inflated, Plain}
use Rattle.dl_sections.specs.declared.options.TheConstants.{SECTION_LIMIT}
use Rattle.dl_open.specs.declared.strings.TheConstants.{STRINGS_LIMIT}
use Rattle.dl_open.specs.Tables.{bytes_of}

-- ---- the bytes of a section, where they can be had: its stream isn't damaged, and there are no more than the limit

abbrev pub within : (limit : ℕ) → List ℕ → Option (List ℕ)
within limit bytes = if nat_le (length bytes) limit then Some bytes else None

abbrev pub bytes_had : (limit : ℕ) → Content → Option (List ℕ)
bytes_had limit (Plain bytes) = within limit bytes
bytes_had limit (Inflated name bytes None) = within limit bytes
bytes_had limit (Inflated name bytes (Some at)) = None

-- ---- the directories

-- the sections in which texts stand; one that can't be had is as one that the file lacks
abbrev pub texts_had : InfoTable → TextsData
texts_had t = record {
  str_offsets = option_and_then (bytes_had STRINGS_LIMIT) t.str_offsets;
  debug_str = option_and_then (bytes_had STRINGS_LIMIT) t.str;
  debug_line_str = option_and_then (bytes_had STRINGS_LIMIT) t.line_str;
}

-- the directory of the line table at an offset, as .debug_info says it; None where that or .debug_abbrev can't be had
abbrev pub said_in : InfoTable → (offset : ℕ) → Option (List ℕ)
said_in t offset = option_and_then (λ info. option_and_then (λ abbreviations.
    directory t.order abbreviations (texts_had t) info offset) (bytes_had STRINGS_LIMIT t.abbreviations))
    (bytes_had SECTION_LIMIT t.info)

-- these of a file; none, where it has no such units
abbrev pub AreDirectories : List ℕ → (ℕ → Option (List ℕ)) → Type 0
AreDirectories f g = (t : Option InfoTable) × HasInfo f t × ((n : ℕ) → g n ≡ option_and_then (λ t. said_in t n) t)

-- ---- why they aren't known. fails: the errors that reading the file may give; refuses: for how many items memory is refused

-- how many bytes a section has, of those that a file may lack
abbrev pub section_size : Option Content → ℕ
section_size section = option_map_or (λ content. length (bytes_of content)) section 0

-- and those of texts have, and all by which directories are known
abbrev pub texts_size : InfoTable → ℕ
texts_size t = section_size t.str_offsets + section_size t.str + section_size t.line_str

abbrev pub info_size : InfoTable → ℕ
info_size t = length (bytes_of t.abbreviations) + length (bytes_of t.info) + texts_size t

-- a read failed, or memory was refused: for streams, for bytes with relocations, or for what is kept of the units that the
-- file has
abbrev pub RefusesDirectories : (refuses : ℕ → Type 0) (fails : Error → Type 0) (f : List ℕ) → ElfFault → Type 0
RefusesDirectories refuses fails f (Read error) = fails error
RefusesDirectories refuses fails f NoMemory =
    (TakesInfoMemory f × (IsRefused refuses (length f + 2 ^ 32) ⊎ InfoTooLong f))
    ⊎ ((t : InfoTable) × HasInfo f (Some t) × IsRefused refuses (info_size t))
RefusesDirectories refuses fails f other = ⊥
