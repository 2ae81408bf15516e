-- What open_info answers. f: the bytes of a file; e: the file as it is opened. DWARF 5, sections 7.5, 7.5.3 and 7.26.
use Rattle.std.specs.Prelude.{◌≡◌, ◌⊎◌, ℕ, ◌||◌, if◌then◌else◌, List, Option, Some, None, is_some, option_map}
use Rattle.std.specs.Prelude.{option_and_then}
use Rattle.std.specs.Prelude.{Result, Ok, Err, MatchResult, MatchOption}
use Rattle.dl_num.specs.declared.fixed.Order.{Order}
use Rattle.std.specs.declared.io.Error.{Error}
use Rattle.dl_elf.specs.declared.fault.ElfFault.{ElfFault}
use Rattle.dl_elf.specs.declared.fault.ElfFault.TheVariants as fault
use Rattle.dl_elf.specs.declared.file.Elf.{Elf}
use Rattle.dl_elf.specs.declared.name.SectionName.{SectionName}
use Rattle.dl_elf.specs.declared.name.SectionName.TheVariants.{DebugInfo, ZdebugInfo, DebugAbbrev, ZdebugAbbrev}
use Rattle.dl_elf.specs.declared.name.SectionName.TheVariants.{DebugStrOffsets, ZdebugStrOffsets, DebugStr, ZdebugStr}
use Rattle.dl_elf.specs.declared.name.SectionName.TheVariants.{DebugLineStr, ZdebugLineStr}
use Rattle.dl_elf.specs.declared.named.NamedSection.{NamedSection}
use Rattle.dl_elf.specs.Compressed.{section_damage}
use Rattle.dl_elf.specs.Found.{AreFound, Sections}
use Rattle.dl_elf.specs.Sections.{opened}
use Rattle.dl_file.specs.declared.content_reader.Readable.{Readable}
use Rattle.dl_file.specs.declared.info_file.InfoFile.{InfoFile}
use Rattle.dl_file.specs.declared.info_file.InfoSections.{InfoSections}
use Rattle.dl_file.specs.declared.line_reader.LineReader.{LineReader}
use Rattle.dl_file.specs.LineTable.{Content, Gives, GivesLine, GivesOption, HasStream, HoldsTooMuch, IsLine, content_of}
use Rattle.dl_file.specs.LineTable.{option_or, refused, with_stream}
use Rattle.dl_file.specs.Relocations.{HasRelocations}

-- ---- which sections

-- a section that lies in the file, and isn't compressed otherwise than with zlib
abbrev pub readable : Elf → List ℕ → NamedSection → Option Readable
readable e f s =
    if is_some (section_damage e f s) || is_some (refused e f s) then None else Some (with_stream e f s)

-- the section of one of two names, the first before the other, where it can be read
abbrev pub named_section : Elf → List ℕ → Sections → (name compressed : SectionName) → Option Readable
named_section e f at name compressed = option_and_then (readable e f) (option_or (at name) (at compressed))

-- the sections; None where .debug_info or .debug_abbrev isn't among them
abbrev pub info_sections : Elf → List ℕ → Sections → Option InfoSections
info_sections e f at =
    option_and_then (λ info. option_map (λ abbreviations. record {
      info = info;
      abbreviations = abbreviations;
      str_offsets = named_section e f at DebugStrOffsets ZdebugStrOffsets;
      debug_str = named_section e f at DebugStr ZdebugStr;
      debug_line_str = named_section e f at DebugLineStr ZdebugLineStr;
    }) (named_section e f at DebugAbbrev ZdebugAbbrev)) (named_section e f at DebugInfo ZdebugInfo)

-- ---- their bytes

-- what a file has of its units of .debug_info
pub record InfoTable : Type 0 where
  pub order : Order
  pub info : Content
  pub abbreviations : Content
  pub str_offsets : Option Content
  pub str : Option Content
  pub line_str : Option Content

-- with this .debug_info; None where its relocations can't be applied
abbrev pub info_table : Elf → List ℕ → InfoSections → Result Content ElfFault → Option InfoTable
info_table e f c (Ok info) = Some (record {
  order = e.header.order;
  info = info;
  abbreviations = content_of f c.abbreviations;
  str_offsets = option_map (content_of f) c.str_offsets;
  str = option_map (content_of f) c.debug_str;
  line_str = option_map (content_of f) c.debug_line_str;
})
info_table e f c (Err first) = None

-- the bytes of .debug_info have the form of those of a line section: in an object file with its relocations applied
abbrev pub IsInfoOf : Elf → List ℕ → InfoSections → Option InfoTable → Type 0
IsInfoOf e f c t = (info : Result Content ElfFault) × IsLine e f c.info info × (t ≡ info_table e f c info)

-- a file with these bytes has these units, or none that can be read
abbrev pub HasInfo : List ℕ → Option InfoTable → Type 0
HasInfo f t = MatchResult (opened f) (λ e. (at : Sections) × AreFound e f at
    × MatchOption (info_sections e f at) (t ≡ None) (λ c. IsInfoOf e f c t))
    (λ first. t ≡ None)

-- memory is taken for these sections: one is compressed, or .debug_info has relocations and is held
abbrev pub TakesMemoryForInfo : Elf → List ℕ → InfoSections → Type 0
TakesMemoryForInfo e f c = HasRelocations e f c.info.section.number ⊎ (HasStream (Some c.info)
    ⊎ (HasStream (Some c.abbreviations) ⊎ (HasStream c.str_offsets ⊎ (HasStream c.debug_str ⊎ HasStream c.debug_line_str))))

-- and for those of a file with these bytes
abbrev pub TakesInfoMemory : List ℕ → Type 0
TakesInfoMemory f = (e : Elf) × (opened f ≡ Ok e) × (at : Sections) × AreFound e f at
    × (c : InfoSections) × (info_sections e f at ≡ Some c) × TakesMemoryForInfo e f c

-- .debug_info of a file with these bytes has relocations, and says that it inflates to more than 2^32 bytes, which aren't
-- held
abbrev pub InfoTooLong : List ℕ → Type 0
InfoTooLong f = (e : Elf) × (opened f ≡ Ok e) × (at : Sections) × AreFound e f at
    × (c : InfoSections) × (info_sections e f at ≡ Some c) × HoldsTooMuch e f c.info

-- ---- readers

-- the readers of a file give these bytes
pub record GivesInfo {S : Type 0} {g : _} (all_bytes : S → Option (List ℕ)) (fails_with : S → Error → Type 0)
    (fails : Error → Type 0) (file : InfoFile S g) (t : InfoTable)
    : Type 0 where
  pub order : file.order ≡ t.order
  pub info : GivesLine all_bytes fails_with fails file.info t.info
  pub abbreviations : Gives all_bytes fails_with fails file.abbreviations t.abbreviations
  pub str_offsets : GivesOption all_bytes fails_with fails file.str_offsets t.str_offsets
  pub str : GivesOption all_bytes fails_with fails file.debug_str t.str
  pub line_str : GivesOption all_bytes fails_with fails file.debug_line_str t.line_str

abbrev pub GivesInfoOption : {S : Type 0} {g : _} → (S → Option (List ℕ)) → (S → Error → Type 0) → (fails : Error → Type 0) → Option (InfoFile S g) → Option InfoTable
    → Type 0
GivesInfoOption all_bytes fails_with fails None t = t ≡ None
GivesInfoOption all_bytes fails_with fails (Some file) None = ⊥
GivesInfoOption all_bytes fails_with fails (Some file) (Some t) = GivesInfo all_bytes fails_with fails file t

-- a reader of .debug_info, or none where its relocations can't be applied; memory is refused only where `Memory` says so
abbrev pub OpensUnits : {S : Type 0} {g : _} → (S → Option (List ℕ)) → (S → Error → Type 0) → (fails : Error → Type 0) → (IsAnswer : Result Content ElfFault → Type 0)
    (Memory : Type 0) → Result (Option (LineReader S g)) ElfFault → Type 0
OpensUnits all_bytes fails_with fails IsAnswer Memory (Ok (Some reader)) =
    (content : Content) × IsAnswer (Ok content) × GivesLine all_bytes fails_with fails reader content
OpensUnits all_bytes fails_with fails IsAnswer Memory (Ok None) = (first : ElfFault) × IsAnswer (Err first)
OpensUnits all_bytes fails_with fails IsAnswer Memory (Err (fault.Read error)) = Unit {0}
OpensUnits all_bytes fails_with fails IsAnswer Memory (Err fault.NoMemory) = Memory
OpensUnits all_bytes fails_with fails IsAnswer Memory (Err other) = ⊥

-- what comes of units of which `Is` tells: their readers, or a read failed, or memory was refused
abbrev pub OpensInfoOf : {S : Type 0} {g : _} → (S → Option (List ℕ)) → (S → Error → Type 0) → (fails : Error → Type 0) → (Is : Option InfoTable → Type 0)
    (Memory : Type 0) → Result (Option (InfoFile S g)) ElfFault → Type 0
OpensInfoOf all_bytes fails_with fails Is Memory (Ok file) = (t : Option InfoTable) × Is t × GivesInfoOption all_bytes fails_with fails file t
OpensInfoOf all_bytes fails_with fails Is Memory (Err (fault.Read error)) = Unit {0}
OpensInfoOf all_bytes fails_with fails Is Memory (Err fault.NoMemory) = Memory
OpensInfoOf all_bytes fails_with fails Is Memory (Err other) = ⊥

abbrev pub OpensInfo : {S : Type 0} {g : _} → (S → Option (List ℕ)) → (S → Error → Type 0) → (fails : Error → Type 0) → List ℕ → Result (Option (InfoFile S g)) ElfFault
    → Type 0
OpensInfo all_bytes fails_with fails f result = OpensInfoOf all_bytes fails_with fails (HasInfo f) (TakesInfoMemory f) result
