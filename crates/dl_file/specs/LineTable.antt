-- What open_line_file answers. f: the bytes of a file; e: the file as it is opened.
use Rattle.std.specs.Prelude.{◌≡◌, ◌⊎◌, ◌<◌, ◌^◌, ℕ, Bool, List, [], ◌∷◌, Option, Some, None, option_map, option_and_then}
use Rattle.std.specs.Prelude.{Result, Ok, Err, MatchResult, MatchOption, is_some}
use Rattle.dl_num.specs.declared.fixed.Order.{Order}
use Rattle.dl_elf.specs.declared.file.Elf.{Elf}
use Rattle.dl_elf.specs.declared.section.SectionHeader.{SectionHeader}
use Rattle.dl_elf.specs.declared.header.Class.{Class}
use Rattle.dl_elf.specs.declared.name.SectionName.{SectionName}
use Rattle.dl_elf.specs.declared.name.SectionName.TheVariants.{DebugLine, ZdebugLine, DebugLineDwo, DebugLineStr}
use Rattle.dl_elf.specs.declared.name.SectionName.TheVariants.{ZdebugLineStr, DebugLineStrDwo, DebugStr, ZdebugStr}
use Rattle.dl_elf.specs.declared.name.SectionName.TheVariants.{DebugStrDwo, BuildIdNote}
use Rattle.dl_elf.specs.declared.named.NamedSection.{NamedSection}
use Rattle.dl_file.specs.declared.line_file.Wanted.{Wanted}
use Rattle.dl_file.specs.declared.line_file.Wanted.TheVariants.{LineSection, LineAndStringSections}
use Rattle.dl_file.specs.declared.line_file.Chosen.{Chosen}
use Rattle.dl_file.specs.declared.line_file.LineFile.{LineFile}
use Rattle.dl_file.specs.declared.content_reader.ContentReader.{ContentReader}
use Rattle.dl_file.specs.declared.content_reader.Readable.{Readable}
use Rattle.dl_file.specs.declared.line_reader.LineReader.{LineReader}
use Rattle.dl_elf.specs.declared.compression.Compression.{Compression}
use Rattle.dl_elf.specs.declared.compression.Compression.TheVariants.{Zlib}
use Rattle.dl_elf.specs.declared.compression.CompressionHeader.{CompressionHeader}
use Rattle.dl_elf.specs.declared.fault.Part.{Part}
use Rattle.dl_elf.specs.declared.fault.Part.TheVariants as part
use Rattle.std.specs.declared.io.Error.{Error}
use Rattle.dl_elf.specs.declared.fault.ElfFault.{ElfFault}
use Rattle.dl_elf.specs.declared.fault.ElfFault.TheVariants as fault
use Rattle.dl_elf.specs.Elf.{is_object}
use Rattle.dl_elf.specs.declared.file.Range.{Range}
use Rattle.dl_elf.specs.Sections.{section_bytes, section_range, opened}
use Rattle.dl_elf.specs.Found.{AreFound, Sections}
use Rattle.dl_elf.specs.Compressed.{section_damage, compression_header}
use Rattle.dl_elf.specs.Notes.{build_id_of, build_id_bytes}
use Rattle.dl_file.specs.Faults.{FailsOnly}
use Rattle.dl_file.specs.Inflating.{damage, inflated, stream_in}
use Rattle.dl_file.specs.ContentReader.{ContentFails, content_damage, content_remaining, content_fault, stream_name}
use Rattle.dl_file.specs.LineReader.{LineReaderFails, line_damage, line_remaining, line_fault, line_stream}
use Rattle.dl_file.specs.Relocations.{HasRelocations, relocated_line, relocation_sections}

-- ---- which sections

abbrev pub option_or : {A : Type 0} → Option A → Option A → Option A
option_or None other = other
option_or (Some x) other = Some x

-- the line section
abbrev pub line_section : Sections → Option NamedSection
line_section at = option_or (at DebugLine) (option_or (at ZdebugLine) (at DebugLineDwo))

-- the string sections that belong to a line section of this name
abbrev pub debug_line_str_section : Sections → SectionName → Option NamedSection
debug_line_str_section at DebugLineDwo = at DebugLineStrDwo
debug_line_str_section at _ = option_or (at DebugLineStr) (at ZdebugLineStr)

abbrev pub debug_str_section : Sections → SectionName → Option NamedSection
debug_str_section at DebugLineDwo = at DebugStrDwo
debug_str_section at _ = option_or (at DebugStr) (at ZdebugStr)

-- each where it is wanted
abbrev pub if_line_strings : Wanted → Option NamedSection → Option NamedSection
if_line_strings LineSection section = None
if_line_strings other section = section

abbrev pub if_strings : Wanted → Option NamedSection → Option NamedSection
if_strings LineAndStringSections section = section
if_strings other section = None

abbrev pub chosen_with : Sections → Wanted → NamedSection → Chosen
chosen_with at wanted line = record {
  line = line;
  debug_line_str = if_line_strings wanted (debug_line_str_section at line.name);
  debug_str = if_strings wanted (debug_str_section at line.name);
  has_debug_str = is_some (debug_str_section at line.name);
}

-- the sections that are wanted; None where there is no line section
abbrev pub chosen : Sections → Wanted → Option Chosen
chosen at wanted = option_map (chosen_with at wanted) (line_section at)

-- ---- faults of the wanted sections

abbrev pub first_of : {A : Type 0} → (NamedSection → Option A) → Chosen → Option A
first_of g c = option_or (g c.line) (option_or (option_and_then g c.debug_line_str) (option_and_then g c.debug_str))

-- the first part of the wanted sections that lies outside
abbrev pub first_damage : Elf → List ℕ → Chosen → Option Part
first_damage e f c = first_of (section_damage e f) c

abbrev pub refused_method : SectionName → Compression → Option (SectionName × Compression)
refused_method name Zlib = None
refused_method name method = Some (name, method)

abbrev pub refused : Elf → List ℕ → NamedSection → Option (SectionName × Compression)
refused e f s = option_and_then (λ header. refused_method s.name header.method) (compression_header e f s)

-- the first of the wanted sections that is compressed otherwise than with zlib, and how
abbrev pub first_refused : Elf → List ℕ → Chosen → Option (SectionName × Compression)
first_refused e f c = first_of (refused e f) c

-- ---- their bytes

-- the bytes of a section; of one that is compressed with zlib its name, what its stream inflates to before its damage,
-- and the byte that shows the damage, if it has some
pub data Content : Type 0 where
  Plain : List ℕ → Content
  Inflated : SectionName → List ℕ → (damage : Option ℕ) → Content

abbrev pub inflated_content : SectionName → CompressionHeader → Range → List ℕ → Content
inflated_content name header range f =
    Inflated name (inflated header (stream_in header range f)) (damage header range.size (stream_in header range f))

abbrev pub content_by : List ℕ → NamedSection → Option CompressionHeader → Content
content_by f s None = Plain (section_bytes s.header f)
content_by f s (Some header) = inflated_content s.name header (section_range s.header) f

-- a section with how it is compressed, and the bytes of such a one
abbrev pub with_stream : Elf → List ℕ → NamedSection → Readable
with_stream e f s = record { section = s; stream = compression_header e f s }

abbrev pub content_of : List ℕ → Readable → Content
content_of f r = content_by f r.section r.stream

abbrev pub plain_content : Result (List ℕ) ElfFault → Result Content ElfFault
plain_content (Ok bytes) = Ok (Plain bytes)
plain_content (Err first) = Err first

-- all bytes of a section that are held; its damage, where it is compressed and has some
abbrev pub held_bytes : Content → Result (List ℕ) ElfFault
held_bytes (Plain bytes) = Ok bytes
held_bytes (Inflated name bytes None) = Ok bytes
held_bytes (Inflated name bytes (Some at)) = Err (fault.DamagedStream name at)

-- the line section, by what it is without relocations and by its sections of relocations. Where it has some its bytes are
-- held, and they are applied to these, inflated where it is compressed
abbrev pub line_by : Elf → List ℕ → NamedSection → Content → Option (List SectionHeader) → Result Content ElfFault
line_by e f line whole None = Err (fault.Damaged part.SectionHeaders)
line_by e f line whole (Some []) = Ok whole
line_by e f line whole (Some (s ∷ more)) = plain_content (relocated_line e f line (s ∷ more) (held_bytes whole))

-- the line section, in an object file with the relocations of all sections applied, or its first fault
abbrev pub IsLine : Elf → List ℕ → Readable → Result Content ElfFault → Type 0
IsLine e f line result =
    result ≡ line_by e f line.section (content_of f line) (relocation_sections e f line.section.number)

-- ---- the answer

-- what a file has of its line table
pub record LineTable : Type 0 where
  pub order : Order
  pub class : Class
  pub is_object_file : Bool
  pub line : Content
  pub line_str : Option Content
  pub str : Option Content
  -- the file has a section with the strings of DW_FORM_strp, be it wanted or not
  pub has_str : Bool

abbrev pub line_table : Elf → List ℕ → Chosen → (line : Content) → LineTable
line_table e f c line = record {
  order = e.header.order;
  class = e.header.class;
  is_object_file = is_object e.header;
  line = line;
  line_str = option_map (content_of f) (option_map (with_stream e f) c.debug_line_str);
  str = option_map (content_of f) (option_map (with_stream e f) c.debug_str);
  has_str = c.has_debug_str;
}

abbrev pub with_line : Elf → List ℕ → Chosen → Result Content ElfFault → Result LineTable ElfFault
with_line e f c (Ok line) = Ok (line_table e f c line)
with_line e f c (Err first) = Err first

-- sections that lie in the file, and of which none is compressed otherwise than with zlib
abbrev pub IsTableWith : Elf → List ℕ → Chosen → Result LineTable ElfFault → Type 0
IsTableWith e f c result =
    (line : Result Content ElfFault) × IsLine e f (with_stream e f c.line) line × (result ≡ with_line e f c line)

-- what the wanted sections come to, or their first fault: damage, one that is compressed otherwise, that of the line
-- section's stream or relocations
abbrev pub IsTableOf : Elf → List ℕ → Chosen → Result LineTable ElfFault → Type 0
IsTableOf e f c result = MatchOption (first_damage e f c)
    (MatchOption (first_refused e f c) (IsTableWith e f c result)
    (λ found. result ≡ Err (fault.Compressed found.0 found.1)))
    (λ part. result ≡ Err (fault.Damaged part))

-- the fault of a file without a line section, which tells its build-id
abbrev pub IsWithoutLineSection : Elf → List ℕ → Sections → Result LineTable ElfFault → Type 0
IsWithoutLineSection e f at (Err (fault.NoLineSection told)) =
    option_map build_id_bytes told ≡ build_id_of e f (at BuildIdNote)
IsWithoutLineSection e f at other = ⊥

-- what the sections of the names come to; the first fault is that there is no line section
abbrev pub IsLineTable : Elf → List ℕ → Sections → Wanted → Result LineTable ElfFault → Type 0
IsLineTable e f at wanted result =
    MatchOption (chosen at wanted) (IsWithoutLineSection e f at result) (λ c. IsTableOf e f c result)

-- a file with these bytes has this line table, or it is the first fault that keeps it from that
abbrev pub HasLineTable : List ℕ → Wanted → Result LineTable ElfFault → Type 0
HasLineTable f wanted result = MatchResult (opened f)
    (λ e. (at : Sections) × AreFound e f at × IsLineTable e f at wanted result)
    (λ first. result ≡ Err first)

-- there is such a section, and it is compressed
abbrev pub HasStream : Option Readable → Type 0
HasStream section = (header : CompressionHeader) × (option_and_then (λ r. r.stream) section ≡ Some header)

-- memory is taken for these sections: one is compressed, or the line section has relocations and is held
abbrev pub TakesMemoryFor : Elf → List ℕ → Chosen → Type 0
TakesMemoryFor e f c = HasRelocations e f c.line.number ⊎ (HasStream (Some (with_stream e f c.line))
    ⊎ (HasStream (option_map (with_stream e f) c.debug_line_str) ⊎ HasStream (option_map (with_stream e f) c.debug_str)))

-- and for those of a file with these bytes
abbrev pub TakesMemory : List ℕ → Wanted → Type 0
TakesMemory f wanted = (e : Elf) × (opened f ≡ Ok e) × (at : Sections) × AreFound e f at
    × (c : Chosen) × (chosen at wanted ≡ Some c) × TakesMemoryFor e f c

-- ---- sections that are too long to be held

-- a section is compressed, and says that it inflates to more than 2^32 bytes
abbrev pub IsTooLong : Readable → Type 0
IsTooLong r = (header : CompressionHeader) × (r.stream ≡ Some header) × (2 ^ 32 < header.size)

-- and it would be held, as it has relocations
abbrev pub HoldsTooMuch : Elf → List ℕ → Readable → Type 0
HoldsTooMuch e f r = HasRelocations e f r.section.number × IsTooLong r

-- the line section of a file with these bytes is such a one
abbrev pub LineTooLong : List ℕ → Wanted → Type 0
LineTooLong f wanted = (e : Elf) × (opened f ≡ Ok e) × (at : Sections) × AreFound e f at
    × (c : Chosen) × (chosen at wanted ≡ Some c) × HoldsTooMuch e f (with_stream e f c.line)

-- ---- readers

-- a reader that gives these bytes, where they are known; no read of it failed yet, and reads of the file for it fail with
-- these errors alone
abbrev pub Gives : {S : Type 0} {g : _} → (S → Option (List ℕ)) → (S → Error → Type 0) → (fails : Error → Type 0)
    → ContentReader S g → Content → Type 0
Gives all_bytes fails_with fails reader (Plain bytes) = (content_remaining all_bytes reader ≡ Some bytes)
    × (content_fault reader ≡ None) × (stream_name reader ≡ None)
    × FailsOnly (ContentFails all_bytes fails_with reader) fails
Gives all_bytes fails_with fails reader (Inflated name bytes damage) = (content_remaining all_bytes reader ≡ Some bytes)
    × (content_damage all_bytes reader ≡ Some damage) × (content_fault reader ≡ None) × (stream_name reader ≡ Some name)
    × FailsOnly (ContentFails all_bytes fails_with reader) fails

abbrev pub GivesOption : {S : Type 0} {g : _} → (S → Option (List ℕ)) → (S → Error → Type 0) → (fails : Error → Type 0)
    → Option (ContentReader S g) → Option Content → Type 0
GivesOption all_bytes fails_with fails None content = content ≡ None
GivesOption all_bytes fails_with fails (Some reader) None = ⊥
GivesOption all_bytes fails_with fails (Some reader) (Some content) = Gives all_bytes fails_with fails reader content

-- the same of a reader of a line section
abbrev pub GivesLine : {S : Type 0} {g : _} → (S → Option (List ℕ)) → (S → Error → Type 0) → (fails : Error → Type 0)
    → LineReader S g → Content → Type 0
GivesLine all_bytes fails_with fails reader (Plain bytes) = (line_remaining all_bytes reader ≡ Some bytes)
    × (line_fault reader ≡ None) × (line_stream reader ≡ None)
    × FailsOnly (LineReaderFails all_bytes fails_with reader) fails
GivesLine all_bytes fails_with fails reader (Inflated name bytes damage) = (line_remaining all_bytes reader ≡ Some bytes)
    × (line_damage all_bytes reader ≡ Some damage) × (line_fault reader ≡ None) × (line_stream reader ≡ Some name)
    × FailsOnly (LineReaderFails all_bytes fails_with reader) fails

-- the readers of a file give the bytes of a line table
pub record GivesTable {S : Type 0} {g : _} (all_bytes : S → Option (List ℕ)) (fails_with : S → Error → Type 0)
    (fails : Error → Type 0) (file : LineFile S g) (t : LineTable) : Type 0 where
  pub order : file.order ≡ t.order
  pub class : file.class ≡ t.class
  pub object : file.is_object ≡ t.is_object_file
  pub line : GivesLine all_bytes fails_with fails file.line t.line
  pub line_str : GivesOption all_bytes fails_with fails file.debug_line_str t.line_str
  pub str : GivesOption all_bytes fails_with fails file.debug_str t.str
  pub has_str : file.has_debug_str ≡ t.has_str

-- what open_line_file answers for a file with these bytes: its readers, a fault, that a read failed, or that memory was
-- refused. fails: the errors that reading the file may give
abbrev pub Opens : {S : Type 0} {g : _} → (S → Option (List ℕ)) → (S → Error → Type 0) → (fails : Error → Type 0)
    → List ℕ → Wanted → Result (LineFile S g) ElfFault → Type 0
Opens all_bytes fails_with fails f wanted (Ok file) =
    (t : LineTable) × HasLineTable f wanted (Ok t) × GivesTable all_bytes fails_with fails file t
Opens all_bytes fails_with fails f wanted (Err (fault.Read error)) = Unit {0}
Opens all_bytes fails_with fails f wanted (Err fault.NoMemory) = TakesMemory f wanted
Opens all_bytes fails_with fails f wanted (Err other) = HasLineTable f wanted (Err other)
