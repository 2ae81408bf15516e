-- The line table of an ELF file as commands look into it. f: the bytes of the file; t: its line table as dl_file defines
-- it.
use Rattle.std.specs.Prelude.{⊤, ◌≡◌, ◌⊎◌, ◌↔◌, ◌+◌, ◌^◌, ◌<◌, ◌≤◌, ℕ, Bool, true, false, IsTrue, if◌then◌else◌, List, ◌++◌, length}
use Rattle.std.specs.Prelude.{Option, Some, None, option_map, IfSome, Ok, Err}
use Rattle.std.specs.declared.io.Error.{Error}
use Rattle.dl_file.specs.declared.line_file.Wanted.{Wanted}
use Rattle.dl_file.specs.declared.line_file.Wanted.TheVariants.{LineSection, LineAndLineStrings, LineAndStringSections}
use Rattle.dl_elf.specs.declared.fault.ElfFault.{ElfFault}
use Rattle.dl_elf.specs.declared.fault.ElfFault.TheVariants.{Read, NoMemory}
use Rattle.dl_file.specs.LineTable.{Content, HasLineTable, Inflated, LineTable, LineTooLong, Plain, TakesMemory}
use Rattle.dl_elf.specs.declared.header.Class.{Class}
use Rattle.dl_elf.specs.declared.header.Class.TheVariants as class
use Rattle.dl_num.specs.declared.fixed.Order.{Order}
use Rattle.dl_head.specs.declared.dialect.AddressSize.{AddressSize}
use Rattle.dl_head.specs.declared.dialect.AddressSize.TheVariants as size
use Rattle.dl_head.specs.declared.dialect.Dialect.{Dialect}
use Rattle.dl_head.specs.declared.dialect.Older.{Older}
use Rattle.dl_head.specs.declared.dialect.Older.TheVariants as older
use Rattle.dl_forms.specs.Names.{RefusesCellFrom, Names}
use Rattle.dl_memory.specs.Refusals.{IsRefused}
use Rattle.dl_object.specs.Kept.{Rises}
use Rattle.dl_object.specs.Section.{Keeps, WantsCell}
use Rattle.dl_sections.specs.declared.options.TheConstants.{SECTION_LIMIT}
use Rattle.dl_sections.specs.declared.fault.RunFault.{RunFault}
use Rattle.dl_sections.specs.declared.fault.RunFault.TheVariants as fault
use Rattle.dl_print.specs.ValueText.{Strings}
use Rattle.dl_open.specs.declared.dialect.FileUnits.{FileUnits}
use Rattle.dl_open.specs.declared.dialect.FileUnits.TheVariants as units
use Rattle.dl_open.specs.declared.strings.TheConstants.{STRINGS_LIMIT}
use Rattle.dl_open.specs.declared.named.Sections.{Sections}
use Rattle.dl_open.specs.declared.named.Sections.TheVariants.{Lines, LinesAndTexts}
use Rattle.dl_open.specs.declared.object_part.Part.{Part}
use Rattle.dl_open.specs.declared.fault.FileFault.{FileFault}
use Rattle.dl_open.specs.declared.fault.FileFault.TheVariants.{Open, Elf, NoMemory as Refused}
use Rattle.dl_open.specs.declared.stop.FileStop.{FileStop}
use Rattle.dl_open.specs.Files.{FileStops}
use Rattle.dl_open.specs.Stops.{IsAt, IsReadFault, StopsAt, Stream}

-- ---- string sections of the file. fails: the errors that reading it may give; refuses: for how many items memory is refused

-- one that is there has no more than 2^32 bytes
abbrev pub Fits : Option (List ℕ) → Type 0
Fits section = IfSome section (λ bytes. length bytes ≤ STRINGS_LIMIT)

-- the bytes of a section; of one that is inflated those before its damage
abbrev pub bytes_of : Content → List ℕ
bytes_of (Plain bytes) = bytes
bytes_of (Inflated name bytes damage) = bytes

-- the section's stream is whole, where it is inflated: the bytes are all that it inflates to
abbrev pub HasNoDamage : Content → Type 0
HasNoDamage (Plain bytes) = ⊤
HasNoDamage (Inflated name bytes damage) = damage ≡ None

-- these are all bytes of a section, where it is there
abbrev pub IsHeld : Option Content → Option (List ℕ) → Type 0
IsHeld content held = (held ≡ option_map bytes_of content) × Fits held × IfSome content HasNoDamage

-- s is both sections, whole
pub record IsWhole (line_str str : Option Content) (s : Strings) : Type 0 where
  pub line_strings : IsHeld line_str s.line_strings
  pub strings : IsHeld str s.strings

-- the section's name and its damage where it is inflated
abbrev pub stream_of : Content → Option Stream
stream_of (Plain bytes) = None
stream_of (Inflated name bytes damage) = Some (name, damage)

-- a section stops the program: a read or a growth failed, or it is too long
abbrev pub SectionStops : (refuses : ℕ → Type 0) (fails : Error → Type 0) (path : List ℕ) → Content → FileStop → Type 0
SectionStops refuses fails path content stop =
    (f : RunFault) × FileStops ⊤ refuses (Some (bytes_of content)) STRINGS_LIMIT f × StopsAt fails path (stream_of content) f stop

-- the first does, or the other once the first was read
abbrev pub StringsStop : (refuses : ℕ → Type 0) (fails : Error → Type 0) (path : List ℕ) (line_str str : Option Content) → FileStop
    → Type 0
StringsStop refuses fails path line_str str stop =
    ((content : Content) × (line_str ≡ Some content) × SectionStops refuses fails path content stop)
    ⊎ ((content : Content) × (str ≡ Some content) × SectionStops refuses fails path content stop
    × Fits (option_map bytes_of line_str))

-- the size of an address in a file of this class
abbrev pub address_size : Class → AddressSize
address_size class.Bits32 = size.Four
address_size class.Bits64 = size.Eight

-- which units before version 5 are read of a file of this class
abbrev pub older_in : FileUnits → Class → Older
older_in units.ByClass class = older.Read (address_size class)
older_in (units.Sized size) class = older.Read size
older_in units.Version5 class = older.Foreign

-- units of version 5 are read, in this order, and these of the others
abbrev pub class_dialect : FileUnits → Order → Class → Dialect
class_dialect units order class = record { order = order; older = older_in units class }

abbrev pub file_dialect : FileUnits → LineTable → Dialect
file_dialect units t = class_dialect units t.order t.class

-- ---- the sequences of one section of an object file

-- what is left of all bytes of the section
abbrev pub IsKept : Dialect → Part → Content → (kept : List ℕ) → Type 0
IsKept dialect part content kept =
    Keeps dialect part.places.items part.section 0 (bytes_of content) kept × HasNoDamage content

-- they can't be read whole, or memory is refused: for a header, or for no more places than these, which don't rise
abbrev pub KeepingStops : (refuses : ℕ → Type 0) (fails : Error → Type 0) (path : List ℕ) → Dialect → Part → Content → FileStop
    → Type 0
KeepingStops refuses fails path dialect part content stop =
    ((f : RunFault) × FileStops ⊤ refuses (Some (bytes_of content)) SECTION_LIMIT f × StopsAt fails path (stream_of content) f stop)
    ⊎ ((((Rises part.places.items → ⊥) × IsRefused refuses (length part.places.items)) ⊎ WantsCell dialect (bytes_of content))
    × IsAt path Refused stop)

-- ---- the file. fails: the errors that opening and reading it may give; refuses: for how many items memory is refused

-- why its line table can't be had; memory is refused only for a line section with relocations, of which no more than 2^32
-- bytes are held, and for streams
abbrev pub Refuses : (refuses : ℕ → Type 0) (fails : Error → Type 0) (f : List ℕ) → Wanted → FileFault → Type 0
Refuses refuses fails f wanted (Open error) = fails error
Refuses refuses fails f wanted (Elf (Read error)) = fails error
Refuses refuses fails f wanted (Elf NoMemory) = TakesMemory f wanted × (IsRefused refuses (length f + 2 ^ 32) ⊎ LineTooLong f wanted)
Refuses refuses fails f wanted (Elf fault) = HasLineTable f wanted (Err fault)
Refuses refuses fails f wanted other = ⊥

-- opening it for these sections does
abbrev pub OpeningStops : (refuses : ℕ → Type 0) (fails : Error → Type 0) (path : List ℕ) (f : List ℕ) → Wanted → FileStop → Type 0
OpeningStops refuses fails path f wanted stop = (fault : FileFault) × Refuses refuses fails f wanted fault × IsAt path fault stop

-- ---- .debug_str, which is looked into only where a table of the line section names it

-- Whether a table of a line section of these bytes names it. One that is inflated as it is read is taken to name it where
-- a read of it fails; and not to name it only where it has no damage, or where no table would whatever the bytes after it
abbrev pub IsNamed : (fails : Error → Type 0) → Dialect → Content → (names : Bool) → Type 0
IsNamed fails dialect (Plain bytes) names = IsTrue names ↔ Names dialect bytes
IsNamed fails dialect (Inflated name bytes damage) true =
    Names dialect bytes ⊎ ((f : ElfFault) × IsReadFault fails (Some (name, damage)) f)
IsNamed fails dialect (Inflated name bytes damage) false =
    (Names dialect bytes → ⊥) × ((damage ≡ None) ⊎ ((rest : List ℕ) → Names dialect (bytes ++ rest) → ⊥))

-- it can't be told: a read failed, or memory was refused for a header, or the section is too long
abbrev pub StopsNaming : Dialect → (known : Option (List ℕ)) → RunFault → Type 0
StopsNaming dialect known fault.Read = ⊤
StopsNaming dialect known fault.NoMemory = IfSome known (RefusesCellFrom dialect 0)
StopsNaming dialect known fault.SectionTooLong = IfSome known (λ bytes. SECTION_LIMIT < length bytes)
StopsNaming dialect known other = ⊥

abbrev pub NamingStops : (fails : Error → Type 0) (path : List ℕ) → Dialect → Content → FileStop → Type 0
NamingStops fails path dialect content stop =
    (f : RunFault) × StopsNaming dialect (Some (bytes_of content)) f × StopsAt fails path (stream_of content) f stop

abbrev pub with_strings : (names : Bool) → Wanted
with_strings names = if names then LineAndStringSections else LineAndLineStrings

-- the sections that are looked into, of a file of which these units are read
abbrev pub LooksInto : FileUnits → (fails : Error → Type 0) → Sections → (f : List ℕ) → Wanted → Type 0
LooksInto read fails Lines f wanted = wanted ≡ LineSection
LooksInto read fails LinesAndTexts f wanted = (t : LineTable) × HasLineTable f LineAndLineStrings (Ok t)
    × (((t.has_str ≡ false) × (wanted ≡ LineAndLineStrings))
    ⊎ ((names : Bool) × (t.has_str ≡ true) × IsNamed fails (file_dialect read t) t.line names × (wanted ≡ with_strings names)))

-- the file has this line table, with the string sections that are looked into
abbrev pub HasTable : FileUnits → (fails : Error → Type 0) → Sections → (f : List ℕ) → LineTable → Type 0
HasTable read fails sections f t = (wanted : Wanted) × LooksInto read fails sections f wanted × HasLineTable f wanted (Ok t)

-- t, the line section and .debug_line_str, can be had: why no more, for the walk over the tables, or for what they name
abbrev pub NamedStops : (refuses : ℕ → Type 0) → FileUnits → (fails : Error → Type 0) (path : List ℕ) (f : List ℕ) → LineTable → FileStop → Type 0
NamedStops refuses read fails path f t stop =
    NamingStops fails path (file_dialect read t) t.line stop
    ⊎ ((names : Bool) × IsNamed fails (file_dialect read t) t.line names × OpeningStops refuses fails path f (with_strings names) stop)

-- why it can't be had: for the line section, or with texts for that and .debug_line_str, or where the file has .debug_str
-- for more
abbrev pub TableStops : (refuses : ℕ → Type 0) → FileUnits → (fails : Error → Type 0) (path : List ℕ) → Sections → (f : List ℕ) → FileStop → Type 0
TableStops refuses read fails path Lines f stop = OpeningStops refuses fails path f LineSection stop
TableStops refuses read fails path LinesAndTexts f stop =
    OpeningStops refuses fails path f LineAndLineStrings stop
    ⊎ ((t : LineTable) × HasLineTable f LineAndLineStrings (Ok t) × (t.has_str ≡ true) × NamedStops refuses read fails path f t stop)
