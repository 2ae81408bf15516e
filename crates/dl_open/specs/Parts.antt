-- The sequences of an object file among which addresses are looked up: those of one section. System V ABI, chapter 4,
-- "Sections". f: the bytes of a file; e: the file as it is opened; name: the section that the words name; part: the
-- sequences of one section, or all.
use Rattle.std.specs.Prelude.{◌≡◌, ◌≢◌, ◌⊎◌, ◌*◌, ℕ, length, Bool, true, false, List, [], Option, Some, None, Ok, Err}
use Rattle.std.specs.declared.io.Error.{Error}
use Rattle.dl_elf.specs.declared.file.Elf.{Elf}
use Rattle.dl_elf.specs.declared.fault.ElfFault.TheVariants.{Read, NoMemory}
use Rattle.dl_elf.specs.Sections.{opened}
use Rattle.dl_elf.specs.Numbered.{code_section, section_number}
use Rattle.dl_memory.specs.Refusals.{IsRefused}
use Rattle.dl_file.specs.Places.{ArePlaces, TakesPlaces}
use Rattle.dl_reloc.specs.declared.placed.Placed.{Placed}
use Rattle.dl_open.specs.declared.object_part.Part.{Part}
use Rattle.dl_open.specs.declared.fault.FileFault.{FileFault}
use Rattle.dl_open.specs.declared.fault.FileFault.TheVariants.{Elf as ElfOf, NotRelative}
use Rattle.dl_open.specs.declared.stop.FileStop.{FileStop}
use Rattle.dl_open.specs.declared.stop.FileStop.TheVariants.{NoSection}
use Rattle.dl_open.specs.Stops.{IsAt}

-- the number of the section that is named, or where none is, of that of the code
abbrev pub section_of_name : Elf → List ℕ → (name : Option (List ℕ)) → Option ℕ
section_of_name e f None = code_section e f
section_of_name e f (Some name) = section_number e f name

abbrev pub IsSection : (f : List ℕ) (name : Option (List ℕ)) → Option ℕ → Type 0
IsSection f name number = (e : Elf) × (opened f ≡ Ok e) × (number ≡ section_of_name e f name)

-- by these places sequences belong to sections; by none in a file that isn't an object file
abbrev pub HasPlaces : (f : List ℕ) (is_object : Bool) → List Placed → Type 0
HasPlaces f false places = places ≡ []
HasPlaces f true places = ArePlaces f (Ok places)

-- in an object file those of the section, where it has places; all where no section is named and it has none, or no
-- section has code
abbrev pub IsPart : (f : List ℕ) (is_object : Bool) (name : Option (List ℕ)) → Option Part → Type 0
IsPart f is_object name (Some part) =
    HasPlaces f is_object part.places.items × (part.places.items ≢ []) × IsSection f name (Some part.section)
IsPart f is_object name None = (name ≡ None) × (HasPlaces f is_object [] ⊎ IsSection f None None)

-- ---- why that can't be told. fails: the errors that reading the file may give; refuses: for how many items memory is refused

abbrev pub RefusesPlaces : (refuses : ℕ → Type 0) (fails : Error → Type 0) (f : List ℕ) (is_object : Bool) → FileFault → Type 0
RefusesPlaces refuses fails f is_object (ElfOf (Read error)) = fails error
RefusesPlaces refuses fails f is_object (ElfOf NoMemory) =
    (is_object ≡ true) × TakesPlaces f × IsRefused refuses (16 * length f)
RefusesPlaces refuses fails f is_object (ElfOf fault) = (is_object ≡ true) × ArePlaces f (Err fault)
RefusesPlaces refuses fails f is_object other = ⊥

abbrev pub RefusesSection : (fails : Error → Type 0) (f : List ℕ) → FileFault → Type 0
RefusesSection fails f (ElfOf (Read error)) = fails error
RefusesSection fails f (ElfOf fault) = opened f ≡ Err fault
RefusesSection fails f other = ⊥

-- a section is named of a file whose sequences belong to none
abbrev pub RefusesName : (f : List ℕ) (is_object : Bool) (name : Option (List ℕ)) → FileFault → Type 0
RefusesName f is_object name NotRelative = (name ≢ None) × HasPlaces f is_object []
RefusesName f is_object name other = ⊥

-- the file has no section of the name
abbrev pub LacksSection : (path : List ℕ) (f : List ℕ) (name : Option (List ℕ)) → FileStop → Type 0
LacksSection path f name (NoSection p n) = (p.now ≡ path) × (name ≡ Some n.now) × IsSection f name None
LacksSection path f name other = ⊥

abbrev pub PartStops : (refuses : ℕ → Type 0) (fails : Error → Type 0) (path : List ℕ) (f : List ℕ) (is_object : Bool) (name : Option (List ℕ)) → FileStop
    → Type 0
PartStops refuses fails path f is_object name stop = LacksSection path f name stop
    ⊎ ((fault : FileFault) × (RefusesPlaces refuses fails f is_object fault ⊎ (RefusesSection fails f fault
    ⊎ RefusesName f is_object name fault)) × IsAt path fault stop)
