-- What is told of the units of a section that lies in memory. DWARF 5, section 6.2.4.
use Rattle.std.specs.Prelude.{◌≡◌, ◌⊎◌, ℕ, ◌+◌, List, [], ◌∷◌, length, Some, Result, Ok, Err}
use Rattle.std.specs.List.{concat}
use Rattle.dl_head.specs.declared.dialect.Dialect.{Dialect}
use Rattle.dl_head.specs.Header.{foreign_in}
use Rattle.dl_rows.specs.declared.row.Row.{Row}
use Rattle.dl_rows.specs.declared.sink.Flow.{Flow}
use Rattle.dl_rows.specs.declared.sink.Flow.TheVariants as flow
use Rattle.dl_rows.specs.LineUnit.{unit_rows}
use Rattle.dl_sections.specs.declared.fault.RunFault.{RunFault}
use Rattle.dl_sections.specs.declared.fault.RunFault.TheVariants as fault
use Rattle.dl_sections.specs.declared.in_memory.SectionRead.{SectionRead}
use Rattle.dl_sections.specs.declared.in_memory.SectionStop.{SectionStop}
use Rattle.dl_sections.specs.declared.in_memory.SectionStop.TheVariants as stop
use Rattle.dl_sections.specs.declared.in_memory.WholeUnit.{WholeUnit}
use Rattle.dl_sections.specs.Section.{HasUnits, EndsAs, header_of, summary_of}

-- a unit that is whole, and its rows
pub record UnitTold : Type 0 where
  pub unit : WholeUnit
  pub rows : List Row

-- the unit u at that offset
abbrev pub unit_told : Dialect → (offset : ℕ) (u : List ℕ) → UnitTold
unit_told dialect offset u = record {
  unit = record { offset = offset; version = foreign_in dialect u; header = header_of dialect u };
  rows = unit_rows dialect u;
}

-- units one after the other, the first at that offset
abbrev pub units_told : Dialect → (offset : ℕ) → (units : List (List ℕ)) → List UnitTold
units_told dialect offset [] = []
units_told dialect offset (u ∷ units) = unit_told dialect offset u ∷ units_told dialect (offset + length u) units

-- what is said of a sink, the first of two being the one at the beginning
pub record UnitStory (S : Type 0) : Type 1 where
  -- it was told these units, and then these rows of the current one, and goes on
  pub hears : S → S → List UnitTold → List Row → Type 0
  -- it was told these units, and wants nothing more
  pub is_done : S → S → List UnitTold → Type 0

-- it was told these units, and answered whether the next one is read
abbrev pub Hears : {S : Type 0} → UnitStory S → (first new : S) → List UnitTold → Flow → Type 0
Hears story first new units flow.On = story.hears first new units []
Hears story first new units flow.Stop = story.is_done first new units

-- what was read of a section that begins with these units
abbrev pub read_of : Dialect → (units : List (List ℕ)) → SectionRead
read_of dialect units = record { summary = summary_of dialect units; end = length (concat units) }

abbrev pub as_fault : SectionStop → RunFault
as_fault (stop.Damaged offset kind) = fault.Damage offset kind
as_fault stop.NoMemory = fault.NoMemory

-- `read_section`: the units to the end of s, or up to one after which the sink wants nothing more; or the first fault,
-- as that of a reader that gave s, and then its end
abbrev pub ReadsSection : {S : Type 0} → UnitStory S → Dialect → (s : List ℕ) (first new : S)
    → Result SectionRead SectionStop → Type 0
ReadsSection story dialect s first new (Ok read) =
    (units : List (List ℕ)) × (back : List ℕ) × HasUnits dialect s units back × (read ≡ read_of dialect units)
    × (((back ≡ []) × story.hears first new (units_told dialect 0 units) [])
    ⊎ story.is_done first new (units_told dialect 0 units))
ReadsSection story dialect s first new (Err f) =
    (units : List (List ℕ)) × (b : List ℕ) × (back : List ℕ)
    × EndsAs dialect (length s) s (Some []) units b back (Err (as_fault f))
    × story.hears first new (units_told dialect 0 units) (unit_rows dialect b)
