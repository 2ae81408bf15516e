-- What the call answers that makes the index of a section. s: the bytes of the section; ranges: where there is code; keep_going:
-- damaged units are gone around; refuses: for how many items memory is refused.
use Rattle.std.specs.Prelude.{◌≡◌, ◌⊎◌, ℕ, Bool, true, false, ◌||◌, ◌==◌, if◌then◌else◌, List, [], length, map, Option, Some, None}
use Rattle.std.specs.Prelude.{unwrap_or, Result, Ok, Err}
use Rattle.std.specs.Io.KnownBytes.{Consumes}
use Rattle.std.specs.List.{list_any}
use Rattle.std.specs.Option.{option_copied}
use Rattle.dl_addr.specs.Code.{is_code}
use Rattle.dl_buffers.specs.declared.record.FaultRecord.{FaultRecord}
use Rattle.dl_buffers.specs.declared.status.Status.{Status}
use Rattle.dl_buffers.specs.declared.status.Status.TheVariants as status
use Rattle.dl_dirs.specs.Compilation.{directory_by}
use Rattle.dl_head.specs.declared.dialect.Dialect.{Dialect}
use Rattle.dl_look.specs.declared.code_ranges.AddressRange.{AddressRange}
use Rattle.dl_look.specs.Ranges.{is_in}
use Rattle.dl_memory.specs.Refusals.{IsRefused}
use Rattle.dl_making.specs.declared.making.Made.{Made}
use Rattle.dl_making.specs.declared.making.MadeAround.{MadeAround}
use Rattle.dl_making.specs.declared.making.Table.{Table}
use Rattle.dl_making.specs.Makes.{Makes, MakesAround}
use Rattle.dl_print.specs.ValueText.{Strings}
use Rattle.dl_sections.specs.declared.fault.RunFault.{RunFault}
use Rattle.dl_sections.specs.declared.options.TheConstants.{SECTION_LIMIT}
use Rattle.dl_building.specs.declared.section.CodeRange.{CodeRange}
use Rattle.dl_building.specs.declared.section.SectionIndex.{SectionIndex}
use Rattle.dl_building.specs.FileFaults.{run_record, status_by}
use Rattle.dl_building.specs.Putting.{PutsIndex}

abbrev pub address_range : CodeRange → AddressRange
address_range r = record { start = r.start; size = r.size }

-- a sequence that begins at this address counts: in one of the ranges, or everywhere where all do, or there is no range
abbrev pub is_live : (all : Bool) (ranges : List CodeRange) (a : ℕ) → Bool
is_live all ranges a = if all || (length ranges == 0) then true else list_any (is_in a) (map address_range ranges)

-- what the index is made with
pub record IsTableOf (all : Bool) (ranges : List CodeRange) (table : Table) : Type 0 where
  pub code : (a : ℕ) → is_code (option_copied table.code) a ≡ is_live all ranges a
  pub directories : (unit : ℕ) → directory_by table.directories unit ≡ None
  pub says_all : table.all ≡ all
  pub build_id : table.build_id.now ≡ []

-- the index of the units up to the end, or of those that are whole; or why there is none
abbrev pub IsSectionBuilt : (refuses : ℕ → Type 0) → (keep_going : Bool) → Dialect → Strings → Table → (s : List ℕ) → Result SectionIndex RunFault → Type 0
IsSectionBuilt refuses false dialect strings table s (Ok built) =
    (bytes : List ℕ) × (left : Option (List ℕ)) × Consumes (Some s) left bytes × ((made : Made)
    × Makes refuses dialect strings table SECTION_LIMIT bytes left (Ok made) × (built.index.items ≡ made.index.items)
    × (built.damaged ≡ None))
IsSectionBuilt refuses false dialect strings table s (Err fault) =
    (bytes : List ℕ) × (left : Option (List ℕ)) × Consumes (Some s) left bytes
    × Makes refuses dialect strings table SECTION_LIMIT bytes left (Err fault)
IsSectionBuilt refuses true dialect strings table s (Ok built) =
    (bytes : List ℕ) × (left : Option (List ℕ)) × Consumes (Some s) left bytes × ((made : MadeAround)
    × MakesAround refuses dialect strings table SECTION_LIMIT bytes left (Ok made) × (built.index.items ≡ made.index.items)
    × (built.damaged ≡ made.survey.damaged))
IsSectionBuilt refuses true dialect strings table s (Err fault) =
    (bytes : List ℕ) × (left : Option (List ℕ)) × Consumes (Some s) left bytes
    × MakesAround refuses dialect strings table SECTION_LIMIT bytes left (Err fault)

-- of a room, a length and a fault, p, m and g before the call, and q, n and h after it: the index is put, or it is told why there
-- is none
abbrev pub PutsSection : (refuses : ℕ → Type 0) → (keep_going : Bool) → Dialect → Strings → Table → (s p q : List ℕ) (m n : ℕ) (g h : FaultRecord)
    → Status → Type 0
PutsSection refuses keep_going dialect strings table s p q m n g h end =
    ((built : SectionIndex) × IsSectionBuilt refuses keep_going dialect strings table s (Ok built)
    × PutsIndex built.index.items built.damaged p q n g h end)
    ⊎ ((fault : RunFault) × IsSectionBuilt refuses keep_going dialect strings table s (Err fault) × (q ≡ p) × (n ≡ m)
    × (h ≡ unwrap_or (run_record fault) g) × (end ≡ status_by (run_record fault)))

-- `build_section`; memory may be refused for the ranges too
abbrev pub BuildsSection : (refuses : ℕ → Type 0) → (keep_going : Bool) → Dialect → Strings → (all : Bool) (ranges : List CodeRange) (s p q : List ℕ)
    (m n : ℕ) (g h : FaultRecord) → Status → Type 0
BuildsSection refuses keep_going dialect strings all ranges s p q m n g h end =
    ((end ≡ status.NoMemory) × IsRefused refuses (length ranges) × (q ≡ p) × (n ≡ m) × (h ≡ g))
    ⊎ ((table : Table) × IsTableOf all ranges table × PutsSection refuses keep_going dialect strings table s p q m n g h end)
