-- A section of which units may be damaged: each is as long as its initial length says, and the next one begins after
-- it. DWARF 5, section 6.2.4; initial lengths are of section 7.4.
use Rattle.std.specs.Prelude.{⊤, ◌≡◌, ◌≢◌, ◌⊎◌, ◌<◌, ◌≤◌, ℕ, ◌+◌, List, take, Result, Ok, Err, [], ◌∷◌, ◌++◌, length}
use Rattle.std.specs.Prelude.{flat_map, Option, Some, None}
use Rattle.std.specs.List.{AllByRecursion}
use Rattle.std.specs.Io.KnownBytes.{IsAtEnd}
use Rattle.dl_head.specs.declared.dialect.Dialect.{Dialect}
use Rattle.dl_head.specs.Header.{unit_len}
use Rattle.dl_table.specs.declared.fault.FaultKind.{FaultKind}
use Rattle.dl_table.specs.declared.fault.FaultKind.TheVariants.{Truncated}
use Rattle.dl_rows.specs.LineUnit.{IsUnit}
use Rattle.dl_rows.specs.Reading.{WithinUnit}
use Rattle.dl_rows.specs.Refusal.{Refused}
use Rattle.dl_rows.specs.Runs.{Sound}
use Rattle.dl_sections.specs.declared.around.Damage.{Damage}
use Rattle.dl_sections.specs.declared.around.DamagedUnits.{DamagedUnits}
use Rattle.dl_sections.specs.declared.around.Survey.{Survey}
use Rattle.dl_sections.specs.declared.fault.RunFault.{RunFault}
use Rattle.dl_sections.specs.declared.fault.RunFault.TheVariants as fault
use Rattle.dl_sections.specs.Section.{Visit, RefusesCell, NoUnitBegins, of_damage, summary_of, unit_visits, visits}
use Rattle.dl_sections.specs.Visiting.{Settled, Story, VisitorStops, WritesFront}

-- ---- blocks

-- a unit that is whole; or one that is damaged, front being its bytes up to the one that decides its fault
pub data Block : Type 0 where
  whole : (u : List ℕ) → Block
  damaged : (front back : List ℕ) (at : ℕ) (kind : FaultKind) → Block

abbrev pub block_bytes : Block → List ℕ
block_bytes (whole u) = u
block_bytes (damaged front back at kind) = front ++ back

-- a damaged unit is as long as its initial length says, which is good
abbrev pub IsBlock : Dialect → Block → Type 0
IsBlock dialect (whole u) = IsUnit dialect u
IsBlock dialect (damaged front back at kind) =
    Refused dialect front at kind × (unit_len dialect front ≡ Some (length (front ++ back)))

abbrev pub bytes_of : List Block → List ℕ
bytes_of blocks = flat_map block_bytes blocks

abbrev pub whole_unit : Block → List (List ℕ)
whole_unit (whole u) = u ∷ []
whole_unit (damaged front back at kind) = []

-- the units that are whole
abbrev pub units_around : List Block → List (List ℕ)
units_around blocks = flat_map whole_unit blocks

-- the faults of blocks, the first at that offset
abbrev pub faults_in : (offset : ℕ) → List Block → List Damage
faults_in offset [] = []
faults_in offset (whole u ∷ blocks) = faults_in (offset + length u) blocks
faults_in offset (damaged front back at kind ∷ blocks) =
    record { offset = offset + at; kind = kind } ∷ faults_in (offset + length (front ++ back)) blocks

-- ---- what follows the blocks

pub data Rest : Type 0 where
  -- none of these bytes is refused
  begun : (b : List ℕ) → Rest
  -- the same, where the section ends
  cut_off : (b : List ℕ) → Rest
  -- front is refused
  broken : (front back : List ℕ) (at : ℕ) (kind : FaultKind) → Rest

abbrev pub rest_bytes : Rest → List ℕ
rest_bytes (begun b) = b
rest_bytes (cut_off b) = b
rest_bytes (broken front back at kind) = front ++ back

-- no unit begins it, and the last byte of a damaged one isn't there
abbrev pub IsRest : Dialect → Rest → Type 0
IsRest dialect (begun b) = Sound dialect b × NoUnitBegins dialect b
IsRest dialect (cut_off b) = Sound dialect b × NoUnitBegins dialect b × (b ≢ [])
IsRest dialect (broken front back at kind) =
    Refused dialect front at kind × ((n : ℕ) → unit_len dialect front ≡ Some n → length (front ++ back) < n)

-- its fault, where it begins at that offset
abbrev pub rest_faults : (offset : ℕ) → Rest → List Damage
rest_faults offset (begun b) = []
rest_faults offset (cut_off b) = record { offset = offset + length b; kind = Truncated } ∷ []
rest_faults offset (broken front back at kind) = record { offset = offset + at; kind = kind } ∷ []

-- s is blocks one after the other, and then a rest
pub record IsCut (dialect : Dialect) (s : List ℕ) (blocks : List Block) (rest : Rest) : Type 0 where
  pub whole : s ≡ bytes_of blocks ++ rest_bytes rest
  pub each : AllByRecursion (IsBlock dialect) blocks
  pub rest_is : IsRest dialect rest

-- bytes that don't go beyond one unit, up to its fault
abbrev pub IsFront : Dialect → Rest → Type 0
IsFront dialect (begun b) = WithinUnit dialect b
IsFront dialect (cut_off b) = WithinUnit dialect b × (b ≢ [])
IsFront dialect (broken front back at kind) = Refused dialect front at kind

-- s is these blocks, then bytes of one more, and then others
pub record IsCutTo (dialect : Dialect) (s : List ℕ) (blocks : List Block) (rest : Rest) (others : List ℕ) : Type 0 where
  pub whole : s ≡ bytes_of blocks ++ (rest_bytes rest ++ others)
  pub each : AllByRecursion (IsBlock dialect) blocks
  pub front : IsFront dialect rest

-- ---- how the reading of a section ends: bytes were read, of which the first `limit` are looked at, and a reader has
-- some left

-- the bytes are over: those of a section
abbrev pub AllIsRead : (limit : ℕ) (bytes : List ℕ) (left : Option (List ℕ)) → Type 0
AllIsRead limit bytes left = (length bytes ≤ limit) × IsAtEnd left

-- nothing is read after a unit without a good initial length; else the bytes are over
abbrev pub IsLast : Dialect → (limit : ℕ) (bytes : List ℕ) (left : Option (List ℕ)) → Rest → Type 0
IsLast dialect limit bytes left (begun b) = (b ≡ []) × AllIsRead limit bytes left
IsLast dialect limit bytes left (cut_off b) = AllIsRead limit bytes left
IsLast dialect limit bytes left (broken front back at kind) =
    (unit_len dialect front ≡ None) ⊎ AllIsRead limit bytes left

-- more bytes are read
abbrev pub IsOpen : Dialect → Rest → Type 0
IsOpen dialect (begun b) = ⊤
IsOpen dialect (cut_off b) = ⊥
IsOpen dialect (broken front back at kind) = (n : ℕ) × (unit_len dialect front ≡ Some n)

abbrev pub damaged_units : List Damage → Option DamagedUnits
damaged_units [] = None
damaged_units (first ∷ others) = Some (record { first = first; others = length others })

abbrev pub faults_of : List Block → Rest → List Damage
faults_of blocks rest = faults_in 0 blocks ++ rest_faults (length (bytes_of blocks)) rest

-- what the blocks and the rest come to
abbrev pub survey_of : Dialect → List Block → Rest → Survey
survey_of dialect blocks rest =
    record { summary = summary_of dialect (units_around blocks); damaged = damaged_units (faults_of blocks rest) }

-- where no write fails
abbrev pub EndsAround : Dialect → (limit : ℕ) (bytes : List ℕ) (left : Option (List ℕ)) (blocks : List Block)
    (rest : Rest) → Result Survey RunFault → Type 0
EndsAround dialect limit bytes left blocks rest (Ok survey) =
    IsCut dialect (take limit bytes) blocks rest × IsLast dialect limit bytes left rest
    × (survey ≡ survey_of dialect blocks rest)
EndsAround dialect limit bytes left blocks rest (Err fault.Read) =
    IsCut dialect bytes blocks rest × IsOpen dialect rest × (length bytes ≤ limit)
EndsAround dialect limit bytes left blocks rest (Err fault.SectionTooLong) =
    IsCut dialect (take limit bytes) blocks rest × IsOpen dialect rest × (limit < length bytes)
EndsAround dialect limit bytes left blocks rest (Err fault.NoMemory) =
    (b : List ℕ) × (others : List ℕ) × (rest ≡ begun b) × IsCutTo dialect (take limit bytes) blocks rest others
    × Sound dialect b × RefusesCell dialect b others
EndsAround dialect limit bytes left blocks rest (Err other) = ⊥

-- ---- what a command is told

abbrev pub block_visits : Dialect → (offset : ℕ) → Block → List Visit
block_visits dialect offset (whole u) = unit_visits dialect offset u
block_visits dialect offset (damaged front back at kind) =
    visits dialect offset front ++ of_damage offset (offset + at) kind ∷ []

-- of blocks one after the other, the first at that offset
abbrev pub blocks_visits : Dialect → (offset : ℕ) → List Block → List Visit
blocks_visits dialect offset [] = []
blocks_visits dialect offset (block ∷ blocks) =
    block_visits dialect offset block ++ blocks_visits dialect (offset + length (block_bytes block)) blocks

abbrev pub rest_visits : Dialect → (offset : ℕ) → Rest → List Visit
rest_visits dialect offset (begun b) = visits dialect offset b
rest_visits dialect offset (cut_off b) = visits dialect offset b ++ of_damage offset (offset + length b) Truncated ∷ []
rest_visits dialect offset (broken front back at kind) =
    visits dialect offset front ++ of_damage offset (offset + at) kind ∷ []

-- of blocks, and of what follows them
abbrev pub visits_around : Dialect → List Block → Rest → List Visit
visits_around dialect blocks rest =
    blocks_visits dialect 0 blocks ++ rest_visits dialect (length (bytes_of blocks)) rest

-- what isn't said to be damaged isn't refused
abbrev pub IsSoundSoFar : Dialect → Rest → Type 0
IsSoundSoFar dialect (begun b) = Sound dialect b
IsSoundSoFar dialect other = ⊤

-- `read_units_around`: the units to the end, or up to one after which the visitor wants nothing more; or a write failed;
-- or the input ended the reading, or the visitor had a reason
abbrev pub RanAround : {S : Type 0} → Story S → Dialect
    → (limit : ℕ) (bytes : List ℕ) (left : Option (List ℕ)) (first new : S) (start now : Option (List ℕ))
    → Result Survey RunFault → Type 0
RanAround story dialect limit bytes left first new start now (Ok survey) =
    ((blocks : List Block) × (rest : Rest) × EndsAround dialect limit bytes left blocks rest (Ok survey)
    × Settled story first start now (visits_around dialect blocks rest) (story.tells first new start now))
    ⊎ ((blocks : List Block) × (others : List ℕ) × IsCutTo dialect (take limit bytes) blocks (begun []) others
    × (survey ≡ survey_of dialect blocks (begun []))
    × Settled story first start now (visits_around dialect blocks (begun [])) (story.is_done first new start now))
RanAround story dialect limit bytes left first new start now (Err (fault.Write out)) =
    (blocks : List Block) × (rest : Rest) × (others : List ℕ) × IsCutTo dialect (take limit bytes) blocks rest others
    × WritesFront story first start now (visits_around dialect blocks rest) (fault.Write out)
RanAround story dialect limit bytes left first new start now (Err f) =
    (blocks : List Block) × (rest : Rest)
    × ((EndsAround dialect limit bytes left blocks rest (Err f)
    × Settled story first start now (visits_around dialect blocks rest) (story.tells first new start now))
    ⊎ ((others : List ℕ) × IsCutTo dialect (take limit bytes) blocks rest others × IsSoundSoFar dialect rest
    × VisitorStops story first new start now (visits_around dialect blocks rest) f))
