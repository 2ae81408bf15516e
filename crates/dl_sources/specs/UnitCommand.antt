-- What `sources_of_unit` answers and writes: the paths of one unit of a section, which begins at the offset `unit`. bytes: what
-- was read from a reader, which has `left` left. start, now: what the writer held at first, and holds now. refuses: for how many
-- items memory is refused. DWARF 5, sections 3.1.1 and 6.2.4.
use Rattle.std.specs.Prelude.{◌≡◌, ◌⊎◌, ℕ, ◌+◌, ◌==◌, ◌&&◌, ◌||◌, Bool, true, false, if◌then◌else◌, is_some, List, [], ◌∷◌, ◌++◌}
use Rattle.std.specs.Prelude.{length, take, Option, Some, None, Result, Ok, Err}
use Rattle.std.specs.Io.KnownBytes.{Appends, Keeps}
use Rattle.std.specs.Option.{option_or}
use Rattle.dl_head.specs.declared.dialect.Dialect.{Dialect}
use Rattle.dl_head.specs.Header.{foreign_in, header_in}
use Rattle.dl_table.specs.declared.fault.FaultKind.{FaultKind}
use Rattle.dl_print.specs.Output.{TellsOut}
use Rattle.dl_print.specs.ValueText.{Strings}
use Rattle.dl_rows.specs.LineUnit.{unit_rows}
use Rattle.dl_sections.specs.declared.around.Damage.{Damage}
use Rattle.dl_sections.specs.declared.around.Survey.{Survey}
use Rattle.dl_sections.specs.declared.fault.RunFault.{RunFault}
use Rattle.dl_sections.specs.declared.fault.RunFault.TheVariants as fault
use Rattle.dl_sections.specs.Around.{Block, whole, damaged, block_bytes, bytes_of, Rest, begun, cut_off, broken, EndsAround, IsCutTo}
use Rattle.dl_sections.specs.Around.{faults_of, rest_faults}
use Rattle.dl_sections.specs.Section.{RefusesCell, header_of}
use Rattle.dl_sources.specs.declared.question.SourcesQuestion.{SourcesQuestion}
use Rattle.dl_sources.specs.declared.question.Sums.{Sums}
use Rattle.dl_sources.specs.Report.{report, sums_told}
use Rattle.dl_sources.specs.SectionTold.{unit_mentions}
use Rattle.dl_sources.specs.Sources.{Mention}
use Rattle.dl_sources.specs.Wanting.{RefusesListing}

-- ---- the unit, among blocks of which the first begins at `offset`

-- one of these is the unit, and is whole
abbrev pub is_whole_at : (unit offset : ℕ) → List Block → Bool
is_whole_at unit offset [] = false
is_whole_at unit offset (whole u ∷ blocks) = (offset == unit) || is_whole_at unit (offset + length u) blocks
is_whole_at unit offset (damaged front back at kind ∷ blocks) = is_whole_at unit (offset + length (front ++ back)) blocks

abbrev pub first_of : List Damage → Option Damage
first_of [] = None
first_of (damage ∷ others) = Some damage

-- what is wrong with the unit, where one of these is it, or the rest is
abbrev pub damage_at : (unit offset : ℕ) → List Block → Rest → Option Damage
damage_at unit offset [] rest = if offset == unit then first_of (rest_faults offset rest) else None
damage_at unit offset (whole u ∷ blocks) rest = damage_at unit (offset + length u) blocks rest
damage_at unit offset (damaged front back at kind ∷ blocks) rest =
    if offset == unit then Some (record { offset = offset + at; kind = kind })
    else damage_at unit (offset + length (front ++ back)) blocks rest

-- the bytes that were told of a block, and of a rest
abbrev pub block_front : Block → List ℕ
block_front (whole u) = u
block_front (damaged front back at kind) = front

abbrev pub rest_front : Rest → List ℕ
rest_front (begun b) = b
rest_front (cut_off b) = b
rest_front (broken front back at kind) = front

-- b is the unit, or a front of it, and says its version or has its header
abbrev pub begins_by : Dialect → (unit offset : ℕ) → (b : List ℕ) → Bool
begins_by dialect unit offset b = (offset == unit) && (is_some (foreign_in dialect b) || is_some (header_in dialect b))

-- one of these is, or the rest is
abbrev pub begins_at : Dialect → (unit offset : ℕ) → List Block → Rest → Bool
begins_at dialect unit offset [] rest = begins_by dialect unit offset (rest_front rest)
begins_at dialect unit offset (block ∷ blocks) rest =
    begins_by dialect unit offset (block_front block)
    || begins_at dialect unit (offset + length (block_bytes block)) blocks rest

-- ---- `sources_of_unit`

-- the unit is whole: u, after these blocks
pub record ReadsWhole (dialect : Dialect) (unit limit : ℕ) (bytes : List ℕ) : Type 0 where
  pub before : List Block
  pub u : List ℕ
  pub others : List ℕ
  pub cut : IsCutTo dialect (take limit bytes) (before ++ whole u ∷ []) (begun []) others
  pub at : length (bytes_of before) ≡ unit

-- what its table of files tells
abbrev pub told_of : {dialect : Dialect} {unit limit : ℕ} {bytes : List ℕ} → Strings → SourcesQuestion
    → ReadsWhole dialect unit limit bytes → List Mention
told_of {dialect} {unit} s q read = unit_mentions s q unit (header_of dialect read.u) (unit_rows dialect read.u)

-- the section is read to its end, of which no whole unit is the one
pub record ReadsOthers (dialect : Dialect) (unit limit : ℕ) (bytes : List ℕ) (left : Option (List ℕ)) : Type 0 where
  pub blocks : List Block
  pub rest : Rest
  pub survey : Survey
  pub ends : EndsAround dialect limit bytes left blocks rest (Ok survey)
  pub not_whole : is_whole_at unit 0 blocks ≡ false

-- the unit is damaged: the section is read to its end, or up to the end of a unit that is whole
abbrev pub ReadsDamaged : Dialect → (unit limit : ℕ) (bytes : List ℕ) (left : Option (List ℕ)) → Damage → Type 0
ReadsDamaged dialect unit limit bytes left damage =
    (blocks : List Block) × (rest : Rest)
    × (((survey : Survey) × EndsAround dialect limit bytes left blocks rest (Ok survey))
    ⊎ ((others : List ℕ) × (rest ≡ begun []) × IsCutTo dialect (take limit bytes) blocks rest others))
    × (damage_at unit 0 blocks rest ≡ Some damage)

-- memory was refused: for what the next byte adds to a header of a unit up to this one; or for what was told of it, which began
abbrev pub WantsUnit : (refuses : ℕ → Type 0) → Dialect → Strings → SourcesQuestion → (unit limit : ℕ) (bytes : List ℕ) → Type 0
WantsUnit refuses dialect s q unit limit bytes =
    ((blocks : List Block) × (b : List ℕ) × (others : List ℕ) × IsCutTo dialect (take limit bytes) blocks (begun b) others
    × RefusesCell dialect b others × (is_whole_at unit 0 blocks ≡ false))
    ⊎ ((blocks : List Block) × (rest : Rest) × (others : List ℕ) × IsCutTo dialect (take limit bytes) blocks rest others
    × (begins_at dialect unit 0 blocks rest ≡ true) × RefusesListing refuses s q (length (take limit bytes)))

abbrev pub ListsUnit : (refuses : ℕ → Type 0) → Dialect → Strings → SourcesQuestion
    → (unit limit : ℕ) (bytes : List ℕ) (left start now : Option (List ℕ)) → Result Sums RunFault → Type 0
ListsUnit refuses dialect s q unit limit bytes left start now (Ok sums) =
    (read : ReadsWhole dialect unit limit bytes) × (sums ≡ sums_told (told_of s q read))
    × Appends start now (report q (told_of s q read))
ListsUnit refuses dialect s q unit limit bytes left start now (Err (fault.Write out)) =
    (read : ReadsWhole dialect unit limit bytes) × TellsOut start now (report q (told_of s q read)) (record { out = out })
ListsUnit refuses dialect s q unit limit bytes left start now (Err (fault.Damage offset kind)) =
    (ReadsDamaged dialect unit limit bytes left (record { offset = offset; kind = kind })
    ⊎ ((read : ReadsOthers dialect unit limit bytes left) × (damage_at unit 0 read.blocks read.rest ≡ None)
    × (first_of (faults_of read.blocks read.rest) ≡ Some (record { offset = offset; kind = kind }))))
    × Keeps start now
-- no unit is damaged
ListsUnit refuses dialect s q unit limit bytes left start now (Err fault.NoUnit) =
    (read : ReadsOthers dialect unit limit bytes left) × (faults_of read.blocks read.rest ≡ []) × Keeps start now
ListsUnit refuses dialect s q unit limit bytes left start now (Err fault.NoMemory) =
    WantsUnit refuses dialect s q unit limit bytes × Keeps start now
ListsUnit refuses dialect s q unit limit bytes left start now (Err f) =
    (blocks : List Block) × (rest : Rest) × EndsAround dialect limit bytes left blocks rest (Err f)
    × (is_whole_at unit 0 blocks ≡ false) × Keeps start now
