-- What `sources_around` answers and writes: as `sources`, of a section of which units may be damaged.
use Rattle.std.specs.Prelude.{◌≡◌, ◌≢◌, ◌⊎◌, ℕ, ◌+◌, List, [], ◌∷◌, ◌++◌, length, take, Option, Result, Ok, Err}
use Rattle.std.specs.Io.KnownBytes.{Appends, Keeps}
use Rattle.dl_head.specs.declared.dialect.Dialect.{Dialect}
use Rattle.dl_rows.specs.LineUnit.{unit_rows}
use Rattle.dl_print.specs.Output.{TellsOut}
use Rattle.dl_print.specs.ValueText.{Strings}
use Rattle.dl_sections.specs.declared.around.Survey.{Survey}
use Rattle.dl_sections.specs.declared.fault.RunFault.{RunFault}
use Rattle.dl_sections.specs.declared.fault.RunFault.TheVariants as fault
use Rattle.dl_sections.specs.Around.{Block, whole, damaged, block_bytes, Rest, begun, EndsAround, IsCutTo}
use Rattle.dl_sections.specs.Section.{RefusesCell, header_of}
use Rattle.dl_sources.specs.declared.question.SourcesAround.{SourcesAround}
use Rattle.dl_sources.specs.declared.question.SourcesQuestion.{SourcesQuestion}
use Rattle.dl_sources.specs.Report.{report, sums_told}
use Rattle.dl_sources.specs.SectionTold.{unit_mentions}
use Rattle.dl_sources.specs.Sources.{Mention}
use Rattle.dl_sources.specs.Wanting.{RefusesListing}

-- a damaged unit tells nothing
abbrev pub block_mentions : Dialect → Strings → SourcesQuestion → (offset : ℕ) → Block → List Mention
block_mentions dialect s q offset (whole u) = unit_mentions s q offset (header_of dialect u) (unit_rows dialect u)
block_mentions dialect s q offset (damaged front back at kind) = []

-- blocks one after the other, the first at that offset
abbrev pub mentions_along : Dialect → Strings → SourcesQuestion → (offset : ℕ) → List Block → List Mention
mentions_along dialect s q offset [] = []
mentions_along dialect s q offset (block ∷ blocks) =
    block_mentions dialect s q offset block ++ mentions_along dialect s q (offset + length (block_bytes block)) blocks

-- the blocks of a section
abbrev pub mentions_around : Dialect → Strings → SourcesQuestion → List Block → List Mention
mentions_around dialect s q blocks = mentions_along dialect s q 0 blocks

-- memory was refused: after these blocks and b for what the next byte adds to a header, or for what was told
abbrev pub WantsAround : (refuses : ℕ → Type 0) → Dialect → Strings → SourcesQuestion → (limit : ℕ) (bytes : List ℕ) → Type 0
WantsAround refuses dialect s q limit bytes =
    ((blocks : List Block) × (b : List ℕ) × (others : List ℕ) × IsCutTo dialect (take limit bytes) blocks (begun b) others
    × RefusesCell dialect b others)
    ⊎ RefusesListing refuses s q (length (take limit bytes))

-- the lines of what the whole units before the end or the fault tell; nothing where memory was refused
abbrev pub ListsAround : (refuses : ℕ → Type 0) → Dialect → Strings → SourcesQuestion
    → (limit : ℕ) (bytes : List ℕ) (left start now : Option (List ℕ)) → Result SourcesAround RunFault → Type 0
ListsAround refuses dialect s q limit bytes left start now (Ok around) =
    (blocks : List Block) × (rest : Rest) × (survey : Survey) × EndsAround dialect limit bytes left blocks rest (Ok survey)
    × (around.damaged ≡ survey.damaged) × (around.sums ≡ sums_told (mentions_around dialect s q blocks))
    × Appends start now (report q (mentions_around dialect s q blocks))
ListsAround refuses dialect s q limit bytes left start now (Err (fault.Write out)) =
    (blocks : List Block) × (rest : Rest) × (ending : Result Survey RunFault) × (ending ≢ Err fault.NoMemory)
    × EndsAround dialect limit bytes left blocks rest ending
    × TellsOut start now (report q (mentions_around dialect s q blocks)) (record { out = out })
ListsAround refuses dialect s q limit bytes left start now (Err fault.NoMemory) =
    WantsAround refuses dialect s q limit bytes × Keeps start now
ListsAround refuses dialect s q limit bytes left start now (Err f) =
    (blocks : List Block) × (rest : Rest) × EndsAround dialect limit bytes left blocks rest (Err f)
    × Appends start now (report q (mentions_around dialect s q blocks))
