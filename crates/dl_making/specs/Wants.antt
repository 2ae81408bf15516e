-- When memory is wanted for an index. refuses: for how many items memory is refused.
use Rattle.std.specs.Prelude.{◌≡◌, ◌≢◌, ◌⊎◌, ℕ, List, [], length, take, Option}
use Rattle.dl_head.specs.declared.dialect.Dialect.{Dialect}
use Rattle.dl_print.specs.ValueText.{Strings}
use Rattle.dl_sections.specs.Around.{Block, Rest, begun, IsCutTo, visits_around}
use Rattle.dl_sections.specs.Section.{RefusesCell, HasBegun, section_visits}
use Rattle.dl_index.specs.Stretches.{Told}
use Rattle.dl_making.specs.declared.making.Table.{Table}
use Rattle.dl_making.specs.Room.{RefusesRoom}
use Rattle.dl_making.specs.TellsMany.{TellsMany}

-- for an index of these bytes of a section, or of the first of them, up to a limit: memory was refused for no more than their
-- room
abbrev pub RefusesIndex : (refuses : ℕ → Type 0) → Strings → Table → (limit : ℕ) (bytes : List ℕ) → Type 0
RefusesIndex refuses s table limit bytes = RefusesRoom refuses s table.directories (length (take limit bytes))

-- while a section is read: for what its bytes add to a header, or memory was refused for what was told of it
abbrev pub WantsMemory : (refuses : ℕ → Type 0) → Dialect → Strings → Table → (limit : ℕ) (bytes : List ℕ) → Type 0
WantsMemory refuses dialect s table limit bytes =
    (units : List (List ℕ)) × (b : List ℕ) × (back : List ℕ) × HasBegun dialect (take limit bytes) units b back
    × (RefusesCell dialect b back
    ⊎ ((section_visits dialect units b ≢ []) × RefusesIndex refuses s table limit bytes))

-- the same around damaged units
abbrev pub WantsMemoryAround : (refuses : ℕ → Type 0) → Dialect → Strings → Table → (limit : ℕ) (bytes : List ℕ) → Type 0
WantsMemoryAround refuses dialect s table limit bytes =
    (blocks : List Block) × (rest : Rest) × (others : List ℕ) × IsCutTo dialect (take limit bytes) blocks rest others
    × (((b : List ℕ) × (rest ≡ begun b) × RefusesCell dialect b others)
    ⊎ ((visits_around dialect blocks rest ≢ []) × RefusesIndex refuses s table limit bytes))

-- for the index of what f tells, of these bytes: memory was refused, or it would have too many files or texts
abbrev pub WantsIndex : (refuses : ℕ → Type 0) → Strings → Table → (limit : ℕ) (bytes : List ℕ) → (f : ℕ → Option Told)
    → Type 0
WantsIndex refuses s table limit bytes f = RefusesIndex refuses s table limit bytes ⊎ TellsMany f
