-- What is told of the units of a section that lies in memory, around those that are damaged. DWARF 5, section 6.2.4.
use Rattle.std.specs.Prelude.{◌≡◌, ◌⊎◌, ℕ, ◌+◌, List, [], ◌∷◌, ◌++◌, length, Some, Result, Ok, Err}
use Rattle.dl_head.specs.declared.dialect.Dialect.{Dialect}
use Rattle.dl_rows.specs.LineUnit.{unit_rows}
use Rattle.dl_sections.specs.declared.around.Survey.{Survey}
use Rattle.dl_sections.specs.declared.fault.RunFault.TheVariants as fault
use Rattle.dl_sections.specs.Around.{Block, whole, damaged, Rest, begun, IsCutTo, EndsAround, survey_of}
use Rattle.dl_sections.specs.InMemory.{UnitStory, UnitTold, unit_told}

-- of blocks one after the other, the first at that offset, the units that are whole
abbrev pub blocks_told : Dialect → (offset : ℕ) → List Block → List UnitTold
blocks_told dialect offset [] = []
blocks_told dialect offset (whole u ∷ blocks) =
    unit_told dialect offset u ∷ blocks_told dialect (offset + length u) blocks
blocks_told dialect offset (damaged front back at kind ∷ blocks) =
    blocks_told dialect (offset + length (front ++ back)) blocks

-- `read_section_around`: the whole units to the end of s, or up to one after which the sink wants nothing more; or those
-- before one whose header wants memory, and the rows of that one, as of a reader that gave s, and then its end
abbrev pub ReadsAround : {S E : Type 0} → UnitStory S → Dialect → (s : List ℕ) (first new : S) → Result Survey E → Type 0
ReadsAround story dialect s first new (Ok survey) =
    ((blocks : List Block) × (rest : Rest) × EndsAround dialect (length s) s (Some []) blocks rest (Ok survey)
    × story.hears first new (blocks_told dialect 0 blocks) [])
    ⊎ ((blocks : List Block) × (others : List ℕ) × IsCutTo dialect s blocks (begun []) others
    × (survey ≡ survey_of dialect blocks (begun [])) × story.is_done first new (blocks_told dialect 0 blocks))
ReadsAround story dialect s first new (Err refused) =
    (blocks : List Block) × (b : List ℕ) × EndsAround dialect (length s) s (Some []) blocks (begun b) (Err fault.NoMemory)
    × story.hears first new (blocks_told dialect 0 blocks) (unit_rows dialect b)
