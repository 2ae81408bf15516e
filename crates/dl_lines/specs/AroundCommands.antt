-- What `lines_around` answers and writes, which goes on after damaged units. bytes, left, start, now, refuses: as for `lines`.
use Rattle.std.specs.Prelude.{◌≡◌, ◌⊎◌, ℕ, ◌+◌, not, if◌then◌else◌, List, [], ◌∷◌, ◌++◌, length, take, flat_map}
use Rattle.std.specs.Prelude.{Option, Result, Ok, Err}
use Rattle.std.specs.List.{list_all}
use Rattle.std.specs.Io.KnownBytes.{Appends, Keeps}
use Rattle.dl_head.specs.declared.dialect.Dialect.{Dialect}
use Rattle.dl_memory.specs.Refusals.{IsRefused}
use Rattle.dl_rows.specs.LineUnit.{unit_rows}
use Rattle.dl_print.specs.Output.{TellsOut}
use Rattle.dl_print.specs.ValueText.{Strings}
use Rattle.dl_sections.specs.declared.around.Survey.{Survey}
use Rattle.dl_sections.specs.declared.fault.RunFault.{RunFault}
use Rattle.dl_sections.specs.declared.fault.RunFault.TheVariants as fault
use Rattle.dl_sections.specs.Around.{Block, whole, damaged, block_bytes, EndsAround, IsCutTo, Rest, visits_around}
use Rattle.dl_sections.specs.Section.{header_of}
use Rattle.dl_addr.specs.declared.question.FoundAround.{FoundAround}
use Rattle.dl_addr.specs.declared.question.WhichFound.{WhichFound}
use Rattle.dl_addr.specs.declared.question.WhichFound.TheVariants as found
use Rattle.dl_lines.specs.declared.question.LinesQuestion.{LinesQuestion}
use Rattle.dl_lines.specs.Places.{CodePlace, Known, path_in, places_of_rows}
use Rattle.dl_lines.specs.Answers.{answering, is_nothing}
use Rattle.dl_lines.specs.Lines.{answer_text}
use Rattle.dl_lines.specs.Room.{told_room}
use Rattle.dl_lines.specs.Commands.{known_by}

-- a damaged unit has no places
abbrev pub places_in_block : Dialect → Known → (offset : ℕ) → Block → List CodePlace
places_in_block dialect known offset (whole u) =
    places_of_rows known.live (path_in known offset (header_of dialect u)) (unit_rows dialect u)
places_in_block dialect known offset (damaged front back at kind) = []

-- of blocks one after the other, the first at that offset
abbrev pub places_along : Dialect → Known → (offset : ℕ) → List Block → List CodePlace
places_along dialect known offset [] = []
places_along dialect known offset (block ∷ blocks) =
    places_in_block dialect known offset block
    ++ places_along dialect known (offset + length (block_bytes block)) blocks

-- of the blocks of a section
abbrev pub places_around : Dialect → Known → List Block → List CodePlace
places_around dialect known blocks = places_along dialect known 0 blocks

-- the lines of each that is wanted, in the order in which they are asked
abbrev pub answer_lines_around : Dialect → Strings → LinesQuestion → List Block → List ℕ
answer_lines_around dialect s q blocks =
    flat_map (answer_text q.exact (places_around dialect (known_by s q) blocks)) q.wanted.now

-- whether each has a place
abbrev pub found_around : Dialect → Strings → LinesQuestion → List Block → WhichFound
found_around dialect s q blocks =
    if list_all (λ w. not (is_nothing (answering q.exact w (places_around dialect (known_by s q) blocks)))) q.wanted.now
    then found.All else found.NotAll

-- memory was refused for what is wanted, or for what these blocks and the rest tell
abbrev pub RefusesAround : (refuses : ℕ → Type 0) → Dialect → Strings → LinesQuestion → List Block → Rest → Type 0
RefusesAround refuses dialect s q blocks rest =
    IsRefused refuses (length q.wanted.now + told_room (known_by s q) (visits_around dialect blocks rest))

-- memory was refused before anything was read, or while a unit was, or when the reading had ended
abbrev pub WantsMemoryAround : (refuses : ℕ → Type 0) → Dialect → Strings → LinesQuestion → (limit : ℕ) (bytes : List ℕ)
    (left : Option (List ℕ)) → Type 0
WantsMemoryAround refuses dialect s q limit bytes left =
    ((bytes ≡ []) × IsRefused refuses (length q.wanted.now))
    ⊎ ((blocks : List Block) × (rest : Rest) × RefusesAround refuses dialect s q blocks rest
    × (((others : List ℕ) × IsCutTo dialect (take limit bytes) blocks rest others)
    ⊎ ((ending : Result Survey RunFault) × EndsAround dialect limit bytes left blocks rest ending)))

-- `lines_around`: the lines of what is wanted, answered by the whole units before the end or the fault. Where memory is
-- refused, nothing is written.
abbrev pub TellsLinesAround : (refuses : ℕ → Type 0) → Dialect → Strings → LinesQuestion → (limit : ℕ) (bytes : List ℕ)
    (left start now : Option (List ℕ)) → Result FoundAround RunFault → Type 0
TellsLinesAround refuses dialect s q limit bytes left start now (Ok answered) =
    (blocks : List Block) × (rest : Rest) × (survey : Survey)
    × EndsAround dialect limit bytes left blocks rest (Ok survey) × (answered.damaged ≡ survey.damaged)
    × (answered.found ≡ found_around dialect s q blocks) × Appends start now (answer_lines_around dialect s q blocks)
TellsLinesAround refuses dialect s q limit bytes left start now (Err (fault.Write out)) =
    (blocks : List Block) × (rest : Rest) × (ending : Result Survey RunFault)
    × EndsAround dialect limit bytes left blocks rest ending
    × TellsOut start now (answer_lines_around dialect s q blocks) (record { out = out })
TellsLinesAround refuses dialect s q limit bytes left start now (Err fault.NoMemory) =
    Keeps start now × (WantsMemoryAround refuses dialect s q limit bytes left
    ⊎ ((blocks : List Block) × (rest : Rest) × EndsAround dialect limit bytes left blocks rest (Err fault.NoMemory)))
TellsLinesAround refuses dialect s q limit bytes left start now (Err f) =
    (blocks : List Block) × (rest : Rest) × EndsAround dialect limit bytes left blocks rest (Err f)
    × Appends start now (answer_lines_around dialect s q blocks)
