-- What `addr_around` answers and writes: as `addr`, of a section of which units may be damaged.
use Rattle.std.specs.Prelude.{◌≡◌, ◌⊎◌, ℕ, ◌+◌, true, List, [], ◌∷◌, ◌++◌, length, take, flat_map, is_some, slice_get}
use Rattle.std.specs.Prelude.{Bool, Option, Some, None, Result, Ok, Err}
use Rattle.std.specs.Option.{option_and_then, option_copied, option_or}
use Rattle.std.specs.Io.KnownBytes.{Appends, Keeps}
use Rattle.dl_head.specs.declared.dialect.Dialect.{Dialect}
use Rattle.dl_memory.specs.Refusals.{IsRefused}
use Rattle.dl_print.specs.Output.{TellsOut}
use Rattle.dl_print.specs.ValueText.{Strings}
use Rattle.dl_sections.specs.declared.around.Survey.{Survey}
use Rattle.dl_sections.specs.declared.fault.RunFault.{RunFault}
use Rattle.dl_sections.specs.declared.fault.RunFault.TheVariants as fault
use Rattle.dl_sections.specs.Around.{Block, whole, damaged, block_bytes, units_around, Rest, begun, EndsAround, IsCutTo}
use Rattle.dl_look.specs.declared.asked.Asked.{Asked}
use Rattle.dl_look.specs.declared.place.Place.{Place}
use Rattle.dl_look.specs.Asked.{looked_up, place_of}
use Rattle.dl_dirs.specs.Compilation.{directory_by}
use Rattle.dl_addr.specs.declared.question.FoundAround.{FoundAround}
use Rattle.dl_addr.specs.declared.question.Question.{Question}
use Rattle.dl_addr.specs.Code.{is_code}
use Rattle.dl_addr.specs.Commands.{answers_room, found_in}
use Rattle.dl_addr.specs.Locations.{Located, asked_line, located_in}

-- of a block at that offset; a damaged unit answers for no place
abbrev pub located_in_block : Dialect → (live : ℕ → Bool) → (offset : ℕ) → Block → Place → Option Located
located_in_block dialect live offset (whole u) x = located_in dialect live offset u x
located_in_block dialect live offset (damaged front back at kind) x = None

-- of blocks one after the other, the first at that offset: of the first that has an answer
abbrev pub located_along : Dialect → (live : ℕ → Bool) → (offset : ℕ) → List Block → Place → Option Located
located_along dialect live offset [] x = None
located_along dialect live offset (block ∷ blocks) x =
    option_or (located_in_block dialect live offset block x)
    (located_along dialect live (offset + length (block_bytes block)) blocks x)

-- of the blocks of a section
abbrev pub located_around : Dialect → (live : ℕ → Bool) → List Block → Place → Option Located
located_around dialect live blocks x = located_along dialect live 0 blocks x

-- what the blocks answer for what is asked
abbrev pub answer_around : Dialect → Question → List Block → Asked → Option Located
answer_around dialect q blocks a =
    option_and_then (located_around dialect (is_code (option_copied q.code)) blocks) (place_of q.base a)

-- a line for each address, in the order in which they are asked
abbrev pub lines_around : Dialect → Strings → Question → List Block → List ℕ
lines_around dialect s q blocks =
    flat_map (λ a. asked_line q.style (directory_by q.directories) s a (answer_around dialect q blocks a)) q.asked.now

-- u is a whole unit after these blocks, and the first to answer for a place that is looked up
pub record AnswersFirstAfter (dialect : Dialect) (q : Question) (blocks : List Block) (u : List ℕ) : Type 0 where
  pub a : Asked
  pub number : ℕ
  pub is_asked : slice_get q.asked.now number ≡ Some a
  pub not_before : located_around dialect (is_code (option_copied q.code)) blocks (looked_up q.base a) ≡ None
  pub answers : is_some (located_around dialect (is_code (option_copied q.code)) (blocks ++ whole u ∷ [])
      (looked_up q.base a)) ≡ true

-- how the reading ends: as that of `check_around`, or memory was refused for the answers of u, a whole unit after these
-- blocks
abbrev pub EndsAsked : (refuses : ℕ → Type 0) → Dialect → (limit : ℕ) (bytes : List ℕ) (left : Option (List ℕ)) → Question
    → (blocks : List Block) (rest : Rest) → Result Survey RunFault → Type 0
EndsAsked refuses dialect limit bytes left q blocks rest (Err fault.NoMemory) =
    EndsAround dialect limit bytes left blocks rest (Err fault.NoMemory)
    ⊎ ((u : List ℕ) × (others : List ℕ) × (rest ≡ begun u)
    × IsCutTo dialect (take limit bytes) (blocks ++ whole u ∷ []) (begun []) others
    × AnswersFirstAfter dialect q blocks u × IsRefused refuses (answers_room q u))
EndsAsked refuses dialect limit bytes left q blocks rest result = EndsAround dialect limit bytes left blocks rest result

-- `addr_around`: the lines of what is asked, answered by the whole units before the end or the fault. Where memory was
-- refused for the places, nothing is read or written.
abbrev pub LocatesAround : (refuses : ℕ → Type 0) → Dialect → Strings → Question
    → (limit : ℕ) (bytes : List ℕ) (left start now : Option (List ℕ)) → Result FoundAround RunFault → Type 0
LocatesAround refuses dialect s q limit bytes left start now (Ok answered) =
    (blocks : List Block) × (rest : Rest) × (survey : Survey)
    × EndsAround dialect limit bytes left blocks rest (Ok survey) × (answered.damaged ≡ survey.damaged)
    × (answered.found ≡ found_in dialect q (units_around blocks))
    × Appends start now (lines_around dialect s q blocks)
LocatesAround refuses dialect s q limit bytes left start now (Err (fault.Write out)) =
    (blocks : List Block) × (rest : Rest) × (ending : Result Survey RunFault)
    × EndsAsked refuses dialect limit bytes left q blocks rest ending
    × TellsOut start now (lines_around dialect s q blocks) (record { out = out })
LocatesAround refuses dialect s q limit bytes left start now (Err fault.NoMemory) =
    ((bytes ≡ []) × IsRefused refuses (length q.asked.now + 1) × Keeps start now)
    ⊎ ((blocks : List Block) × (rest : Rest) × EndsAsked refuses dialect limit bytes left q blocks rest (Err fault.NoMemory)
    × Appends start now (lines_around dialect s q blocks))
LocatesAround refuses dialect s q limit bytes left start now (Err f) =
    (blocks : List Block) × (rest : Rest) × EndsAsked refuses dialect limit bytes left q blocks rest (Err f)
    × Appends start now (lines_around dialect s q blocks)
