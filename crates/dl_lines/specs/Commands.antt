-- What `lines` answers and writes. bytes: what was read from a reader, which has `left` left. start, now: what the writer held
-- at first, and holds now. None: it isn't known. refuses: for how many items memory is refused.
use Rattle.std.specs.Prelude.{◌≡◌, ◌⊎◌, ℕ, ◌+◌, not, if◌then◌else◌, List, [], length, take, flat_map}
use Rattle.std.specs.Prelude.{Option, Result, Ok, Err}
use Rattle.std.specs.List.{list_all}
use Rattle.std.specs.Option.{option_copied}
use Rattle.std.specs.Io.KnownBytes.{Appends, Keeps}
use Rattle.dl_head.specs.declared.dialect.Dialect.{Dialect}
use Rattle.dl_memory.specs.Refusals.{IsRefused}
use Rattle.dl_rows.specs.Runs.{Sound}
use Rattle.dl_print.specs.Output.{TellsOut}
use Rattle.dl_print.specs.ValueText.{Strings}
use Rattle.dl_print.specs.declared.summary.Summary.{Summary}
use Rattle.dl_sections.specs.declared.fault.RunFault.{RunFault}
use Rattle.dl_sections.specs.declared.fault.RunFault.TheVariants as fault
use Rattle.dl_sections.specs.Section.{EndsAs, HasBegun, section_visits}
use Rattle.dl_addr.specs.declared.question.WhichFound.{WhichFound}
use Rattle.dl_addr.specs.declared.question.WhichFound.TheVariants as found
use Rattle.dl_addr.specs.Code.{is_code}
use Rattle.dl_dirs.specs.Compilation.{directory_by}
use Rattle.dl_lines.specs.declared.question.LinesQuestion.{LinesQuestion}
use Rattle.dl_lines.specs.Places.{Known, places_in}
use Rattle.dl_lines.specs.Answers.{answering, is_nothing}
use Rattle.dl_lines.specs.Lines.{answer_text}
use Rattle.dl_lines.specs.Room.{told_room}

abbrev pub known_by : Strings → LinesQuestion → Known
known_by s q = record {
  live = is_code (option_copied q.code);
  strings = s;
  directories = directory_by q.directories;
}

-- the lines of each that is wanted, in the order in which they are asked
abbrev pub answer_lines : Dialect → Strings → LinesQuestion → List (List ℕ) → List ℕ
answer_lines dialect s q units = flat_map (answer_text q.exact (places_in dialect (known_by s q) units)) q.wanted.now

-- whether each has a place
abbrev pub found_in : Dialect → Strings → LinesQuestion → List (List ℕ) → WhichFound
found_in dialect s q units =
    if list_all (λ w. not (is_nothing (answering q.exact w (places_in dialect (known_by s q) units)))) q.wanted.now
    then found.All else found.NotAll

-- memory was refused for what is wanted, or for what these units and the front of one more tell
abbrev pub RefusesAnswers : (refuses : ℕ → Type 0) → Dialect → Strings → LinesQuestion → (units : List (List ℕ)) (b : List ℕ)
    → Type 0
RefusesAnswers refuses dialect s q units b =
    IsRefused refuses (length q.wanted.now + told_room (known_by s q) (section_visits dialect units b))

-- memory was refused before anything was read, or while a unit was, or when the reading had ended
abbrev pub WantsMemory : (refuses : ℕ → Type 0) → Dialect → Strings → LinesQuestion → (limit : ℕ) (bytes : List ℕ)
    (left : Option (List ℕ)) → Type 0
WantsMemory refuses dialect s q limit bytes left =
    ((bytes ≡ []) × IsRefused refuses (length q.wanted.now))
    ⊎ ((units : List (List ℕ)) × (b : List ℕ) × (back : List ℕ) × RefusesAnswers refuses dialect s q units b
    × ((HasBegun dialect (take limit bytes) units b back × Sound dialect b)
    ⊎ ((ending : Result Summary RunFault) × EndsAs dialect limit bytes left units b back ending)))

-- `lines`: the lines of what is wanted, answered by the units before the end or the fault. Where memory is refused, nothing
-- is written.
abbrev pub TellsLines : (refuses : ℕ → Type 0) → Dialect → Strings → LinesQuestion → (limit : ℕ) (bytes : List ℕ)
    (left start now : Option (List ℕ)) → Result WhichFound RunFault → Type 0
TellsLines refuses dialect s q limit bytes left start now (Ok all_found) =
    (units : List (List ℕ)) × (summary : Summary) × EndsAs dialect limit bytes left units [] [] (Ok summary)
    × (all_found ≡ found_in dialect s q units) × Appends start now (answer_lines dialect s q units)
TellsLines refuses dialect s q limit bytes left start now (Err (fault.Write out)) =
    (units : List (List ℕ)) × (b : List ℕ) × (back : List ℕ) × (ending : Result Summary RunFault)
    × EndsAs dialect limit bytes left units b back ending
    × TellsOut start now (answer_lines dialect s q units) (record { out = out })
TellsLines refuses dialect s q limit bytes left start now (Err fault.NoMemory) =
    Keeps start now × (WantsMemory refuses dialect s q limit bytes left
    ⊎ ((units : List (List ℕ)) × (b : List ℕ) × (back : List ℕ)
    × EndsAs dialect limit bytes left units b back (Err fault.NoMemory)))
TellsLines refuses dialect s q limit bytes left start now (Err f) =
    (units : List (List ℕ)) × (b : List ℕ) × (back : List ℕ) × EndsAs dialect limit bytes left units b back (Err f)
    × Appends start now (answer_lines dialect s q units)
