-- What `find_places` and `find_places_around` find, which print nothing. bytes: what was read from a reader, which has `left`
-- left. refuses: for how many items memory is refused. DWARF 5, section 6.2.2.
use Rattle.std.specs.Prelude.{◌≡◌, ◌≢◌, ◌⊎◌, ℕ, ◌+◌, Bool, List, [], map, take, Option, Result, Err}
use Rattle.std.specs.Option.{option_copied}
use Rattle.dl_head.specs.declared.dialect.Dialect.{Dialect}
use Rattle.dl_memory.specs.Refusals.{IsRefused}
use Rattle.dl_rows.specs.Runs.{Sound}
use Rattle.dl_print.specs.ValueText.{Strings}
use Rattle.dl_print.specs.declared.summary.Summary.{Summary}
use Rattle.dl_sections.specs.declared.around.Survey.{Survey}
use Rattle.dl_sections.specs.declared.fault.RunFault.{RunFault}
use Rattle.dl_sections.specs.declared.fault.RunFault.TheVariants as fault
use Rattle.dl_sections.specs.Around.{Block, EndsAround, IsCutTo, Rest, visits_around}
use Rattle.dl_sections.specs.Section.{EndsAs, HasBegun, section_visits}
use Rattle.dl_addr.specs.Code.{is_code}
use Rattle.dl_dirs.specs.Compilation.{directory_by}
use Rattle.dl_lines.specs.declared.places.FoundPlaces.{FoundPlaces}
use Rattle.dl_lines.specs.declared.places.LinePlace.{LinePlace}
use Rattle.dl_lines.specs.declared.question.PlacesQuestion.{PlacesQuestion}
use Rattle.dl_lines.specs.declared.question.Wanted.{Wanted}
use Rattle.dl_lines.specs.Places.{CodePlace, Known, places_in}
use Rattle.dl_lines.specs.Answers.{answering, by_address, told_once}
use Rattle.dl_lines.specs.AroundCommands.{places_around}
use Rattle.dl_lines.specs.Room.{told_room}

abbrev pub known_to : Strings → PlacesQuestion → Known
known_to s q = record {
  live = is_code (option_copied q.code);
  strings = s;
  directories = directory_by q.directories;
}

-- what is told of a place: all but the path of its file
abbrev pub place_told : CodePlace → LinePlace
place_told p = record { address = p.address; line = p.line; column = p.column; prologue_end = p.prologue_end }

-- those that answer, by their addresses, each once: those of which `lines` prints a line each
abbrev pub places_told : (exact : Bool) → Wanted → List CodePlace → List LinePlace
places_told exact w places = map place_told (told_once [] (by_address (answering exact w places)))

-- ---- up to a fault

-- memory was refused before anything was read, or while a unit was, or when the reading had ended
abbrev pub WantsPlaces : (refuses : ℕ → Type 0) → Dialect → Known → (limit : ℕ) (bytes : List ℕ) (left : Option (List ℕ)) → Type 0
WantsPlaces refuses dialect known limit bytes left =
    ((bytes ≡ []) × IsRefused refuses 1)
    ⊎ ((units : List (List ℕ)) × (b : List ℕ) × (back : List ℕ)
    × IsRefused refuses (1 + told_room known (section_visits dialect units b))
    × ((HasBegun dialect (take limit bytes) units b back × Sound dialect b)
    ⊎ ((ending : Result Summary RunFault) × EndsAs dialect limit bytes left units b back ending)))

-- `find_places`: where memory is refused, no place; else the places of the units before the end or the fault
abbrev pub FindsPlaces : (refuses : ℕ → Type 0) → Dialect → Strings → PlacesQuestion → (limit : ℕ) (bytes : List ℕ)
    (left : Option (List ℕ)) → FoundPlaces Summary → Type 0
FindsPlaces refuses dialect s q limit bytes left found =
    ((found.end ≡ Err fault.NoMemory) × (found.places.items ≡ [])
    × (WantsPlaces refuses dialect (known_to s q) limit bytes left
    ⊎ ((units : List (List ℕ)) × (b : List ℕ) × (back : List ℕ)
    × EndsAs dialect limit bytes left units b back (Err fault.NoMemory))))
    ⊎ ((found.end ≢ Err fault.NoMemory) × ((units : List (List ℕ)) × (b : List ℕ) × (back : List ℕ)
    × EndsAs dialect limit bytes left units b back found.end
    × (found.places.items ≡ places_told q.exact q.wanted (places_in dialect (known_to s q) units))))

-- ---- around damaged units

-- the same where damaged units are gone around
abbrev pub WantsPlacesAround : (refuses : ℕ → Type 0) → Dialect → Known → (limit : ℕ) (bytes : List ℕ) (left : Option (List ℕ))
    → Type 0
WantsPlacesAround refuses dialect known limit bytes left =
    ((bytes ≡ []) × IsRefused refuses 1)
    ⊎ ((blocks : List Block) × (rest : Rest)
    × IsRefused refuses (1 + told_room known (visits_around dialect blocks rest))
    × (((others : List ℕ) × IsCutTo dialect (take limit bytes) blocks rest others)
    ⊎ ((ending : Result Survey RunFault) × EndsAround dialect limit bytes left blocks rest ending)))

-- `find_places_around`: where memory is refused, no place; else the places of the whole units before the end or the fault
abbrev pub FindsPlacesAround : (refuses : ℕ → Type 0) → Dialect → Strings → PlacesQuestion → (limit : ℕ) (bytes : List ℕ)
    (left : Option (List ℕ)) → FoundPlaces Survey → Type 0
FindsPlacesAround refuses dialect s q limit bytes left found =
    ((found.end ≡ Err fault.NoMemory) × (found.places.items ≡ [])
    × (WantsPlacesAround refuses dialect (known_to s q) limit bytes left
    ⊎ ((blocks : List Block) × (rest : Rest) × EndsAround dialect limit bytes left blocks rest (Err fault.NoMemory))))
    ⊎ ((found.end ≢ Err fault.NoMemory) × ((blocks : List Block) × (rest : Rest)
    × EndsAround dialect limit bytes left blocks rest found.end
    × (found.places.items ≡ places_told q.exact q.wanted (places_around dialect (known_to s q) blocks))))
