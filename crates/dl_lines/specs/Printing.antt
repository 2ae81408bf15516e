-- The lines of searches that are printed. No promise rests on this file.
use Rattle.std.specs.Prelude.{◌≡◌, ◌⊎◌, ℕ, ◌<◌, Bool, true, false, not, ◌&&◌, ◌==◌, if◌then◌else◌, List, [], length, take, flat_map}
use Rattle.std.specs.Prelude.{get_or, slice_index_or, Option, None, Result, Ok, Err}
use Rattle.std.specs.Io.KnownBytes.{Appends}
use Rattle.std.specs.List.{list_all, list_any}
use Rattle.dl_print.specs.declared.fault.WriteFault.{WriteFault}
use Rattle.dl_print.specs.declared.summary.Summary.{Summary}
use Rattle.dl_print.specs.Output.{TellsOut}
use Rattle.dl_print.specs.Text.{line}
use Rattle.dl_sections.specs.declared.fault.RunFault.{RunFault}
use Rattle.dl_sections.specs.declared.fault.RunFault.TheVariants as fault
use Rattle.dl_addr.specs.declared.question.WhichFound.{WhichFound}
use Rattle.dl_addr.specs.declared.question.WhichFound.TheVariants as found
use Rattle.dl_addr.specs.declared.question.FoundAround.{FoundAround}
use Rattle.dl_sections.specs.declared.around.Survey.{Survey}
use Rattle.dl_addr.specs.Printing.{told, told_around}
use Rattle.dl_lines.specs.declared.best.KeptPlace.{KeptPlace}
use Rattle.dl_lines.specs.declared.question.Wanted.{Wanted}
use Rattle.dl_lines.specs.declared.search.Search.{Search}
use Rattle.dl_lines.specs.Places.{CodePlace}
use Rattle.dl_lines.specs.Answers.{answering, is_nothing, is_same, is_same_bool, is_same_path}
use Rattle.dl_lines.specs.Kept.{Rises, place_kept, places_kept}
use Rattle.dl_lines.specs.Lines.{answer_text, place_text, places_text}
use Rattle.dl_lines.specs.Searching.{texts_of}

abbrev pub found_places : Search → List CodePlace
found_places s = places_kept (texts_of s.paths) s.kept

abbrev pub found_place : Search → KeptPlace → CodePlace
found_place s p = place_kept (texts_of s.paths) s.kept.line p

abbrev pub search_text : Search → List ℕ
search_text s = places_text (found_places s)

abbrev pub searches_text : List Search → List ℕ
searches_text searches = flat_map search_text searches

abbrev pub has_place : Search → Bool
has_place s = not (is_nothing (found_places s))

abbrev pub found_by : List Search → WhichFound
found_by searches = if list_all has_place searches then found.All else found.NotAll

abbrev pub AllRise : List Search → Type 0
AllRise searches = (i : ℕ) (d : Search) → i < length searches → Rises (slice_index_or searches i d).kept.places.items

-- two places of one address and one line
abbrev pub is_same_there : CodePlace → CodePlace → Bool
is_same_there p q =
    p.column == q.column && (is_same_bool p.prologue_end q.prologue_end && is_same_path p.path q.path)

-- this text, or not all of it
abbrev pub PrintsText : (old new : Option (List ℕ)) → List ℕ → WhichFound → Result WhichFound WriteFault → Type 0
PrintsText old new text found (Ok all_found) = (all_found ≡ found) × Appends old new text
PrintsText old new text found (Err lost) = TellsOut old new text lost

abbrev pub is_no_memory : {A : Type 0} → Result A RunFault → Bool
is_no_memory (Err fault.NoMemory) = true
is_no_memory other = false

-- memory was refused, and nothing is printed; or the lines are
abbrev pub Answered : (Refused : Type 0) → (old new : Option (List ℕ)) → List ℕ → WhichFound → Result Summary RunFault
    → Result WhichFound RunFault → Type 0
Answered Refused old new text found ended result =
    ((result ≡ Err fault.NoMemory) × (new ≡ old) × Refused)
    ⊎ ((printed : Result WhichFound WriteFault) × PrintsText old new text found printed × (result ≡ told ended printed))

-- the same around damaged units
abbrev pub AnsweredAround : (Refused : Type 0) → (old new : Option (List ℕ)) → List ℕ → WhichFound → Result Survey RunFault
    → Result FoundAround RunFault → Type 0
AnsweredAround Refused old new text found ended result =
    ((result ≡ Err fault.NoMemory) × (new ≡ old) × Refused)
    ⊎ ((printed : Result WhichFound WriteFault) × PrintsText old new text found printed
    × (result ≡ told_around ended printed))

-- the lines of what is wanted, and whether each has a place
abbrev pub wanted_text : (exact : Bool) → List CodePlace → List Wanted → List ℕ
wanted_text exact places wanted = flat_map (answer_text exact places) wanted

abbrev pub wanted_found : (exact : Bool) → List CodePlace → List Wanted → WhichFound
wanted_found exact places wanted =
    if list_all (λ w. not (is_nothing (answering exact w places))) wanted then found.All else found.NotAll

abbrev pub no_place : CodePlace
no_place = record { path = None; address = 0; line = 0; column = 0; prologue_end = false }

-- the same is told of a place before the one of this number
abbrev pub is_told_before : List CodePlace → (number : ℕ) → Bool
is_told_before places number = list_any (is_same (get_or places number no_place)) (take number places)

-- the line of the place of this number, where none before has the same
abbrev pub once_text : Search → (number : ℕ) → List ℕ
once_text s number =
    if is_told_before (found_places s) number then [] else line (place_text (get_or (found_places s) number no_place))
