-- The lines of what is asked, of what is kept of their answers. No promise rests on this file.
use Rattle.std.specs.Prelude.{◌≡◌, ℕ, if◌then◌else◌, List, ◌++◌, flat_map, is_some, Option, Some, None, option_map}
use Rattle.std.specs.Prelude.{Result, Ok, Err}
use Rattle.std.specs.Io.KnownBytes.{Appends}
use Rattle.std.specs.List.{list_all}
use Rattle.std.specs.Option.{option_and_then, option_copied}
use Rattle.std.specs.Str.Lossy.{utf8_lossy}
use Rattle.json.specs.Print.{escape}
use Rattle.dl_print.specs.declared.fault.WriteFault.{WriteFault}
use Rattle.dl_print.specs.Output.{TellsOut}
use Rattle.dl_print.specs.Text.{line}
use Rattle.dl_print.specs.declared.summary.Summary.{Summary}
use Rattle.dl_sections.specs.declared.around.Survey.{Survey}
use Rattle.dl_sections.specs.declared.fault.RunFault.{RunFault}
use Rattle.dl_sections.specs.declared.fault.RunFault.TheVariants as fault
use Rattle.dl_sections.specs.Section.{Visit}
use Rattle.dl_look.specs.declared.asked.Asked.{Asked}
use Rattle.dl_addr.specs.declared.locating.Locator.{Locator}
use Rattle.dl_addr.specs.declared.question.WhichFound.{WhichFound}
use Rattle.dl_addr.specs.declared.question.WhichFound.TheVariants as found
use Rattle.dl_addr.specs.declared.question.FoundAround.{FoundAround}
use Rattle.dl_addr.specs.declared.question.Question.{Question}
use Rattle.dl_addr.specs.declared.style.AnswerForm.{AnswerForm}
use Rattle.dl_addr.specs.declared.style.AnswerForm.TheVariants as forms
use Rattle.dl_addr.specs.declared.style.Style.{Style}
use Rattle.dl_addr.specs.Answers.{located_seen}
use Rattle.dl_addr.specs.Location.{Location}
use Rattle.dl_look.specs.Asked.{place_of}
use Rattle.dl_addr.specs.Commands.{is_answered}
use Rattle.dl_addr.specs.Locating.{located_by}
use Rattle.dl_addr.specs.Locations.{asked_text, no_row_text, row_text}
use Rattle.dl_path.specs.Shown.{shown}
use Rattle.dl_addr.specs.Shown.{no_path_text, text_in}

-- a text as it stands in a path of this form
abbrev pub inner_text : AnswerForm → List ℕ → List ℕ
inner_text forms.Location text = shown text
inner_text forms.AddressAndLocation text = shown text
inner_text forms.Json text = escape (utf8_lossy text)

-- a path of which the last component alone was taken, where it was asked for
abbrev pub named_text : AnswerForm → Option (List ℕ) → List ℕ
named_text form None = no_path_text form
named_text form (Some path) = text_in form path

abbrev pub seen_text : AnswerForm → Option Location → List ℕ
seen_text form None = no_row_text form
seen_text form (Some l) = row_text form (named_text form l.path) l

abbrev pub seen_line : Style → Asked → Option Location → List ℕ
seen_line style a seen = line (asked_text style.form (option_copied style.section) a ++ seen_text style.form seen)

-- for each that is asked, where f is what is kept of its answer
abbrev pub seen_lines : Style → (f : Asked → Option Location) → List Asked → List ℕ
seen_lines style f asked = flat_map (λ a. seen_line style a (f a)) asked

abbrev pub found_by : (f : Asked → Option Location) → List Asked → WhichFound
found_by f asked = if list_all (λ a. is_answered a (is_some (f a))) asked then found.All else found.NotAll

-- what a locator that was told these visits is asked
abbrev pub answer_for : {M : Type 0} → Locator M → List Visit → (base : ℕ) → Asked → Option Location
answer_for first visits base a =
    option_map (located_seen first) (option_and_then (λ x. located_by first x visits) (place_of base a))

-- the lines of all, or not all of them
abbrev pub PrintsAll : (old new : Option (List ℕ)) → Question → (f : Asked → Option Location) → Result WhichFound WriteFault
    → Type 0
PrintsAll old new q f (Ok all_found) =
    (all_found ≡ found_by f q.asked.now) × Appends old new (seen_lines q.style f q.asked.now)
PrintsAll old new q f (Err lost) = TellsOut old new (seen_lines q.style f q.asked.now) lost

-- a failed write is told, else the fault of the reading
abbrev pub told : Result Summary RunFault → Result WhichFound WriteFault → Result WhichFound RunFault
told ended (Err lost) = Err (fault.Write lost.out)
told (Ok summary) (Ok all_found) = Ok all_found
told (Err f) (Ok all_found) = Err f

-- the same of a section of which units may be damaged
abbrev pub told_around : Result Survey RunFault → Result WhichFound WriteFault → Result FoundAround RunFault
told_around ended (Err lost) = Err (fault.Write lost.out)
told_around (Ok survey) (Ok all_found) = Ok (record { found = all_found; damaged = survey.damaged })
told_around (Err f) (Ok all_found) = Err f
