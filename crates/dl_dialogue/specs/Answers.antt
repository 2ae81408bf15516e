-- The lines that answer addresses. start, now: what the writer held at first, and holds now. Fails: the faults for which
-- nothing is told of an address.
use Rattle.std.specs.Prelude.{◌≡◌, ℕ, if◌then◌else◌, List, ◌++◌, flat_map, is_some, Option, Result, Ok, Err}
use Rattle.std.specs.Io.KnownBytes.{Appends}
use Rattle.std.specs.List.{list_all}
use Rattle.std.specs.Option.{option_and_then}
use Rattle.dl_print.specs.Output.{TellsOut}
use Rattle.dl_look.specs.Asked.{place_of}
use Rattle.dl_look.specs.declared.asked.Asked.{Asked}
use Rattle.dl_addr.specs.Commands.{is_answered}
use Rattle.dl_addr.specs.Location.{Location}
use Rattle.dl_addr.specs.Locations.{location_line}
use Rattle.dl_addr.specs.declared.question.WhichFound.{WhichFound}
use Rattle.dl_addr.specs.declared.question.WhichFound.TheVariants as found
use Rattle.dl_addr.specs.declared.style.Style.{Style}
use Rattle.dl_dialogue.specs.declared.fault.AnswerFault.{AnswerFault}
use Rattle.dl_dialogue.specs.declared.fault.AnswerFault.TheVariants.{Input, Tell, Write}
use Rattle.dl_dialogue.specs.declared.fault.TellFault.{TellFault}

-- how it is answered: the style of the lines, what is subtracted from each address, and what is told of one
pub record Manner : Type 0 where
  pub style : Style
  pub base : ℕ
  pub told : ℕ → Option Location

-- whatever is told of an address is what f says
abbrev pub Determines : (tells : ℕ → Option Location → Type 0) (f : ℕ → Option Location) → Type 0
Determines tells f = (address : ℕ) (told : Option Location) → tells address told → told ≡ f address

-- what is told where the address less the base is looked up; nothing below 0, and of what is no address
abbrev pub answer_by : Manner → Asked → Option Location
answer_by m a = option_and_then (λ place. m.told place.address) (place_of m.base a)

-- a line for each, in order
abbrev pub lines_by : Manner → List Asked → List ℕ
lines_by m asked = flat_map (λ a. location_line m.style a (answer_by m a)) asked

-- whether each address has an answer
abbrev pub found_by : Manner → List Asked → WhichFound
found_by m asked =
    if list_all (λ a. is_answered a (is_some (answer_by m a))) asked then found.All else found.NotAll

-- what ends the answers of those that were answered: the writer failed; nothing can be told of one more; or the input, which
-- asks, can't be read
abbrev pub StopsAfter : Manner → (Fails : TellFault → Type 0) → (start now : Option (List ℕ)) → (answered : List Asked)
    → AnswerFault → Type 0
StopsAfter m Fails start now answered (Write lost) = TellsOut start now (lines_by m answered) lost
StopsAfter m Fails start now answered (Tell fault) =
    Fails fault × Appends start now (lines_by m answered)
StopsAfter m Fails start now answered Input = ⊥

-- of these the first ones were answered
abbrev pub StopsBy : Manner → (Fails : TellFault → Type 0) → (start now : Option (List ℕ)) → List Asked → AnswerFault → Type 0
StopsBy m Fails start now asked fault =
    (answered : List Asked) × (others : List Asked) × (asked ≡ answered ++ others)
    × StopsAfter m Fails start now answered fault

-- all that is asked is answered, or the first ones are
abbrev pub AnswersAll : Manner → (Fails : TellFault → Type 0) → List Asked → (start now : Option (List ℕ))
    → Result WhichFound AnswerFault → Type 0
AnswersAll m Fails asked start now (Ok all_found) =
    (all_found ≡ found_by m asked) × Appends start now (lines_by m asked)
AnswersAll m Fails asked start now (Err fault) = StopsBy m Fails start now asked fault
