-- Addresses that are answered by what is told of them: those among the words of `addr`, or those on the input as they come.
-- bytes: what was read of the input, which has `left` left. start, now: what the output held at first, and holds now.
use Rattle.std.specs.Prelude.{◌≡◌, ◌*◌, ◌≤◌, ℕ, true, List, [], ◌∷◌, length, Option, Some, None, Result, Ok, Err}
use Rattle.std.specs.Borrow.{Bor}
use Rattle.std.specs.Option.{option_copied}
use Rattle.std.specs.declared.io.Error.{Error}
use Rattle.dl_addr.specs.Location.{Location}
use Rattle.dl_addr.specs.declared.question.WhichFound.{WhichFound}
use Rattle.dl_cmd.specs.Job.{AddrTexts, Text}
use Rattle.dl_dialogue.specs.Answers.{AnswersAll, Manner}
use Rattle.dl_dialogue.specs.Dialogues.{AnswersLines}
use Rattle.dl_dialogue.specs.Faults.{TellFails}
use Rattle.dl_dialogue.specs.declared.dialogue.Answered.{Answered}
use Rattle.dl_dialogue.specs.declared.fault.AnswerFault.{AnswerFault}
use Rattle.dl_dialogue.specs.declared.fault.AnswerFault.TheVariants as answer
use Rattle.dl_dialogue.specs.declared.fault.TellFault.TheVariants as tell
use Rattle.dl_index_file.specs.declared.fault.OpenFault.TheVariants as index
use Rattle.dl_look.specs.declared.asked.Asked.{Asked}
use Rattle.dl_sections.specs.declared.fault.RunFault.TheVariants as fault
use Rattle.dl_locating.specs.Locate.{are_addresses, asked_in_words, base_in, form_in}
use Rattle.dl_locating.specs.declared.located.Located.{Located}
use Rattle.dl_program.specs.declared.stop.Stop.{Stop}
use Rattle.dl_program.specs.declared.stop.Stop.TheVariants.{Index, Run}

-- the words are understood, and ask for answers in this manner, where f is what is told of an address
pub record IsManner (w : AddrTexts) (f : ℕ → Option Location) (m : Manner) : Type 0 where
  pub understood : are_addresses w ≡ true
  pub base : base_in w ≡ Some m.base
  pub form : m.style.form ≡ form_in w
  pub basenames : m.style.basenames ≡ w.basenames
  pub section : option_copied m.style.section ≡ w.section
  pub told : m.told ≡ f

-- what came of addresses that were given among the words
abbrev pub answered_given : Result WhichFound AnswerFault → Result Answered AnswerFault
answered_given (Ok found) = Ok (record { found = found; no_address = None })
answered_given (Err f) = Err f

-- for how many items memory is asked by an index of these bytes: a path has no more than three texts, each of which lies in
-- them
abbrev pub AsksOf : (index : List ℕ) → ℕ → Type 0
AsksOf index n = n ≤ 3 * length index

-- those that were given are answered; where there are none, those that the whole input says
abbrev pub AnswersGiven : (refuses : ℕ → Type 0) → AddrTexts → Manner → (Fails : Error → Type 0) (Asks : ℕ → Type 0) → List Asked
    → (bytes : List ℕ) (left start now : Option (List ℕ)) → Result Answered AnswerFault → Type 0
AnswersGiven refuses w m Fails Asks [] bytes left start now result =
    AnswersLines m w.hex (TellFails Fails Asks refuses) bytes left start now result
AnswersGiven refuses w m Fails Asks (a ∷ asked) bytes left start now result =
    (bytes ≡ []) × (found : Result WhichFound AnswerFault) × AnswersAll m (TellFails Fails Asks refuses) (a ∷ asked) start now found
    × (result ≡ answered_given found)

-- what the words ask for is answered by what f tells
abbrev pub AnswersAsked : (refuses : ℕ → Type 0) → AddrTexts → (f : ℕ → Option Location) → (Fails : Error → Type 0) (Asks : ℕ → Type 0)
    → (bytes : List ℕ) (left start now : Option (List ℕ)) → Result Answered AnswerFault → Type 0
AnswersAsked refuses w f Fails Asks bytes left start now result =
    (m : Manner) × IsManner w f m × AnswersGiven refuses w m Fails Asks (asked_in_words w) bytes left start now result

-- why the program stops then, of an index at this path
abbrev pub stop_of_answer : Bor Text → AnswerFault → Stop
stop_of_answer path answer.Input = Run fault.Read
stop_of_answer path (answer.Tell (tell.Read error)) = Index path (index.Read error)
stop_of_answer path (answer.Tell tell.NoMemory) = Run fault.NoMemory
stop_of_answer path (answer.Write lost) = Run (fault.Write lost.out)

-- what came of all
abbrev pub located_by : Bor Text → Result Answered AnswerFault → Result Located Stop
located_by path (Ok answered) = Ok (record { found = answered.found; no_address = answered.no_address })
located_by path (Err f) = Err (stop_of_answer path f)
