-- What is answered to lines that ask. start, now: what the writer held at first, and holds now.
use Rattle.std.specs.Prelude.{◌≡◌, ℕ, ◌+◌, ◌<◌, ◌≤◌, ◌^◌, Bool, List, ◌++◌, length, option_map, Option, Result, Ok, Err}
use Rattle.std.specs.Io.KnownBytes.{Appends, Consumes, IsAtEnd}
use Rattle.dl_print.specs.Printed.{Printed}
use Rattle.dl_asked.specs.AskedLines.{asked_in, ended, no_address_in, other_line_seen}
use Rattle.dl_dialogue.specs.Answers.{Manner, StopsBy, found_by, lines_by}
use Rattle.dl_dialogue.specs.Standing.{Speaks}
use Rattle.dl_dialogue.specs.declared.dialogue.Answered.{Answered}
use Rattle.dl_dialogue.specs.declared.dialogue.Dialogue.{Dialogue}
use Rattle.dl_dialogue.specs.declared.fault.AnswerFault.{AnswerFault}
use Rattle.dl_dialogue.specs.declared.fault.AnswerFault.TheVariants.{Input}
use Rattle.dl_dialogue.specs.declared.fault.TellFault.{TellFault}

-- these bytes were taken, and each line of them that has ended is answered: all answers are written out
pub record Talks (m : Manner) (hex : Bool) (start now : Option (List ℕ)) (done : List ℕ) (p : Printed) (d : Dialogue)
    : Type 0 where
  pub out : Appends start now (lines_by m (asked_in hex (ended done)))
  pub speaks : Speaks m hex start now done p d

-- the lines that these bytes begin with were answered, and then came a fault
abbrev pub StopsIn : Manner → (hex : Bool) (Fails : TellFault → Type 0) → (start now : Option (List ℕ)) → List ℕ → AnswerFault
    → Type 0
StopsIn m hex Fails start now bytes fault =
    (rest : List ℕ) → StopsBy m Fails start now (asked_in hex (bytes ++ rest)) fault

-- all lines of these bytes were answered; lines of 2^63 bytes and more may be counted wrong
pub record Ends (m : Manner) (hex : Bool) (start now : Option (List ℕ)) (bytes : List ℕ) (answered : Answered) : Type 0 where
  pub found : answered.found ≡ found_by m (asked_in hex bytes)
  pub no_address : length bytes < 2 ^ 63
      → option_map other_line_seen answered.no_address ≡ no_address_in hex bytes
  pub out : Appends start now (lines_by m (asked_in hex bytes))

-- the whole input, which has `left` left, was answered; or a fault came: of the input, after all lines that have ended, or
-- another one
abbrev pub AnswersLines : Manner → (hex : Bool) (Fails : TellFault → Type 0) → (bytes : List ℕ) (left start now : Option (List ℕ))
    → Result Answered AnswerFault → Type 0
AnswersLines m hex Fails bytes left start now (Ok answered) = IsAtEnd left × Ends m hex start now bytes answered
AnswersLines m hex Fails bytes left start now (Err Input) = Appends start now (lines_by m (asked_in hex (ended bytes)))
AnswersLines m hex Fails bytes left start now (Err fault) = StopsBy m Fails start now (asked_in hex bytes) fault

-- 2^64 - 1 bytes or more were read
abbrev pub IsLong : (old new : Option (List ℕ)) → Type 0
IsLong old new = (bytes : List ℕ) × Consumes old new bytes × (2 ^ 64 ≤ length bytes + 1)
