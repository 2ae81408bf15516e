-- Of what is answered. No promise rests on how this is said.
use Rattle.std.specs.Prelude.{◌≡◌, ℕ, Bool, List, Option, Result, Ok, Err}
use Rattle.dl_print.specs.Output.{HasPrinted}
use Rattle.dl_print.specs.Printed.{Printed}
use Rattle.dl_print.specs.declared.fault.WriteFault.{WriteFault}
use Rattle.dl_look.specs.declared.asked.Asked.{Asked}
use Rattle.dl_asked.specs.AskedLines.{asked_in, ended}
use Rattle.dl_asked.specs.Reading.{HasRead}
use Rattle.dl_dialogue.specs.Answers.{Manner, found_by, lines_by}
use Rattle.dl_dialogue.specs.declared.answers.Answers.{Answers}
use Rattle.dl_dialogue.specs.declared.dialogue.Dialogue.{Dialogue}
use Rattle.dl_dialogue.specs.declared.fault.AnswerFault.{AnswerFault}
use Rattle.dl_dialogue.specs.declared.fault.AnswerFault.TheVariants.{Tell, Write}
use Rattle.dl_dialogue.specs.declared.fault.TellFault.{TellFault}

-- what a write came to
abbrev pub written : Result (Unit {0}) WriteFault → Result (Unit {0}) AnswerFault
written (Ok x) = Ok x
written (Err lost) = Err (Write lost)

-- why it ends where nothing can be told, once the lines before it were written so
abbrev pub stopped : Result (Unit {0}) WriteFault → TellFault → Result (Unit {0}) AnswerFault
stopped (Ok x) fault = Err (Tell fault)
stopped (Err lost) fault = Err (Write lost)

-- these were answered, by lines of which the printer may hold some back
pub record Stands (m : Manner) (start now : Option (List ℕ)) (asked : List Asked) (p : Printed) (s : Answers) : Type 0 where
  pub style : s.style ≡ m.style
  pub base : s.base ≡ m.base
  pub found : s.found ≡ found_by m asked
  pub printed : HasPrinted start now (lines_by m asked) p

-- the lines of these bytes that have ended were answered, by lines of which the printer may hold some back
pub record Speaks (m : Manner) (hex : Bool) (start now : Option (List ℕ)) (done : List ℕ) (p : Printed) (d : Dialogue)
    : Type 0 where
  pub answers : Stands m start now (asked_in hex (ended done)) p d.answers
  pub line : HasRead hex done (asked_in hex (ended done)) d.line
