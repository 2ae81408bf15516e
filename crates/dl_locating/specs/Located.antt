-- What came of addresses that were looked up.
use Rattle.std.specs.Prelude.{Bool, true, false, if◌then◌else◌, Option, Some, None, Result, Ok, Err}
use Rattle.dl_sections.specs.declared.around.DamagedUnits.{DamagedUnits}
use Rattle.dl_sections.specs.declared.around.Survey.{Survey}
use Rattle.dl_sections.specs.declared.fault.RunFault.TheVariants.{NotFound}
use Rattle.dl_asked.specs.declared.asked_lines.OtherLine.{OtherLine}
use Rattle.dl_addr.specs.declared.question.WhichFound.{WhichFound}
use Rattle.dl_addr.specs.declared.question.WhichFound.TheVariants.{All, NotAll}
use Rattle.dl_locating.specs.declared.located.Located.{Located}
use Rattle.dl_program.specs.declared.stop.Stop.{Stop}
use Rattle.dl_program.specs.declared.stop.Stop.TheVariants.{Damaged, NoAddress, Run}

-- an address has no answer
abbrev pub is_not_found : Stop → Bool
is_not_found (Run NotFound) = true
is_not_found other = false

-- each address has an answer, unless units are damaged, which is told then
abbrev pub unless_damaged : Option DamagedUnits → Located → Result Located Stop
unless_damaged (Some units) all = Err (Damaged units)
unless_damaged None all = Ok all

-- by the answer of the command, and the first line that is no address
abbrev pub located : Result Survey Stop → Option OtherLine → Result Located Stop
located (Ok survey) line = unless_damaged survey.damaged (record { found = All; no_address = line })
located (Err stop) line = if is_not_found stop then Ok (record { found = NotAll; no_address = line }) else Err stop

-- what is told in the end: the line that is no address, where there is one
abbrev pub unless_no_address : Option OtherLine → WhichFound → Result WhichFound Stop
unless_no_address (Some line) found = Err (NoAddress line)
unless_no_address None found = Ok found
