-- How much of what was printed is out where a command stops.
use Rattle.std.specs.Prelude.{ℕ, ◌<◌, List, length, Option}
use Rattle.dl_print.specs.Output.{HasOut}
use Rattle.dl_sections.specs.declared.fault.RunFault.{RunFault}
use Rattle.dl_sections.specs.declared.fault.RunFault.TheVariants.{Write}

-- not all of the text is out, and the fault is a failed write that tells how much is
abbrev pub TellsOut : (start now : Option (List ℕ)) (text : List ℕ) → RunFault → Type 0
TellsOut start now text (Write out) = (out < length text) × HasOut start now text out
TellsOut start now text _ = ⊥
