-- What was read of lines that come byte by byte.
use Rattle.std.specs.Prelude.{◌≡◌, ℕ, Bool, List}
use Rattle.dl_look.specs.declared.asked.Asked.{Asked}
use Rattle.dl_asked.specs.AskedLines.{asked_in, ended}
use Rattle.dl_asked.specs.LinesRead.{Stands}
use Rattle.dl_asked.specs.declared.asked_lines.CurrentLine.{CurrentLine}

-- of an input of which these bytes were read: what the lines ask for that have ended, and the one that has not
pub record HasRead (hex : Bool) (done : List ℕ) (asked : List Asked) (line : CurrentLine) : Type 0 where
  pub ended : asked ≡ asked_in hex (ended done)
  pub stands : Stands hex done asked line
