-- What is said of the front of a text holds of the text.
use Rattle.dl_sections.proofs.Names.{◌++◌, List, Option, RunFault, TellsOut, Write, ℕ}
use Rattle.dl_sections.proofs.Names.outs

-- of a longer text no more is out
pub TellsOut-more : (start now : Option (List ℕ)) (text more : List ℕ) (f : RunFault) → TellsOut start now text f
    → TellsOut start now (text ++ more) f
TellsOut-more start now text more (Write out) t = outs.TellsOut-more start now text more (record { out = out }) t
TellsOut-more start now text more _ t = t
