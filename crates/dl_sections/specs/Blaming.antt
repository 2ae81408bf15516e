-- Which visitors blame no read: what they answer is no failed read. When a write is blamed.
use Rattle.std.specs.Prelude.{⊤, ◌+◌, ◌^◌, ◌<◌, List, [], Option, Result, IfErr, ℕ}
use Rattle.std.specs.Io.KnownBytes.{Appends}
use Rattle.dl_sections.specs.declared.fault.RunFault.{RunFault}
use Rattle.dl_sections.specs.declared.fault.RunFault.TheVariants as fault
use Rattle.dl_sections.specs.Section.{Visit}
use Rattle.dl_sections.specs.Visiting.{Story}

-- the visitor is at its beginning, and has a reason for a failed read at no visits
pub record NeverBlames {S : Type 0} (story : Story S) (first : S) (start : Option (List ℕ)) : Type 0 where
  pub tells : story.tells first first start start []
  pub out : Appends start start (story.text first [])
  pub never : (visits : List Visit) → ¬ story.refuses first visits fault.Read

-- a failed write is told only where the writer fails, or where so many bytes are out that 128 bits can't count more
abbrev pub IsBlamed : (fails : Type 0) → RunFault → Type 0
IsBlamed fails (fault.Write out) = out + 2 ^ 64 < 2 ^ 128 → fails
IsBlamed fails other = ⊤

abbrev pub BlamesWriter : {A : Type 0} → (fails : Type 0) → Result A RunFault → Type 0
BlamesWriter fails result = IfErr result (IsBlamed fails)
