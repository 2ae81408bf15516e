-- When a read of the input is blamed.
use Rattle.std.specs.Prelude.{⊤, ◌≡◌, Result, Err, List, Option, ℕ}
use Rattle.std.specs.declared.io.Error.{Error}
use Rattle.dl_dialogue.specs.Dialogues.{IsLong}
use Rattle.dl_cmd.specs.Job.{AddrTexts, Text}
use Rattle.dl_open.specs.Files.{FilesStop}
use Rattle.dl_sections.specs.declared.fault.RunFault.TheVariants as fault
use Rattle.dl_program.specs.declared.stop.Stop.{Stop}
use Rattle.dl_program.specs.declared.stop.Stop.TheVariants.{Run}

-- a stop is a failed read of it, and fewer than 2^64 - 1 bytes were read. old, new: what the input had left before,
-- and has left now
abbrev pub IsFailedRead : {A : Type 0} → (old new : Option (List ℕ)) → Result A Stop → Type 0
IsFailedRead old new result = (result ≡ Err (Run fault.Read)) × ¬ IsLong old new

-- neither a read nor a write failed
abbrev pub IsNoRun : Stop → Type 0
IsNoRun (Run f) = ⊥
IsNoRun other = ⊤

-- a stop is one for the words of `addr`: the string sections that they name can be read
abbrev pub BlamesReader : {A : Type 0} → (refuses : ℕ → Type 0) → (held : Text → Option (List ℕ)) (fails : Text → Error → Type 0)
    → AddrTexts → (old new : Option (List ℕ)) → Result A Stop → Type 0
BlamesReader refuses held fails w old new result = (result ≡ Err (Run fault.Read)) × (¬ IsLong old new)
    × ¬ FilesStop refuses held fails w.line_str w.strings fault.Read
