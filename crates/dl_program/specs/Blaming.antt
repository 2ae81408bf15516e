-- When a read or a write is blamed.
use Rattle.std.specs.Prelude.{⊤, Result, IfErr}
use Rattle.dl_open.specs.declared.stop.FileStop.{FileStop}
use Rattle.dl_open.specs.declared.stop.FileStop.TheVariants as at
use Rattle.dl_sections.specs.Blaming as run
use Rattle.dl_sections.specs.declared.fault.RunFault.TheVariants as fault
use Rattle.dl_program.specs.declared.stop.Stop.{Stop}
use Rattle.dl_program.specs.declared.stop.Stop.TheVariants.{Run}

-- a stop is a failed write only where the writer fails
abbrev pub IsBlamed : (fails : Type 0) → Stop → Type 0
IsBlamed fails (Run f) = run.IsBlamed fails f
IsBlamed fails other = ⊤

abbrev pub BlamesWriter : {A : Type 0} → (fails : Type 0) → Result A Stop → Type 0
BlamesWriter fails result = IfErr result (IsBlamed fails)

-- ---- over a file

-- the same of a stop over a file; a failed read is told of the file there
abbrev pub IsBlamedOver : (fails : Type 0) → FileStop → Type 0
IsBlamedOver fails (at.Run fault.Read) = ⊥
IsBlamedOver fails (at.Run f) = run.IsBlamed fails f
IsBlamedOver fails other = ⊤

abbrev pub BlamesOver : {A : Type 0} → (fails : Type 0) → Result A FileStop → Type 0
BlamesOver fails result = IfErr result (IsBlamedOver fails)

-- ---- reads of the input

-- a stop is no failed read of it
abbrev pub IsNoRead : Stop → Type 0
IsNoRead (Run fault.Read) = ⊥
IsNoRead other = ⊤

abbrev pub ReadsNothing : {A : Type 0} → Result A Stop → Type 0
ReadsNothing result = IfErr result IsNoRead
