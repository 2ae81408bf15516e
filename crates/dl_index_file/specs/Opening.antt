-- What a file is opened as.
use Rattle.std.specs.Prelude.{ℕ, List, Result, Ok, Err}
use Rattle.std.specs.declared.io.Error.{Error}
use Rattle.dl_index.specs.IsIndex.{IsHeaded, HasFault}
use Rattle.dl_index_file.specs.declared.fault.OpenFault.{OpenFault}
use Rattle.dl_index_file.specs.declared.fault.OpenFault.TheVariants.{Read, Index}
use Rattle.dl_index_file.specs.declared.index.IndexFile.{IndexFile}

-- where the bytes of an index come from
abbrev pub source_of : {S : Type 0} {g : _} → IndexFile S g → S
source_of i = i.source.now

-- of a file with these bytes: it is opened, the first check that fails is told, or a read failed
abbrev pub Opens : {A : Type 0} → List ℕ → Result A OpenFault → Type 0
Opens b (Ok index) = IsHeaded b
Opens b (Err (Read error)) = Unit {0}
Opens b (Err (Index fault)) = HasFault b fault × ¬ (IsHeaded b)

-- where a read failed, its error is such a one
abbrev pub IfRead : {A : Type 0} → (Error → Type 0) → Result A OpenFault → Type 0
IfRead Fails (Err (Read error)) = Fails error
IfRead Fails result = Unit {0}
