-- Why nothing is told of an address, and when a read or a write is blamed.
use Rattle.std.specs.Prelude.{⊤, ℕ, ◌+◌, ◌^◌, ◌<◌, List, Option, Result, Ok, Err, IfErr}
use Rattle.std.specs.declared.io.Error.{Error}
use Rattle.dl_index_file.specs.Reading.{ReadFails}
use Rattle.dl_index_file.specs.declared.fault.TextFault as text
use Rattle.dl_index_file.specs.declared.fault.TextFault.TheVariants as of
use Rattle.dl_dialogue.specs.declared.fault.AnswerFault.{AnswerFault}
use Rattle.dl_dialogue.specs.declared.fault.AnswerFault.TheVariants as answer
use Rattle.dl_dialogue.specs.declared.fault.TellFault.{TellFault}
use Rattle.dl_dialogue.specs.declared.fault.TellFault.TheVariants.{NoMemory, Read}

-- a read failed with such an error, or memory was refused for so many items as it may be asked for
abbrev pub TellFails : (Fails : Error → Type 0) (Asks refuses : ℕ → Type 0) → TellFault → Type 0
TellFails Fails Asks refuses (Read error) = Fails error
TellFails Fails Asks refuses NoMemory = (n : ℕ) × Asks n × refuses n

-- of an index in a file with these bytes, where they are known
abbrev pub FileFails : Option (List ℕ) → (Fails : Error → Type 0) (Asks refuses : ℕ → Type 0) → TellFault → Type 0
FileFails known Fails Asks refuses fault = TellFails (ReadFails known Fails) Asks refuses fault

abbrev pub of_text : text.TextFault → TellFault
of_text (of.Read error) = Read error
of_text of.NoMemory = NoMemory

-- what the reading of a text came to
abbrev pub as_told : Result (Unit {0}) text.TextFault → Result (Unit {0}) TellFault
as_told (Ok x) = Ok x
as_told (Err fault) = Err (of_text fault)

-- a failed write is told only where the writer fails, or where so many bytes are out that 128 bits can't count more
abbrev pub IsBlamed : (fails : Type 0) → AnswerFault → Type 0
IsBlamed fails (answer.Write lost) = lost.out + 2 ^ 64 < 2 ^ 128 → fails
IsBlamed fails other = ⊤

abbrev pub BlamesWriter : {A : Type 0} → (fails : Type 0) → Result A AnswerFault → Type 0
BlamesWriter fails result = IfErr result (IsBlamed fails)

-- the input wasn't read
abbrev pub IsNoRead : AnswerFault → Type 0
IsNoRead answer.Input = ⊥
IsNoRead other = ⊤

abbrev pub ReadsNothing : {A : Type 0} → Result A AnswerFault → Type 0
ReadsNothing result = IfErr result IsNoRead
