-- How the program stops: its text, its status, and the stops at an ELF file.
use Rattle.std.specs.Prelude.{⊤, ℕ, ◌==◌, if◌then◌else◌, List, [], ◌++◌, codes, decimal, Option, Some, None, option_map, Result, Ok}
use Rattle.std.specs.Prelude.{Err}
use Rattle.dl_sections.specs.RunText.{run_fault_text, status}
use Rattle.dl_sections.specs.declared.around.DamagedUnits.{DamagedUnits}
use Rattle.dl_sections.specs.declared.fault.RunFault.TheVariants as fault
use Rattle.dl_open.specs.declared.stop.FileStop.{FileStop}
use Rattle.dl_open.specs.declared.stop.FileStop.TheVariants as at
use Rattle.dl_index_file.specs.declared.fault.OpenFault.{OpenFault}
use Rattle.dl_index_file.specs.declared.fault.OpenFault.TheVariants.{Read, Index as NoIndex}
use Rattle.dl_open.specs.Shown.{shown_bytes, shown_word}
use Rattle.dl_open.specs.Stops.{file_fault_status, file_fault_text}
use Rattle.dl_program.specs.declared.stop.Stop.{Stop}
use Rattle.dl_program.specs.declared.stop.Stop.TheVariants.{Damaged, NoAddress, NoSection, NotAddress, NotUnderstood, Run}
use Rattle.dl_program.specs.declared.stop.Stop.TheVariants.{File, Index, NotLine, NotRule, OtherFile}

-- how many units are damaged beside the first
abbrev pub others_text : ℕ → List ℕ
others_text n =
    if n == 0 then [] else if n == 1 then codes ", and 1 more damaged unit"
    else codes ", and " ++ (decimal n ++ codes " more damaged units")

-- the text of the first one's fault, and how many others there are
abbrev pub damaged_text : DamagedUnits → List ℕ
damaged_text units =
    run_fault_text (fault.Damage units.first.offset units.first.kind) ++ others_text units.others

-- 1 where the file is to blame, 3 for reads
abbrev pub index_status : OpenFault → ℕ
index_status (Read error) = 3
index_status (NoIndex f) = 1

-- the text of a stop; None where the system or the fault of an index words it
abbrev pub stop_text : Stop → Option (List ℕ)
stop_text NotUnderstood = Some (codes "words not understood")
stop_text (NotAddress word) = Some (shown_word word.now ++ codes " is no address")
stop_text (NotLine word) = Some (shown_word word.now ++ codes " is no PATH:LINE")
stop_text (NotRule word) = Some (shown_word word.now ++ codes " is no rule")
stop_text (Run f) = Some (run_fault_text f)
stop_text (File path f) = option_map (λ text. shown_word path.now ++ codes ": " ++ text) (file_fault_text f)
stop_text (Index path f) = None
stop_text (OtherFile path) = Some (shown_word path.now ++ codes ": made of another file")
stop_text (NoSection path name) = Some (shown_word path.now ++ (codes ": no section " ++ shown_word name.now))
stop_text (Damaged units) = Some (damaged_text units)
stop_text (NoAddress line) =
    Some (codes "line " ++ (decimal line.number ++ (codes ": " ++ (shown_bytes line.word ++ codes " is no address"))))

-- when the line of a stop may not be written: of a fault of the section where a write of it may fail; of the others that isn't
-- known, since the system words them, or a formatter that may fail of itself
abbrev pub MayFail : (fails : Type 0) → Stop → Type 0
MayFail fails (Run f) = fails
MayFail fails stop = ⊤

abbrev pub stop_status : Stop → ℕ
stop_status NotUnderstood = 2
stop_status (NotAddress word) = 2
stop_status (NotLine word) = 2
stop_status (NotRule word) = 2
stop_status (Run f) = status f
stop_status (File path f) = file_fault_status f
stop_status (Index path f) = index_status f
stop_status (OtherFile path) = 1
stop_status (NoSection path name) = 1
stop_status (Damaged units) = 1
stop_status (NoAddress line) = 1

-- ---- over an ELF file

-- the same stop, of the program
abbrev pub stop_of : FileStop → Stop
stop_of (at.Run f) = Run f
stop_of (at.File path f) = File path f
stop_of (at.NoSection path name) = NoSection path name

-- what a command over a file answered, as the program answers
abbrev pub over_file : {A : Type 0} → Result A FileStop → Result A Stop
over_file (Ok answered) = Ok answered
over_file (Err stop) = Err (stop_of stop)
