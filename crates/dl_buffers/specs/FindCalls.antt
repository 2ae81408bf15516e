-- What the look-up of a place answers. s: the bytes of a section. DWARF 5, section 6.2.2.
use Rattle.std.specs.Prelude.{◌≡◌, ℕ, List, [], ◌∷◌, ◌++◌, length, Option, Some, None, Result, Ok, Err}
use Rattle.std.specs.List.{concat}
use Rattle.dl_head.specs.declared.dialect.Dialect.{Dialect}
use Rattle.dl_table.specs.declared.fault.FaultKind.{FaultKind}
use Rattle.dl_rows.specs.LineUnit.{unit_rows}
use Rattle.dl_rows.specs.declared.row.Row.{Row}
use Rattle.dl_look.specs.declared.place.Place.{Place}
use Rattle.dl_look.specs.Answer.{answer}
use Rattle.dl_sections.specs.declared.fault.RunFault.TheVariants as run
use Rattle.dl_sections.specs.Commands.{NoneAnswers}
use Rattle.dl_sections.specs.Section.{HasUnits, EndsAs}
use Rattle.dl_buffers.specs.declared.finding.FoundRow.{FoundRow}
use Rattle.dl_buffers.specs.declared.record.FaultRecord.{FaultRecord}
use Rattle.dl_buffers.specs.declared.record.RowRecord.{RowRecord}
use Rattle.dl_buffers.specs.declared.status.Status.{Status}
use Rattle.dl_buffers.specs.declared.status.Status.TheVariants as status
use Rattle.dl_sections.specs.declared.in_memory.SectionStop.{SectionStop}
use Rattle.dl_sections.specs.declared.in_memory.SectionStop.TheVariants as stop
use Rattle.dl_buffers.specs.Records.{record_of, row_record}

abbrev pub place_at : (address op_index : ℕ) → Place
place_at address op_index = record { address = address; op_index = op_index }

-- s begins with units, of which the last, u at this offset, is the first whose rows have an answer for x: r
abbrev pub IsFirst : Dialect → (s : List ℕ) → Place → Row → (offset : ℕ) → Type 0
IsFirst dialect s x r offset =
    (units : List (List ℕ)) × (u : List ℕ) × (back : List ℕ) × HasUnits dialect s (units ++ u ∷ []) back
    × NoneAnswers dialect x units × (answer (unit_rows dialect u) x ≡ Some r) × (offset ≡ length (concat units))

-- s is units, of which none has an answer
abbrev pub NoneIs : Dialect → (s : List ℕ) → Place → Type 0
NoneIs dialect s x = (units : List (List ℕ)) × HasUnits dialect s units [] × NoneAnswers dialect x units

-- a fault comes, or memory is refused, before any unit has an answer
abbrev pub StopsSeeking : Dialect → (s : List ℕ) → Place → SectionStop → Type 0
StopsSeeking dialect s x (stop.Damaged offset kind) =
    (units : List (List ℕ)) × (b : List ℕ) × (back : List ℕ)
    × EndsAs dialect (length s) s (Some []) units b back (Err (run.Damage offset kind)) × NoneAnswers dialect x units
StopsSeeking dialect s x stop.NoMemory =
    (units : List (List ℕ)) × (b : List ℕ) × (back : List ℕ)
    × EndsAs dialect (length s) s (Some []) units b back (Err run.NoMemory) × NoneAnswers dialect x units

-- what is found of s
abbrev pub Seeks : Dialect → (s : List ℕ) → Place → Result (Option FoundRow) SectionStop → Type 0
Seeks dialect s x (Ok (Some found)) = IsFirst dialect s x found.row found.unit
Seeks dialect s x (Ok None) = NoneIs dialect s x
Seeks dialect s x (Err f) = StopsSeeking dialect s x f

-- `find`: of a row, a unit's offset and a fault, p, m and f before it, and q, n and g after it, only what the status
-- says is written
abbrev pub Finds : Dialect → (s : List ℕ) → Place → (p q : RowRecord) (m n : ℕ) (f g : FaultRecord) → Status → Type 0
Finds dialect s x p q m n f g status.Done = (r : Row) × IsFirst dialect s x r n × (q ≡ row_record r) × (g ≡ f)
Finds dialect s x p q m n f g status.NoAnswer = NoneIs dialect s x × (q ≡ p) × (n ≡ m) × (g ≡ f)
Finds dialect s x p q m n f g status.Fault =
    (offset : ℕ) × (kind : FaultKind) × StopsSeeking dialect s x (stop.Damaged offset kind)
    × (q ≡ p) × (n ≡ m) × (g ≡ record_of offset kind)
Finds dialect s x p q m n f g status.NoMemory =
    StopsSeeking dialect s x stop.NoMemory × (q ≡ p) × (n ≡ m) × (g ≡ f)
Finds dialect s x p q m n f g other = ⊥
