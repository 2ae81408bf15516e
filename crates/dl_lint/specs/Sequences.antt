-- The sequences of a section up to some visit, and which of them are live. DWARF 5, sections 6.2.2 and 6.2.5.3.
use Rattle.std.specs.Prelude.{ℕ, Bool, true, ◌&&◌, if◌then◌else◌, List, [], ◌∷◌, ◌++◌, flat_map, Option, Some, None}
use Rattle.std.specs.Option.{option_copied}
use Rattle.dl_look.specs.Answer.{first_place, is_rising, sequences}
use Rattle.dl_look.specs.CodeRanges.{has_code}
use Rattle.dl_look.specs.declared.code_ranges.CodeRanges.{CodeRanges}
use Rattle.dl_rows.specs.Items.{a_row}
use Rattle.dl_rows.specs.declared.row.Row.{Row}
use Rattle.dl_sections.specs.Copying.{offset_after as unit_offset}
use Rattle.dl_sections.specs.Section.{Visit, of_end, of_item}
use Rattle.dl_findings.specs.declared.finding.Finding.{Finding}
use Rattle.dl_sequence_rules.specs.Dead.{dead_found}
use Rattle.dl_sequence_rules.specs.declared.ended.Ended.{Ended}
use Rattle.dl_lint.specs.Before.{operation_offset, rows_told, sequence_told}
use Rattle.dl_lint.specs.RowRules.{row_seen}
use Rattle.dl_lint.specs.declared.question.LintQuestion.{LintQuestion}

-- everywhere, where it isn't known where there is code
abbrev pub is_code : Option CodeRanges → ℕ → Bool
is_code None address = true
is_code (Some ranges) address = has_code ranges address

-- a sequence is live that begins in code: linkers leave those of functions that they drop
abbrev pub live_in : LintQuestion → ℕ → Bool
live_in q address = is_code (option_copied q.code) address

-- ---- live sequences whose places don't fall, which answer for the places that they cover

-- s: the rows of the sequence, of which r is the end row
abbrev pub ended_by : (live : ℕ → Bool) → (before : List Visit) → Row → (s : List Row) → List Ended
ended_by live before r s =
    if r.end_sequence && (live (first_place s).address && is_rising s)
    then record { unit = unit_offset 0 before; offset = operation_offset before; row = row_seen before r; first = first_place s } ∷ []
    else []

-- such a one that ends at a visit
abbrev pub ended_at : (live : ℕ → Bool) → (before : List Visit) → Visit → List Ended
ended_at live before (of_item (a_row h r)) = ended_by live before r (sequence_told before ++ r ∷ [])
ended_at live before visit = []

-- at visits one after the other
abbrev pub ended_after : (live : ℕ → Bool) → (before : List Visit) → List Visit → List Ended
ended_after live before [] = []
ended_after live before (visit ∷ visits) = ended_at live before visit ++ ended_after live (before ++ visit ∷ []) visits

-- in a section of which these are the visits
abbrev pub ended_in : (live : ℕ → Bool) → List Visit → List Ended
ended_in live visits = ended_after live [] visits

-- ---- dead-sequence: sequences of a unit that aren't live, found where the unit is whole

abbrev pub dead_first : (live : ℕ → Bool) → (s : List Row) → List ℕ
dead_first live s = if live (first_place s).address then [] else (first_place s).address ∷ []

-- the first addresses of those of the current unit
abbrev pub dead_told : (live : ℕ → Bool) → List Visit → List ℕ
dead_told live visits = flat_map (dead_first live) (sequences (rows_told visits))

abbrev pub dead_sequence_at : (live : ℕ → Bool) → (before : List Visit) → Visit → List Finding
dead_sequence_at live before (of_end (Some h)) = dead_found (unit_offset 0 before) (dead_told live before)
dead_sequence_at live before visit = []
