-- The rules of rows: what each finds at a visit of a section, before being the visits before it. DWARF 5, sections 6.2.2 to
-- 6.2.5.
use Rattle.std.specs.Prelude.{ℕ, ◌+◌, ◌-◌, ◌%◌, ◌^◌, Bool, false, not, ◌==◌, ◌&&◌, nat_lt, if◌then◌else◌}
use Rattle.std.specs.Prelude.{List, [], ◌∷◌, ◌++◌, length, is_none, Some}
use Rattle.std.specs.List.{list_any}
use Rattle.dl_field.specs.HeaderData.{HeaderData}
use Rattle.dl_head.specs.Numbers.{file_numbered, first_number}
use Rattle.dl_rows.specs.Items.{a_row}
use Rattle.dl_rows.specs.declared.row.Row.{Row}
use Rattle.dl_look.specs.Answer.{first_place, is_below, last_place, place_of}
use Rattle.dl_sections.specs.Section.{Visit, of_item, of_open}
use Rattle.dl_findings.specs.Counting.{at_most_64_bits}
use Rattle.dl_lint.specs.Before.{end_offset, operation_offset, row_number, rows_told, sequence_told}
use Rattle.dl_findings.specs.declared.finding.Finding.{Finding}
use Rattle.dl_findings.specs.declared.finding.Found.{Found}
use Rattle.dl_findings.specs.declared.finding.Found.TheVariants as found
use Rattle.dl_findings.specs.declared.finding.RowSeen.{RowSeen}

-- the row that comes after these visits
abbrev pub row_seen : (before : List Visit) → Row → RowSeen
row_seen before r = record { number = row_number before; place = place_of r }

-- at the operation that appends it, where that is so
abbrev pub found_if : Bool → (before : List Visit) → Row → Found → List Finding
found_if is before r f =
    if is then record { offset = operation_offset before; row = Some (row_seen before r); found = f } ∷ [] else []

-- ---- file-index: a row names no file of the table. What an end row says beside its address has no meaning (section 6.2.2)

abbrev pub names_no_file : HeaderData → Row → Bool
names_no_file h r = not r.end_sequence && is_none (file_numbered h r.file)

abbrev pub file_index_at : (before : List Visit) → Visit → List Finding
file_index_at before (of_item (a_row h r)) =
    found_if (names_no_file h r) before r (found.FileIndex r.file (length h.files.entries) (first_number h.params))
file_index_at before visit = []

-- ---- falling-place: within a sequence addresses, and at one address operations, don't fall (section 6.2.5)

abbrev pub falls_below : List Row → Row → Bool
falls_below [] r = false
falls_below (s ∷ rows) r = is_below (place_of r) (last_place (s ∷ rows))

abbrev pub falling_place_at : (before : List Visit) → Visit → List Finding
falling_place_at before (of_item (a_row h r)) =
    found_if (falls_below (sequence_told before) r) before r (found.FallingPlace (last_place (sequence_told before)))
falling_place_at before visit = []

-- ---- no-end: every sequence ends with an end row (section 6.2.5.3). It is found at the end of the program

abbrev pub last_seen : (before : List Visit) → RowSeen
last_seen before =
    record { number = at_most_64_bits (length (rows_told before)); place = last_place (rows_told before) }

abbrev pub no_end_at : (before : List Visit) → Visit → List Finding
no_end_at before of_open =
    record { offset = end_offset before; row = Some (last_seen before); found = found.NoEnd } ∷ []
no_end_at before visit = []

-- ---- empty-sequence: the address of an end row is the first after its sequence (section 6.2.2), and here that of the first
-- row too

abbrev pub first_address : (before : List Visit) → Row → ℕ
first_address before r = (first_place (sequence_told before ++ r ∷ [])).address

abbrev pub ends_nothing : (before : List Visit) → Row → Bool
ends_nothing before r = r.end_sequence && (first_address before r == r.address)

abbrev pub empty_sequence_at : (before : List Visit) → Visit → List Finding
empty_sequence_at before (of_item (a_row h r)) =
    found_if (ends_nothing before r) before r found.EmptySequence
empty_sequence_at before visit = []

-- ---- line-wrapped: a line that so many debuggers don't hold, most often one below 0, as lines are counted modulo 2^64
-- (section 6.2.2)

abbrev pub is_wrapped : (line : ℕ) → Bool
is_wrapped line = nat_lt (2 ^ 32 - 1) line

abbrev pub line_wrapped_at : (before : List Visit) → Visit → List Finding
line_wrapped_at before (of_item (a_row h r)) =
    found_if (is_wrapped r.line) before r (found.LineWrapped r.line)
line_wrapped_at before visit = []

-- ---- no-statement: no row of a sequence that has ended is a recommended place for a breakpoint (section 6.2.2, is_stmt)

abbrev pub ends_without_statement : (before : List Visit) → Row → Bool
ends_without_statement before r = r.end_sequence && not (list_any (λ s. s.is_stmt) (sequence_told before))

abbrev pub no_statement_at : (before : List Visit) → Visit → List Finding
no_statement_at before (of_item (a_row h r)) = found_if (ends_without_statement before r) before r found.NoStatement
no_statement_at before visit = []

-- ---- split-instruction: each instruction is so many bytes long or a multiple of that (section 6.2.4,
-- minimum_instruction_length); 0 says nothing of it

-- how far two addresses are apart
abbrev pub distance : ℕ → ℕ → ℕ
distance a b = (a - b) + (b - a)

abbrev pub is_split : (least : ℕ) → (first address : ℕ) → Bool
is_split least first address = not (least == 0) && not (distance first address % least == 0)

abbrev pub split_instruction_at : (before : List Visit) → Visit → List Finding
split_instruction_at before (of_item (a_row h r)) =
    found_if (is_split h.params.minimum_instruction_length (first_address before r) r.address) before r
    (found.SplitInstruction (first_address before r) h.params.minimum_instruction_length)
split_instruction_at before visit = []
