-- What the visits of a section up to some one tell of its current unit. DWARF 5, sections 6.2.2 to 6.2.5.
use Rattle.std.specs.Prelude.{ℕ, ◌+◌, Bool, true, false, ◌==◌, if◌then◌else◌, List, [], ◌∷◌, flat_map, length}
use Rattle.std.specs.Prelude.{Option, Some, None, unwrap_or}
use Rattle.std.specs.List.{after_last, before_last, count_by}
use Rattle.std.specs.Option.{option_or}
use Rattle.dl_table.specs.declared.form.Format.{Format}
use Rattle.dl_table.specs.declared.form.Format.TheVariants.{Dwarf32, Dwarf64}
use Rattle.dl_field.specs.declared.params.Params.{Params}
use Rattle.dl_findings.specs.Counting.{at_most_64_bits}
use Rattle.dl_rows.specs.Items.{a_byte, a_row, an_operation}
use Rattle.dl_rows.specs.declared.row.Row.{Row}
use Rattle.dl_look.specs.FinderRows.{unended}
use Rattle.dl_sections.specs.Section.{Visit, of_header, of_item}

-- ---- the current unit

abbrev pub is_header : Visit → Bool
is_header (of_header offset lengths h) = true
is_header visit = false

-- what was told of it after its header
abbrev pub of_unit : List Visit → List Visit
of_unit visits = after_last is_header visits

abbrev pub row_of : Visit → List Row
row_of (of_item (a_row h r)) = r ∷ []
row_of visit = []

-- its rows
abbrev pub rows_told : List Visit → List Row
rows_told visits = flat_map row_of (of_unit visits)

-- those of its current sequence: after its last end row
abbrev pub sequence_told : List Visit → List Row
sequence_told visits = unended (rows_told visits)

-- which row of the unit the next one is, from 1 on
abbrev pub row_number : List Visit → ℕ
row_number visits = at_most_64_bits (length (rows_told visits) + 1)

-- ---- offsets in the section

-- the size of unit_length, version and header_length
abbrev pub fixed_sizes : Format → ℕ
fixed_sizes Dwarf32 = 10
fixed_sizes Dwarf64 = 22

-- header_length counts the bytes from after it, and from version 5 on address_size and segment_selector_size stand before it. Section 6.2.4
abbrev pub program_offset : (unit header_length : ℕ) → Params → ℕ
program_offset unit header_length p =
    (unit + (if p.version == 5 then fixed_sizes p.format + 2 else fixed_sizes p.format)) + header_length

abbrev pub program_of : Visit → Option ℕ
program_of (of_header offset lengths h) = Some (program_offset offset lengths.header_length h.params)
program_of visit = None

-- that of the last header
abbrev pub last_program : List Visit → Option ℕ
last_program [] = None
last_program (visit ∷ visits) = option_or (last_program visits) (program_of visit)

-- where the program of the current unit begins
abbrev pub program_begins : List Visit → ℕ
program_begins visits = unwrap_or (last_program visits) 0

abbrev pub is_byte : Visit → Bool
is_byte (of_item (a_byte b)) = true
is_byte visit = false

abbrev pub is_operation : Visit → Bool
is_operation (of_item (an_operation h o)) = true
is_operation visit = false

-- after the bytes of the current unit's program that are among these
abbrev pub offset_after : (visits told : List Visit) → ℕ
offset_after visits told = at_most_64_bits (program_begins visits + count_by is_byte told)

-- where the last operation begins, which the bytes before the operation before it come before
abbrev pub operation_offset : List Visit → ℕ
operation_offset visits = offset_after visits (before_last is_operation (before_last is_operation (of_unit visits)))

-- where the operation begins that comes after these: the bytes since the last one are its own
abbrev pub next_operation_offset : List Visit → ℕ
next_operation_offset visits = offset_after visits (before_last is_operation (of_unit visits))

-- after all bytes of the program
abbrev pub end_offset : List Visit → ℕ
end_offset visits = offset_after visits (of_unit visits)
