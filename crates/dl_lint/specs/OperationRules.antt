-- The rules of operations: what each finds at a visit of a section, before being the visits before it. DWARF 5, sections 6.2.4.1
-- and 6.2.5.1 to 6.2.5.3.
use Rattle.std.specs.Prelude.{ℕ, nat_lt, if◌then◌else◌, List, [], ◌∷◌, Option, Some, None}
use Rattle.dl_field.specs.declared.params.Params.{Params}
use Rattle.dl_rows.specs.declared.operation.Operation.{Operation}
use Rattle.dl_rows.specs.Items.{an_operation}
use Rattle.dl_look.specs.declared.place.Place.{Place}
use Rattle.dl_sections.specs.Section.{Visit, of_header, of_item}
use Rattle.dl_findings.specs.Counting.{at_most_64_bits}
use Rattle.dl_table_rules.specs.HeaderFindings.{contents_found}
use Rattle.dl_operation_rules.specs.Judging.{is_unknown, wraps}
use Rattle.dl_operation_rules.specs.Operations.{longest_number, moved_by, passed_over, seen}
use Rattle.dl_lint.specs.Before.{next_operation_offset}
use Rattle.dl_findings.specs.declared.finding.Finding.{Finding}
use Rattle.dl_findings.specs.declared.finding.Found.{Found}
use Rattle.dl_findings.specs.declared.finding.Found.TheVariants as found
use Rattle.dl_findings.specs.declared.finding.Opcode.{Opcode}

-- at the operation that comes after these visits
abbrev pub at_operation : (before : List Visit) → Found → Finding
at_operation before f = record { offset = next_operation_offset before; row = None; found = f }

-- ---- long-number: more bytes than assemblers pad numbers in LEB128 to

abbrev pub long_found : (before : List Visit) → (bytes : ℕ) → List Finding
long_found before bytes =
    if nat_lt 10 bytes then at_operation before (found.LongNumber (at_most_64_bits bytes)) ∷ [] else []

abbrev pub long_number_at : (before : List Visit) → Visit → List Finding
long_number_at before (of_item (an_operation h o)) = long_found before (longest_number (seen before).bytes)
long_number_at before visit = []

-- ---- wrapped-address: an advance (section 6.2.5.1, and DW_LNS_fixed_advance_pc) leads the address past what address_size bytes
-- hold, from where it goes on at 0

abbrev pub wrapped_found : (before : List Visit) → Params → Place → Operation → List Finding
wrapped_found before p at o =
    if wraps p (moved_by p at o) o then at_operation before (found.WrappedAddress at.address p.address_size) ∷ [] else []

abbrev pub wrapped_address_at : (before : List Visit) → Visit → List Finding
wrapped_address_at before (of_item (an_operation h o)) = wrapped_found before h.params (seen before).place o
wrapped_address_at before visit = []

-- ---- unknown-opcode: an opcode that is passed over and that the standard doesn't name, the first time in its unit; and content
-- codes, which are found in the header

abbrev pub opcode_found : (before : List Visit) → Params → Option Opcode → List Finding
opcode_found before p None = []
opcode_found before p (Some o) =
    if is_unknown p (seen before).opcodes o then at_operation before (found.UnknownOpcode o) ∷ [] else []

abbrev pub unknown_opcode_at : (before : List Visit) → Visit → List Finding
unknown_opcode_at before (of_item (an_operation h o)) = opcode_found before h.params (passed_over o (seen before).bytes)
unknown_opcode_at before (of_header offset lengths h) = contents_found offset h
unknown_opcode_at before visit = []
