-- The text that a section is shown as, with the details that are wanted. DWARF 5, sections 6.2.4 and 6.2.5.
use Rattle.std.specs.Prelude.{ℕ, if◌then◌else◌, List, [], ◌∷◌, ◌++◌, Option, Some, None, codes, option_map}
use Rattle.dl_dirs.specs.Compilation.{directory_by}
use Rattle.dl_field.specs.HeaderData.{HeaderData}
use Rattle.dl_head.specs.declared.header.HeaderLengths.{HeaderLengths}
use Rattle.dl_rows.specs.declared.row.Row.{Row}
use Rattle.dl_rows.specs.Items.{a_byte, a_row, an_operation}
use Rattle.dl_path.specs.Paths.{beside_table, compiled_in, has_directory_0, path_of}
use Rattle.dl_path.specs.Shown.{shown}
use Rattle.dl_print.specs.HeaderFields.{full_header_text}
use Rattle.dl_print.specs.HeaderText.{header_text}
use Rattle.dl_print.specs.Text.{foreign_line, open_line, row_text}
use Rattle.dl_print.specs.ValueText.{Strings}
use Rattle.dl_sections.specs.Section.{Visit, of_damage, of_end, of_header, of_item, of_open, of_version}
use Rattle.dl_dump.specs.declared.details.Details.{Details}
use Rattle.dl_dump.specs.declared.reached.Opcode.{Opcode}
use Rattle.dl_dump.specs.declared.reached.Opcode.TheVariants as opcode
use Rattle.dl_dump.specs.declared.reached.Reached.{Reached}
use Rattle.dl_dump.specs.OperationText.{byte_text, operation_end}
use Rattle.dl_dump.specs.Reached.{at_program, before_units, with_byte, with_operation}

-- what is shown, and the string sections that were handed in
pub record DetailStyle : Type 0 where
  pub details : Details
  pub strings : Strings

-- ---- paths

-- the path of a file of the unit at that offset, under the directory in which it was compiled
abbrev pub compiled_path : DetailStyle → HeaderData → (unit file : ℕ) → Option (List ℕ)
compiled_path style h unit file =
    option_map (compiled_in (beside_table (has_directory_0 (Some h)) (directory_by style.details.directories unit)))
    (path_of style.strings (Some h) file)

abbrev pub path_text : Option (List ℕ) → List ℕ
path_text None = codes "??"
path_text (Some path) = shown path

-- at the end of a row, where paths are shown
abbrev pub row_path : DetailStyle → Reached → HeaderData → Row → List ℕ
row_path style at h r = if style.details.paths then codes " " ++ path_text (compiled_path style h at.unit r.file) else []

-- ---- one visit; at: how far the section has come before it

-- the line of an operation that was cut off ends before the next unit
abbrev pub line_end : Opcode → List ℕ
line_end opcode.Unread = []
line_end other = codes "\n"

abbrev pub header_shown : DetailStyle → (offset : ℕ) → HeaderLengths → HeaderData → List ℕ
header_shown style offset lengths h =
    if style.details.header then full_header_text style.strings offset lengths h else header_text style.strings offset h

abbrev pub shown_visit : DetailStyle → Reached → Visit → List ℕ
shown_visit style at (of_header offset lengths h) = line_end at.opcode ++ header_shown style offset lengths h
shown_visit style at (of_version offset version) = line_end at.opcode ++ foreign_line offset version
shown_visit style at (of_item (a_byte b)) = if style.details.operations then byte_text at b else []
shown_visit style at (of_item (an_operation h o)) = if style.details.operations then operation_end h.params at o else []
shown_visit style at (of_item (a_row h r)) = row_text r ++ (row_path style at h r ++ codes "\n")
shown_visit style at of_open = open_line
shown_visit style at (of_end h) = []
shown_visit style at (of_damage unit offset kind) = []

-- how far it has come after it
abbrev pub reached : DetailStyle → Reached → Visit → Reached
reached style at (of_header offset lengths h) = at_program offset lengths h
reached style at (of_version offset version) = record at { opcode = opcode.Unread }
reached style at (of_item (a_byte b)) = if style.details.operations then with_byte at b else at
reached style at (of_item (an_operation h o)) = if style.details.operations then with_operation h.params at o else at
reached style at visit = at

-- ---- visits, one after the other

abbrev pub reached_after : DetailStyle → Reached → List Visit → Reached
reached_after style at [] = at
reached_after style at (visit ∷ visits) = reached_after style (reached style at visit) visits

abbrev pub shown_after : DetailStyle → Reached → List Visit → List ℕ
shown_after style at [] = []
shown_after style at (visit ∷ visits) = shown_visit style at visit ++ shown_after style (reached style at visit) visits

-- of a section
abbrev pub details_text : DetailStyle → List Visit → List ℕ
details_text style visits = shown_after style before_units visits
