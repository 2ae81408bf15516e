-- The text that a section is printed as: a line for each event of its units, and those of their headers. DWARF 5,
-- section 6.2.4.
use Rattle.std.specs.Prelude.{ℕ, List, [], flat_map, if◌then◌else◌}
use Rattle.dl_field.specs.HeaderData.{HeaderData}
use Rattle.dl_head.specs.declared.dialect.Dialect.{Dialect}
use Rattle.dl_head.specs.declared.header.HeaderLengths.{HeaderLengths}
use Rattle.dl_rows.specs.Items.{a_row}
use Rattle.dl_sections.specs.Section.{Visit, of_header, of_version, of_item, of_open, of_end, of_damage, section_visits}
use Rattle.dl_print.specs.Text.{row_line, foreign_line, open_line}
use Rattle.dl_print.specs.ValueText.{Strings}
use Rattle.dl_print.specs.HeaderFields.{full_header_text}
use Rattle.dl_print.specs.HeaderText.{header_text}
use Rattle.dl_sections.specs.declared.options.Detail.{Detail}

-- what is shown of a section besides its units, tables and rows, and the string sections that were handed in
pub record DumpStyle : Type 0 where
  pub detail : Detail
  pub strings : Strings

-- a header, with its fields where they are shown
abbrev pub header_shown : DumpStyle → (offset : ℕ) → HeaderLengths → HeaderData → List ℕ
header_shown style offset lengths h = if style.detail.header then full_header_text style.strings offset lengths h
    else header_text style.strings offset h

abbrev pub visit_text : DumpStyle → Visit → List ℕ
visit_text style (of_header offset lengths h) = header_shown style offset lengths h
visit_text style (of_version offset version) = foreign_line offset version
visit_text style (of_item (a_row header r)) = row_line r
visit_text style (of_item other) = []
visit_text style of_open = open_line
visit_text style (of_end h) = []
visit_text style (of_damage unit offset kind) = []

abbrev pub visits_text : DumpStyle → List Visit → List ℕ
visits_text style visits = flat_map (visit_text style) visits

-- of units, and of the front of one more
abbrev pub section_text : Dialect → DumpStyle → List (List ℕ) → List ℕ → List ℕ
section_text dialect style units b = visits_text style (section_visits dialect units b)
