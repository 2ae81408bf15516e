-- The rules of tables: what each finds at a visit of a section, before being the visits before it. s: the string sections. DWARF
-- 5, sections 6.2.2, 6.2.4.1 and 7.5.5.
use Rattle.std.specs.Prelude.{ℕ, if◌then◌else◌, List, [], ◌∷◌, flat_map, Some}
use Rattle.dl_print.specs.ValueText.{Strings}
use Rattle.dl_rows.specs.declared.row.Row.{Row}
use Rattle.dl_sections.specs.Copying.{offset_after as unit_offset}
use Rattle.dl_sections.specs.Section.{Visit, of_end, of_header}
use Rattle.dl_findings.specs.declared.finding.Finding.{Finding}
use Rattle.dl_table_rules.specs.Sums.{sums_found}
use Rattle.dl_table_rules.specs.TableFindings.{duplicates_found, missing_found, unused_found}
use Rattle.dl_lint.specs.Before.{rows_told}

abbrev pub missing_text_at : Strings → (before : List Visit) → Visit → List Finding
missing_text_at s before (of_header offset lengths h) = missing_found s offset h
missing_text_at s before visit = []

abbrev pub duplicate_file_at : (before : List Visit) → Visit → List Finding
duplicate_file_at before (of_header offset lengths h) = duplicates_found offset h
duplicate_file_at before visit = []

abbrev pub md5_missing_at : (before : List Visit) → Visit → List Finding
md5_missing_at before (of_header offset lengths h) = sums_found offset h
md5_missing_at before visit = []

-- the file that a row names. What an end row says beside its address has no meaning (section 6.2.2)
abbrev pub file_of : Row → List ℕ
file_of r = if r.end_sequence then [] else r.file ∷ []

-- those that the rows of the current unit name
abbrev pub files_named : List Visit → List ℕ
files_named visits = flat_map file_of (rows_told visits)

-- unused-file is found where a unit is whole
abbrev pub unused_file_at : (before : List Visit) → Visit → List Finding
unused_file_at before (of_end (Some h)) = unused_found (unit_offset 0 before) h (files_named before)
unused_file_at before visit = []
