-- The rules of headers: what each finds at a visit of a section, before being the visits before it. DWARF 5, sections 6.2.4 and
-- 6.2.4.1.
use Rattle.std.specs.Prelude.{◌==◌, if◌then◌else◌, List, [], ◌∷◌}
use Rattle.dl_sections.specs.Section.{Visit, of_header}
use Rattle.dl_table_rules.specs.HeaderFindings.{directories_found}
use Rattle.dl_table_rules.specs.TableFindings.{in_header}
use Rattle.dl_findings.specs.declared.finding.Finding.{Finding}
use Rattle.dl_findings.specs.declared.finding.Found.TheVariants as found

abbrev pub directory_index_at : (before : List Visit) → Visit → List Finding
directory_index_at before (of_header offset lengths h) = directories_found offset h
directory_index_at before visit = []

-- ---- padding: header_length says that the program begins later than the tables end. What stands between is read by nobody

abbrev pub padding_at : (before : List Visit) → Visit → List Finding
padding_at before (of_header offset lengths h) =
    if lengths.padding == 0 then [] else in_header offset (found.Padding lengths.padding) ∷ []
padding_at before visit = []
