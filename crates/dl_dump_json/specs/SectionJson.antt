-- The JSON Lines of a section: an object for each header, each unit of another version, each row, and each sequence without
-- an end row. DWARF 5, section 6.2.4.
use Rattle.std.specs.Prelude.{ℕ, List, [], flat_map}
use Rattle.dl_rows.specs.Items.{a_row}
use Rattle.dl_print.specs.ValueText.{Strings}
use Rattle.dl_sections.specs.Section.{Visit, of_damage, of_end, of_header, of_item, of_open, of_version}
use Rattle.dl_dump_json.specs.Rows.{row_object}
use Rattle.dl_dump_json.specs.Units.{open_object, skipped_object, unit_object}

abbrev pub visit_json : Strings → Visit → List ℕ
visit_json s (of_header offset lengths h) = unit_object s offset lengths h
visit_json s (of_version offset version) = skipped_object offset version
visit_json s (of_item (a_row header r)) = row_object r
visit_json s (of_item other) = []
visit_json s of_open = open_object
visit_json s (of_end h) = []
visit_json s (of_damage unit offset kind) = []

-- of visits, one after the other
abbrev pub visits_json : Strings → List Visit → List ℕ
visits_json s visits = flat_map (visit_json s) visits
