-- The JSON objects of units, each in a line. DWARF 5, section 6.2.4.
use Rattle.std.specs.Prelude.{ℕ, ◌+◌, List, ◌++◌, codes, decimal}
use Rattle.dl_table.specs.EntryData.{with_content}
use Rattle.dl_table.specs.TableData.{TableData}
use Rattle.dl_table.specs.declared.form.Format.{Format}
use Rattle.dl_field.specs.HeaderData.{HeaderData}
use Rattle.dl_head.specs.Numbers.{first_number}
use Rattle.dl_head.specs.declared.header.HeaderLengths.{HeaderLengths}
use Rattle.dl_print.specs.Text.{format_name}
use Rattle.dl_print.specs.ValueText.{Strings}
use Rattle.dl_dump_json.specs.Fields.{fields_members}
use Rattle.dl_dump_json.specs.Members.{array_member}
use Rattle.dl_dump_json.specs.Values.{entry_object}

-- ---- a unit that is read

-- the offset of the unit in the section, and its format
unfoldable pub unit_start : (offset : ℕ) → Format → List ℕ
unit_start offset format =
    codes "{\"kind\":\"unit\",\"offset\":" ++ (decimal offset ++ (codes ",\"format\":\"" ++ (format_name format ++ codes "\"")))

-- a table of directories or files, whose entries are numbered from `first` on
abbrev pub table_member : Strings → (name : List ℕ) → (first : ℕ) → TableData → List ℕ
table_member s name first t =
    array_member name (λ place values. entry_object s (first + place) (with_content t.pairs values)) t.entries

-- both tables
unfoldable pub tables_members : Strings → HeaderData → List ℕ
tables_members s h =
    table_member s (codes "directories") (first_number h.params) h.directories
    ++ table_member s (codes "files") (first_number h.params) h.files

abbrev pub unit_object : Strings → (offset : ℕ) → HeaderLengths → HeaderData → List ℕ
unit_object s offset l h =
    unit_start offset h.params.format ++ (fields_members l h ++ (tables_members s h ++ codes "}\n"))

-- ---- others

-- a unit that is passed over, for its version
unfoldable pub skipped_object : (offset version : ℕ) → List ℕ
skipped_object offset version =
    codes "{\"kind\":\"skipped\",\"offset\":"
    ++ (decimal offset ++ ((codes ",\"version\":" ++ decimal version) ++ codes "}\n"))

-- a sequence that has no end row
abbrev pub open_object : List ℕ
open_object = codes "{\"kind\":\"open\"}\n"
