-- The numbers by which rows and files name directories and files: in version 5 from 0 on (DWARF 5, section 6.2.4), before from
-- 1 on (DWARF 4, section 6.2.4, include_directories and file_names), where the compilation directory is directory 0 and no table has it.
use Rattle.std.specs.Prelude.{ℕ, ◌==◌, ◌-◌, nat_lt, if◌then◌else◌, List, Option, None, option_map, slice_get}
use Rattle.dl_field.specs.HeaderData.{HeaderData}
use Rattle.dl_field.specs.declared.params.Params.{Params}
use Rattle.dl_table.specs.EntryData.{with_content}
use Rattle.dl_table.specs.TableData.{TableData}
use Rattle.dl_table.specs.Value.{Value}

-- the number of the first entry of a table
abbrev pub first_number : Params → ℕ
first_number p = if p.version == 5 then 0 else 1

-- the values, with their content codes, of the entry of this number in a table whose entries have numbers from `first` on
abbrev pub entry_numbered : (first : ℕ) → TableData → ℕ → Option (List (ℕ × Value))
entry_numbered first t n = if nat_lt n first then None else option_map (with_content t.pairs) (slice_get t.entries (n - first))

abbrev pub directory_numbered : HeaderData → ℕ → Option (List (ℕ × Value))
directory_numbered h n = entry_numbered (first_number h.params) h.directories n

abbrev pub file_numbered : HeaderData → ℕ → Option (List (ℕ × Value))
file_numbered h n = entry_numbered (first_number h.params) h.files n
