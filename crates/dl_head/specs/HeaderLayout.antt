-- The fields of a line number program header in their order. DWARF 5, sections 6.2.4 and 7.4; DWARF 2 to 4, section
-- 6.2.4.
use Rattle.std.specs.Prelude.{ℕ, zero, suc, ◌+◌, ◌-◌, List, [], ◌∷◌, ◌++◌, ℤ, pos, ◌-ℤ◌, nat_lt, ◌==◌, Option, Some}
use Rattle.std.specs.Prelude.{None, if◌then◌else◌}
use Rattle.dl_head.specs.declared.dialect.Dialect.{Dialect}
use Rattle.dl_head.specs.Dialect.{older_size}
use Rattle.dl_table.specs.declared.form.Format.{Format}
use Rattle.dl_table.specs.declared.form.Format.TheVariants.{Dwarf32, Dwarf64}
use Rattle.dl_field.specs.declared.params.Params.{Params}
use Rattle.dl_table.specs.TableData.{TableData}
use Rattle.dl_table.specs.Value.{offset_size}
use Rattle.dl_field.specs.Layout.{version, address_size, any_byte, header_length, maximum_operations, line_range}
use Rattle.dl_field.specs.Layout.{opcode_base, opcode_length, Layout, initial_length_then, number_then, foreign_version}
use Rattle.dl_field.specs.Layout.{last_entry, table_layout, path_or_end, listed_directory, listed_file}

-- the size of the initial length, section 7.4
abbrev pub initial_size : Format → ℕ
initial_size Dwarf32 = 4
initial_size Dwarf64 = 12

-- a byte as a signed number
abbrev pub signed_byte : ℕ → ℤ
signed_byte n = if nat_lt n 128 then pos n else pos n -ℤ pos 256

-- the lengths of the opcodes from the first on, count of them
abbrev pub lengths_layout : ℕ → ℕ → List ℕ → (List ℕ → Layout) → Layout
lengths_layout opcode zero before next = next before
lengths_layout opcode (suc count) before next =
    number_then (opcode_length opcode) λ n. lengths_layout (opcode + 1) count (before ++ n ∷ []) next

-- the header is complete
abbrev pub from_end : Params → TableData → TableData → Layout
from_end p directories files = last_entry (record { params = p; directories = directories; files = files })

-- the table of files
abbrev pub from_files : Params → TableData → Layout
from_files p directories = table_layout p.format (from_end p directories)

-- those of versions 2 to 4
abbrev pub from_older_files : Params → TableData → Layout
from_older_files p directories = path_or_end p.format listed_file [] (from_end p directories)

abbrev pub from_older_directories : Params → Layout
from_older_directories p = path_or_end p.format listed_directory [] (from_older_files p)

-- the two tables
abbrev pub tables_layout : Params → Layout
tables_layout p = if p.version == 5 then table_layout p.format (from_files p) else from_older_directories p

-- the size of the fields from version to header_length: older versions have no address_size and no
-- segment_selector_size
abbrev pub fixed_part : Format → ℕ → ℕ
fixed_part format v = (if v == 5 then 4 else 2) + offset_size format

-- The fields from one on, the values of those before it being in p. They stand here from the last to the first.
abbrev pub from_lengths : Params → Layout
from_lengths p = lengths_layout 1 (p.opcode_base - 1) [] λ lengths. tables_layout
    (record p { lengths = record { items = lengths } })

abbrev pub from_opcode_base : Params → Layout
from_opcode_base p = number_then opcode_base λ n. from_lengths (record p { opcode_base = n })

abbrev pub from_line_range : Params → Layout
from_line_range p = number_then line_range λ n. from_opcode_base (record p { line_range = n })

abbrev pub from_line_base : Params → Layout
from_line_base p = number_then any_byte λ n. from_line_range (record p { line_base = signed_byte n })

abbrev pub from_default_is_stmt : Params → Layout
from_default_is_stmt p = number_then any_byte λ n. from_line_base (record p { default_is_stmt = n })

abbrev pub from_maximum_operations : Params → Layout
from_maximum_operations p = number_then maximum_operations λ n. from_default_is_stmt
    (record p { maximum_operations_per_instruction = n })

-- versions 2 and 3 have no maximum_operations_per_instruction
abbrev pub after_minimum_length : Params → Layout
after_minimum_length p = if nat_lt p.version 4 then from_default_is_stmt p else from_maximum_operations p

abbrev pub from_minimum_length : Params → Layout
from_minimum_length p = number_then any_byte λ n. after_minimum_length (record p { minimum_instruction_length = n })

-- unit_length is that of the unit
abbrev pub from_header_length : ℕ → Params → Layout
from_header_length unit_length p = number_then (header_length p.format (unit_length - fixed_part p.format p.version))
    λ n. from_minimum_length p

abbrev pub from_segment_selector_size : ℕ → Params → Layout
from_segment_selector_size unit_length p = number_then any_byte λ n. from_header_length unit_length
    (record p { segment_selector_size = n })

abbrev pub from_address_size : ℕ → Params → Layout
from_address_size unit_length p = number_then address_size λ n. from_segment_selector_size unit_length
    (record p { address_size = n })

-- the params of which only the format was read
abbrev pub format_alone : Format → Params
format_alone format = record {
  format = format;
  version = 5;
  address_size = 0;
  segment_selector_size = 0;
  minimum_instruction_length = 0;
  maximum_operations_per_instruction = 0;
  default_is_stmt = 0;
  line_base = pos 0;
  line_range = 0;
  opcode_base = 0;
  lengths = record { items = [] };
}

-- what is known of a header of an older version before header_length: an instruction has one operation unless it says
-- another number
abbrev pub older_params : Format → ℕ → ℕ → Params
older_params format v size =
    record (format_alone format) { version = v; address_size = size; maximum_operations_per_instruction = 1 }

abbrev pub from_older_version : Format → ℕ → ℕ → Option ℕ → Layout
from_older_version format unit_length v None = foreign_version v
from_older_version format unit_length v (Some size) = from_header_length unit_length (older_params format v size)

-- the fields of a header
abbrev pub header_layout : Dialect → Layout
header_layout dialect =
    initial_length_then λ format unit_length.
    number_then version λ v.
    if v == 5 then from_address_size unit_length (format_alone format)
    else from_older_version format unit_length v (older_size dialect v)
