-- The one spelling of a header that is written: shortest numbers, nothing after the last entry. DWARF 5, section 6.2.4.
use Rattle.std.specs.Prelude.{ℕ, ◌+◌, ◌-◌, ◌%◌, Bool, List, [], ◌∷◌, ◌++◌, length, ℤ, pos, negsuc, nat_le}
use Rattle.dl_num.specs.declared.fixed.Order.{Order}
use Rattle.dl_num.specs.declared.fixed.Order.TheVariants.{Little}
use Rattle.dl_num.specs.Fixed.{fixed_bytes}
use Rattle.dl_table.specs.declared.form.Format.{Format}
use Rattle.dl_table.specs.declared.form.Format.TheVariants.{Dwarf32, Dwarf64}
use Rattle.dl_field.specs.HeaderData.{HeaderData}
use Rattle.dl_table.specs.Value.{offset_size}
use Rattle.dl_table.specs.Written.{table_bytes}
use Rattle.dl_field.specs.Layout.{unit_length_limit}
use Rattle.dl_head.specs.HeaderLayout.{fixed_part}

-- a signed number as a byte
abbrev pub byte_of : ℤ → ℕ
byte_of (pos n) = n % 256
byte_of (negsuc n) = 255 - n % 256

-- the fields after header_length
abbrev pub after_header_length : Order → HeaderData → List ℕ
after_header_length order h =
    h.params.minimum_instruction_length ∷ h.params.maximum_operations_per_instruction ∷ h.params.default_is_stmt
    ∷ byte_of h.params.line_base ∷ h.params.line_range ∷ h.params.opcode_base ∷ h.params.lengths.items
    ++ table_bytes order h.directories ++ table_bytes order h.files

-- header_length, which is the same in either order
abbrev pub header_length_of : HeaderData → ℕ
header_length_of h = length (after_header_length Little h)

-- unit_length of a unit with a program of `program_len` bytes
abbrev pub unit_length_of : HeaderData → ℕ → ℕ
unit_length_of h program_len = fixed_part h.params.format 5 + header_length_of h + program_len

-- unit_length in its format, section 7.4
abbrev pub initial_length_bytes : Order → Format → ℕ → List ℕ
initial_length_bytes order Dwarf32 n = fixed_bytes order 4 n
initial_length_bytes order Dwarf64 n = fixed_bytes order 4 0xffffffff ++ fixed_bytes order 8 n

-- the bytes of a unit before its program, which has `program_len` bytes
abbrev pub header_bytes : Order → HeaderData → ℕ → List ℕ
header_bytes order h program_len =
    initial_length_bytes order h.params.format (unit_length_of h program_len)
    ++ fixed_bytes order 2 5 ++ h.params.address_size ∷ h.params.segment_selector_size ∷ []
    ++ fixed_bytes order (offset_size h.params.format) (header_length_of h) ++ after_header_length order h

-- the greatest unit_length that is written
abbrev pub written_limit : Format → ℕ
written_limit Dwarf32 = 0xffffffef
written_limit Dwarf64 = unit_length_limit

-- a unit of this header and a program of `program_len` bytes can be written
abbrev pub is_within_limit : HeaderData → ℕ → Bool
is_within_limit h program_len = nat_le (unit_length_of h program_len) (written_limit h.params.format)
