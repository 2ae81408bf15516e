-- Worked rows, computed: what the definitions give for the bytes of headers.
use Rattle.std.proofs.Common.{◌≡◌, refl, ℕ, List, [], ◌∷◌, ◌++◌, Some, None, negsuc, true, false}
use Rattle.dl_num.specs.declared.fixed.Order.TheVariants.{Little, Big}
use Rattle.dl_table.specs.declared.fault.FaultKind.{FaultKind}
use Rattle.dl_table.specs.declared.fault.FaultKind.TheVariants as fault
use Rattle.dl_table.specs.declared.form.Format.TheVariants.{Dwarf32, Dwarf64}
use Rattle.dl_table.specs.declared.form.Form.TheVariants as form
use Rattle.dl_field.specs.HeaderData.{HeaderData, header_cells}
use Rattle.dl_table.specs.Value.{text, number, data16, line_str}
use Rattle.dl_head.specs.declared.dialect.Dialect.{Dialect}
use Rattle.dl_head.specs.Dialect.{version_5}
use Rattle.dl_head.specs.Header.{header_in, foreign_in, unit_len}
use Rattle.dl_head.specs.Refusal.{header_refusal_in}
use Rattle.dl_head.specs.Cells.{cells}
use Rattle.dl_head.specs.Written.{header_bytes, is_within_limit}

abbrev little : Dialect
little = version_5 Little

abbrev big : Dialect
big = version_5 Big

-- bytes are refused after this front
abbrev IsRefused : (front back : List ℕ) → ℕ → FaultKind → Type 0
IsRefused front back at kind = header_refusal_in little (front ++ back)
    ≡ Some (record { front = front; at = at; kind = kind })

-- the fields up to header_length, where unit_length and header_length are these
abbrev before : (unit header : ℕ) → List ℕ
before unit header = unit ∷ 0 ∷ 0 ∷ 0 ∷ 5 ∷ 0 ∷ 8 ∷ 0 ∷ header ∷ 0 ∷ 0 ∷ 0 ∷ []

-- the fields from minimum_instruction_length up to the lengths of twelve opcodes
abbrev usual : List ℕ
usual = 1 ∷ 1 ∷ 1 ∷ 0xfb ∷ 0x0e ∷ 0x0d ∷ 0 ∷ 1 ∷ 1 ∷ 1 ∷ 1 ∷ 0 ∷ 0 ∷ 0 ∷ 1 ∷ 0 ∷ 0 ∷ 1 ∷ []

-- a header of the 32-bit format without entries
abbrev empty_header : HeaderData
empty_header = record {
  params = record {
    format = Dwarf32;
    version = 5;
    address_size = 8;
    segment_selector_size = 0;
    minimum_instruction_length = 1;
    maximum_operations_per_instruction = 1;
    default_is_stmt = 1;
    line_base = negsuc 4;
    line_range = 14;
    opcode_base = 13;
    lengths = record { items = 0 ∷ 1 ∷ 1 ∷ 1 ∷ 1 ∷ 0 ∷ 0 ∷ 0 ∷ 1 ∷ 0 ∷ 0 ∷ 1 ∷ [] };
  };
  directories = record { format = Dwarf32; pairs = []; entries = [] };
  files = record { format = Dwarf32; pairs = []; entries = [] };
}

-- the directory /s, and its file a.c with its MD5
abbrev md5_header : HeaderData
md5_header = record {
  params = record empty_header.params { format = Dwarf64 };
  directories = record {
    format = Dwarf64;
    pairs = record { content = 1; form = form.String }
        ∷ [];
    entries = (text (0x2f ∷ 0x73 ∷ []) ∷ []) ∷ [];
  };
  files = record {
    format = Dwarf64;
    pairs = record { content = 1; form = form.String } ∷ record { content = 2; form = form.Udata }
        ∷ record { content = 5; form = form.Data16 } ∷ [];
    entries = (text (0x61 ∷ 0x2e ∷ 0x63 ∷ []) ∷ number 0
        ∷ data16 (0 ∷ 1 ∷ 2 ∷ 3 ∷ 4 ∷ 5 ∷ 6 ∷ 7 ∷ 8 ∷ 9 ∷ 10 ∷ 11 ∷ 12 ∷ 13 ∷ 14 ∷ 15 ∷ []) ∷ []) ∷ [];
  };
}

-- ---- headers

abbrev empty_program : List ℕ
empty_program = before 0x1e 0x16 ++ usual ++ 0 ∷ 0 ∷ 0 ∷ 0 ∷ []

empty_program_is : (header_in little empty_program ≡ Some (empty_header, []))
    × (header_in little (empty_program ++ 0xff ∷ []) ≡ Some (empty_header, 0xff ∷ []))
    × (header_refusal_in little empty_program ≡ None) × (unit_len little empty_program ≡ Some 34)
empty_program_is = (refl, refl, refl, refl)

abbrev md5 : List ℕ
md5 = 0xff ∷ 0xff ∷ 0xff ∷ 0xff ∷ 0x42 ∷ 0 ∷ 0 ∷ 0 ∷ 0 ∷ 0 ∷ 0 ∷ 0 ∷ 5 ∷ 0 ∷ 8 ∷ 0 ∷ 0x36 ∷ 0 ∷ 0 ∷ 0 ∷ 0 ∷ 0 ∷ 0
    ∷ 0 ∷ usual ++ 1 ∷ 1 ∷ 8 ∷ 1 ∷ 0x2f ∷ 0x73 ∷ 0 ∷ 3 ∷ 1 ∷ 8 ∷ 2 ∷ 0x0f ∷ 5 ∷ 0x1e ∷ 1 ∷ 0x61 ∷ 0x2e ∷ 0x63 ∷ 0
    ∷ 0 ∷ 0 ∷ 1 ∷ 2 ∷ 3 ∷ 4 ∷ 5 ∷ 6 ∷ 7 ∷ 8 ∷ 9 ∷ 0x0a ∷ 0x0b ∷ 0x0c ∷ 0x0d ∷ 0x0e ∷ 0x0f ∷ []

md5_is : (header_in little md5 ≡ Some (md5_header, [])) × (cells little md5 ≡ 13) × (header_cells md5_header ≡ 13)
md5_is = (refl, refl, refl)

abbrev big_md5 : List ℕ
big_md5 = 0xff ∷ 0xff ∷ 0xff ∷ 0xff ∷ 0 ∷ 0 ∷ 0 ∷ 0 ∷ 0 ∷ 0 ∷ 0 ∷ 0x42 ∷ 0 ∷ 5 ∷ 8 ∷ 0 ∷ 0 ∷ 0 ∷ 0 ∷ 0 ∷ 0 ∷ 0 ∷ 0
    ∷ 0x36 ∷ usual ++ 1 ∷ 1 ∷ 8 ∷ 1 ∷ 0x2f ∷ 0x73 ∷ 0 ∷ 3 ∷ 1 ∷ 8 ∷ 2 ∷ 0x0f ∷ 5 ∷ 0x1e ∷ 1 ∷ 0x61 ∷ 0x2e ∷ 0x63 ∷ 0
    ∷ 0 ∷ 0 ∷ 1 ∷ 2 ∷ 3 ∷ 4 ∷ 5 ∷ 6 ∷ 7 ∷ 8 ∷ 9 ∷ 0x0a ∷ 0x0b ∷ 0x0c ∷ 0x0d ∷ 0x0e ∷ 0x0f ∷ []

big_md5_is_header : header_in big big_md5 ≡ Some (md5_header, [])
big_md5_is_header = refl

-- two bytes stand between the last entry and the program
abbrev padded : List ℕ
padded = 0x20 ∷ 0 ∷ 0 ∷ 0 ∷ 5 ∷ 0 ∷ 8 ∷ 0 ∷ 0x18 ∷ 0 ∷ 0 ∷ 0 ∷ 1 ∷ 1 ∷ 1 ∷ 0xfb ∷ 0x0e ∷ 0x0d ∷ 0 ∷ 1 ∷ 1 ∷ 1 ∷ 1 ∷ 0
    ∷ 0 ∷ 0 ∷ 1 ∷ 0 ∷ 0 ∷ 1 ∷ 0 ∷ 0 ∷ 0 ∷ 0 ∷ 0xaa ∷ 0xbb ∷ []

padded_is_header : header_in little (padded ++ 1 ∷ []) ≡ Some (empty_header, 1 ∷ [])
padded_is_header = refl

-- a count of 0 in two bytes
abbrev padded_count : List ℕ
padded_count = 0x1f ∷ 0 ∷ 0 ∷ 0 ∷ 5 ∷ 0 ∷ 8 ∷ 0 ∷ 0x17 ∷ 0 ∷ 0 ∷ 0 ∷ 1 ∷ 1 ∷ 1 ∷ 0xfb ∷ 0x0e ∷ 0x0d ∷ 0 ∷ 1 ∷ 1 ∷ 1 ∷ 1
    ∷ 0 ∷ 0 ∷ 0 ∷ 1 ∷ 0 ∷ 0 ∷ 1 ∷ 0 ∷ 0x80 ∷ 0 ∷ 0 ∷ 0 ∷ []

padded_count_is_header : header_in little padded_count ≡ Some (empty_header, [])
padded_count_is_header = refl

abbrev line_strp_directory : List ℕ
line_strp_directory = before 0x24 0x1c ++ usual ++ 1 ∷ 1 ∷ 0x1f ∷ 1 ∷ 2 ∷ 0 ∷ 0 ∷ 0 ∷ 0 ∷ 0 ∷ []

line_strp_is_header : header_in little line_strp_directory ≡ Some (
  record empty_header {
    directories = record {
      format = Dwarf32;
      pairs = record { content = 1; form = form.LineStrp }
          ∷ [];
      entries = (line_str 2 ∷ []) ∷ [];
    };
  },
  [],
)
line_strp_is_header = refl

abbrev low_opcode_base : List ℕ
low_opcode_base = before 0x1e 0x13 ++ 1 ∷ 1 ∷ 1 ∷ 0xfb ∷ 0x0e ∷ 0x0a ∷ 0 ∷ 1 ∷ 1 ∷ 1 ∷ 1 ∷ 0 ∷ 0 ∷ 0 ∷ 1 ∷ 0 ∷ 0 ∷ 0
    ∷ 0 ∷ 3 ∷ 0x0a ∷ 0x0a ∷ []

low_opcode_base_is_header : header_in little low_opcode_base ≡ Some (
  record empty_header {
    params = record empty_header.params {
      opcode_base = 10;
      lengths = record { items = 0 ∷ 1 ∷ 1 ∷ 1 ∷ 1 ∷ 0 ∷ 0 ∷ 0 ∷ 1 ∷ [] };
    };
  },
  3 ∷ 10 ∷ 10 ∷ [],
)
low_opcode_base_is_header = refl

not_yet : header_in little (before 0x1e 0x16 ++ usual ++ 0 ∷ 0 ∷ 0 ∷ []) ≡ None
not_yet = refl

-- ---- other versions

abbrev foreign_unit : List ℕ
foreign_unit = 6 ∷ 0 ∷ 0 ∷ 0 ∷ 4 ∷ 0 ∷ 0xaa ∷ 0xbb ∷ 0xcc ∷ 0xdd ∷ []

foreign_unit_is : (foreign_in little foreign_unit ≡ Some 4) × (header_refusal_in little foreign_unit ≡ None)
    × (header_in little foreign_unit ≡ None)
foreign_unit_is = (refl, refl, refl)

shortest_foreign_unit : header_refusal_in little (2 ∷ 0 ∷ 0 ∷ 0 ∷ 4 ∷ 0 ∷ []) ≡ None
shortest_foreign_unit = refl

wrong_order : foreign_in big (before 0x21 0x16 ++ usual ++ 0 ∷ 0 ∷ 0 ∷ 0 ∷ 0 ∷ 1 ∷ 1 ∷ []) ≡ Some 1280
wrong_order = refl

-- ---- refusals

reserved_length : IsRefused (0xf0 ∷ 0xff ∷ 0xff ∷ 0xff ∷ []) [] 0 fault.ReservedLength
reserved_length = refl

too_long : IsRefused (0xff ∷ 0xff ∷ 0xff ∷ 0xff ∷ 1 ∷ 0 ∷ 0 ∷ 0 ∷ 0 ∷ 1 ∷ 0 ∷ 0 ∷ []) [] 0 fault.UnitTooLong
too_long = refl

longest : header_refusal_in little (0xff ∷ 0xff ∷ 0xff ∷ 0xff ∷ 0 ∷ 0 ∷ 0 ∷ 0 ∷ 0 ∷ 1 ∷ 0 ∷ 0 ∷ []) ≡ None
longest = refl

small_in_64_bits : header_refusal_in little (0xff ∷ 0xff ∷ 0xff ∷ 0xff ∷ 1 ∷ 0 ∷ 0 ∷ 0 ∷ 1 ∷ 0 ∷ 0 ∷ 0 ∷ []) ≡ None
small_in_64_bits = refl

no_version : IsRefused (0 ∷ 0 ∷ 0 ∷ 0 ∷ []) [] 4 fault.UnitOverrun
no_version = refl

half_a_version : IsRefused (1 ∷ 0 ∷ 0 ∷ 0 ∷ 5 ∷ []) [] 4 fault.UnitOverrun
half_a_version = refl

beyond_unit : IsRefused (before 0x1e 0x17) (usual ++ 0 ∷ 0 ∷ 0 ∷ 0 ∷ []) 8 fault.HeaderBeyondUnit
beyond_unit = refl

too_short : IsRefused (before 0x1e 0x15 ++ usual ++ 0 ∷ 0 ∷ 0 ∷ []) (0 ∷ []) 33 fault.HeaderOverrun
too_short = refl

bad_address_size : IsRefused (0x1e ∷ 0 ∷ 0 ∷ 0 ∷ 5 ∷ 0 ∷ 3 ∷ []) (0 ∷ 0x16 ∷ 0 ∷ 0 ∷ 0 ∷ usual ++ 0 ∷ 0 ∷ 0 ∷ 0
    ∷ []) 6 fault.AddressSize
bad_address_size = refl

bad_address_size_at_the_end : IsRefused (3 ∷ 0 ∷ 0 ∷ 0 ∷ 5 ∷ 0 ∷ 3 ∷ []) [] 6 fault.AddressSize
bad_address_size_at_the_end = refl

no_operations : IsRefused (before 0x1e 0x16 ++ 1 ∷ 0 ∷ []) (1 ∷ 0xfb ∷ 0x0e ∷ 0x0d ∷ 0 ∷ 1 ∷ 1 ∷ 1 ∷ 1 ∷ 0 ∷ 0 ∷ 0
    ∷ 1 ∷ 0 ∷ 0 ∷ 1 ∷ 0 ∷ 0 ∷ 0 ∷ 0 ∷ []) 13 fault.MaxOps
no_operations = refl

no_line_range : IsRefused (before 0x1e 0x16 ++ 1 ∷ 1 ∷ 1 ∷ 0xfb ∷ 0 ∷ []) (0x0d ∷ 0 ∷ 1 ∷ 1 ∷ 1 ∷ 1 ∷ 0 ∷ 0 ∷ 0 ∷ 1
    ∷ 0 ∷ 0 ∷ 1 ∷ 0 ∷ 0 ∷ 0 ∷ 0 ∷ []) 16 fault.LineRange
no_line_range = refl

no_opcode_base : IsRefused (before 0x1e 0x16 ++ 1 ∷ 1 ∷ 1 ∷ 0xfb ∷ 0x0e ∷ 0 ∷ []) (0 ∷ 1 ∷ 1 ∷ 1 ∷ 1 ∷ 0 ∷ 0 ∷ 0 ∷ 1
    ∷ 0 ∷ 0 ∷ 1 ∷ 0 ∷ 0 ∷ 0 ∷ 0 ∷ []) 17 fault.OpcodeBase
no_opcode_base = refl

wrong_length : IsRefused (before 0x1e 0x16 ++ 1 ∷ 1 ∷ 1 ∷ 0xfb ∷ 0x0e ∷ 0x0d ∷ 0 ∷ 0 ∷ []) (1 ∷ 1 ∷ 1 ∷ 0 ∷ 0 ∷ 0
    ∷ 1 ∷ 0 ∷ 0 ∷ 1 ∷ 0 ∷ 0 ∷ 0 ∷ 0 ∷ []) 19 (fault.StandardLength 2)
wrong_length = refl

directories_without_format : IsRefused (before 0x1e 0x16 ++ usual ++ 0 ∷ 1 ∷ []) (0 ∷ 0 ∷ []) 31 fault.EmptyFormat
directories_without_format = refl

files_without_format : IsRefused (before 0x1e 0x16 ++ usual ++ 0 ∷ 0 ∷ 0 ∷ 1 ∷ []) [] 33 fault.EmptyFormat
files_without_format = refl

unknown_form : IsRefused (before 0x1e 0x16 ++ usual ++ 1 ∷ 1 ∷ 0x0d ∷ []) (0 ∷ []) 32 (fault.UnknownForm 13)
unknown_form = refl

abbrev huge_count : List ℕ
huge_count = before 0x29 0x21 ++ usual ++ 1 ∷ 1 ∷ 8 ∷ 0x80 ∷ 0x80 ∷ 0x80 ∷ 0x80 ∷ 0x80 ∷ 0x80 ∷ 0x80 ∷ 0x80 ∷ 0x10
    ∷ 0x2f ∷ 0x73 ∷ []

huge_count_is : IsRefused (huge_count ++ 0 ∷ []) [] 45 fault.HeaderOverrun × (cells little (huge_count ++ 0 ∷ []) ≡ 4)
    × (cells little huge_count ≡ 3)
huge_count_is = (refl, refl, refl)

abbrev block_past_the_header : List ℕ
block_past_the_header = before 0x28 0x20 ++ usual ++ 1 ∷ 1 ∷ 9 ∷ 1 ∷ 0xff ∷ 0xff ∷ 0xff ∷ 0xff ∷ 0xff ∷ 0xff ∷ 0xff
    ∷ 0xff ∷ 0xff ∷ 1 ∷ []

block_past_the_header_is : IsRefused block_past_the_header [] 34 fault.HeaderOverrun
    × (cells little block_past_the_header ≡ 2)
block_past_the_header_is = (refl, refl)

count_out_of_range : IsRefused (before 0x28 0x20 ++ usual ++ 1 ∷ 1 ∷ 8 ∷ 0xff ∷ 0xff ∷ 0xff ∷ 0xff ∷ 0xff ∷ 0xff
    ∷ 0xff ∷ 0xff ∷ 0xff ∷ 2 ∷ []) [] 33 fault.LebRange
count_out_of_range = refl

empty_header_part : IsRefused (before 8 0) [] 12 fault.HeaderOverrun
empty_header_part = refl

-- ---- headers that are written

written : (header_bytes Little empty_header 0 ≡ empty_program) × (header_bytes Little md5_header 0 ≡ md5)
    × (header_bytes Big md5_header 0 ≡ big_md5)
written = (refl, refl, refl)

longest_program : (is_within_limit empty_header 4294967249 ≡ true) × (is_within_limit empty_header 4294967250 ≡ false)
longest_program = (refl, refl)

longest_program_64 : (is_within_limit md5_header 1099511627710 ≡ true)
    × (is_within_limit md5_header 1099511627711 ≡ false)
longest_program_64 = (refl, refl)
