-- Worked headers of versions 2 to 4, computed: what clang 14 writes, and refusals.
use Rattle.std.proofs.Common.{◌≡◌, ℕ, List, [], ◌∷◌, ◌++◌, Some, None, refl, negsuc}
use Rattle.dl_num.specs.declared.fixed.Order.TheVariants.{Little}
use Rattle.dl_table.specs.declared.fault.FaultKind.TheVariants as fault
use Rattle.dl_table.specs.declared.form.Format.{Format}
use Rattle.dl_table.specs.declared.form.Format.TheVariants.{Dwarf32, Dwarf64}
use Rattle.dl_table.specs.Value.{text, number}
use Rattle.dl_field.specs.HeaderData.{HeaderData, header_cells}
use Rattle.dl_field.specs.Layout.{listed_directory, listed_file}
use Rattle.dl_head.specs.declared.dialect.AddressSize.TheVariants as size
use Rattle.dl_head.specs.declared.dialect.Dialect.{Dialect}
use Rattle.dl_head.specs.declared.dialect.Older.TheVariants as older
use Rattle.dl_head.specs.Dialect.{version_5}
use Rattle.dl_head.specs.Header.{foreign_in, header_in}
use Rattle.dl_head.specs.Refusal.{header_refusal_in}
use Rattle.dl_head.specs.Cells.{cells}

-- versions 2 to 4 are read, with addresses of eight bytes; and they aren't
abbrev all_versions : Dialect
all_versions = record { order = Little; older = older.Read size.Eight }

abbrev five_alone : Dialect
five_alone = version_5 Little

-- two directories and three files
abbrev older_header : Format → ℕ → HeaderData
older_header format version = record {
  params = record {
    format = format;
    version = version;
    address_size = 8;
    segment_selector_size = 0;
    minimum_instruction_length = 1;
    maximum_operations_per_instruction = 1;
    default_is_stmt = 1;
    line_base = negsuc 4;
    line_range = 14;
    opcode_base = 13;
    lengths = record { items = 0 ∷ 1 ∷ 1 ∷ 1 ∷ 1 ∷ 0 ∷ 0 ∷ 0 ∷ 1 ∷ 0 ∷ 0 ∷ 1 ∷ [] };
  };
  directories = record {
    format = format;
    pairs = listed_directory;
    entries = (text (0x2e ∷ []) ∷ []) ∷ (text (0x2e ∷ 0x2f ∷ 0x73 ∷ 0x75 ∷ 0x62 ∷ []) ∷ []) ∷ [];
  };
  files = record {
    format = format;
    pairs = listed_file;
    entries = (text (0x74 ∷ 0x2e ∷ 0x63 ∷ []) ∷ number 0 ∷ number 0 ∷ number 0 ∷ [])
        ∷ (text (0x61 ∷ 0x2e ∷ 0x68 ∷ []) ∷ number 1 ∷ number 0 ∷ number 0 ∷ [])
        ∷ (text (0x62 ∷ 0x2e ∷ 0x68 ∷ []) ∷ number 2 ∷ number 0 ∷ number 0 ∷ []) ∷ [];
  };
}

-- the fields from default_is_stmt up to the lengths of the opcodes, and those tables but for their last byte
abbrev fields : List ℕ
fields = 1 ∷ 0xfb ∷ 0x0e ∷ 0x0d ∷ 0 ∷ 1 ∷ 1 ∷ 1 ∷ 1 ∷ 0 ∷ 0 ∷ 0 ∷ 1 ∷ 0 ∷ 0 ∷ 1 ∷ 0x2e ∷ 0 ∷ 0x2e ∷ 0x2f ∷ 0x73 ∷ 0x75
    ∷ 0x62 ∷ 0 ∷ 0 ∷ 0x74 ∷ 0x2e ∷ 0x63 ∷ 0 ∷ 0 ∷ 0 ∷ 0 ∷ 0x61 ∷ 0x2e ∷ 0x68 ∷ 0 ∷ 1 ∷ 0 ∷ 0 ∷ 0x62 ∷ 0x2e ∷ 0x68 ∷ 0
    ∷ 2
    ∷ 0 ∷ 0 ∷ []

-- the bytes are that header, whatever follows, where older versions are read, and a foreign unit where they aren't
abbrev IsWorked : Format → ℕ → List ℕ → Type 0
IsWorked format version w =
    (header_in all_versions (w ++ 0 ∷ 9 ∷ 2 ∷ []) ≡ Some (older_header format version, 0 ∷ 9 ∷ 2 ∷ []))
    × (cells all_versions w ≡ header_cells (older_header format version)) × (header_refusal_in all_versions w ≡ None)
    × (foreign_in five_alone w ≡ Some version)

version_two : IsWorked Dwarf32 2 (0x78 ∷ 0 ∷ 0 ∷ 0 ∷ 2 ∷ 0 ∷ 0x30 ∷ 0 ∷ 0 ∷ 0 ∷ 1 ∷ fields ++ 0 ∷ [])
version_two = (refl, refl, refl, refl)

version_three : IsWorked Dwarf32 3 (0x78 ∷ 0 ∷ 0 ∷ 0 ∷ 3 ∷ 0 ∷ 0x30 ∷ 0 ∷ 0 ∷ 0 ∷ 1 ∷ fields ++ 0 ∷ [])
version_three = (refl, refl, refl, refl)

version_four : IsWorked Dwarf32 4 (0x79 ∷ 0 ∷ 0 ∷ 0 ∷ 4 ∷ 0 ∷ 0x31 ∷ 0 ∷ 0 ∷ 0 ∷ 1 ∷ 1 ∷ fields ++ 0 ∷ [])
version_four = (refl, refl, refl, refl)

version_long_four : IsWorked Dwarf64 4 (0xff ∷ 0xff ∷ 0xff ∷ 0xff ∷ 0x7d ∷ 0 ∷ 0 ∷ 0 ∷ 0 ∷ 0 ∷ 0 ∷ 0 ∷ 4 ∷ 0 ∷ 0x31 ∷ 0
    ∷ 0 ∷ 0 ∷ 0 ∷ 0 ∷ 0 ∷ 0 ∷ 1 ∷ 1 ∷ fields ++ 0 ∷ [])
version_long_four = (refl, refl, refl, refl)

-- ---- refusals

-- header_length says that the header ends before the zero byte after the files
abbrev without_its_end : List ℕ
without_its_end = 0x79 ∷ 0 ∷ 0 ∷ 0 ∷ 4 ∷ 0 ∷ 0x30 ∷ 0 ∷ 0 ∷ 0 ∷ 1 ∷ 1 ∷ fields

ends_too_soon : header_refusal_in all_versions (without_its_end ++ 0 ∷ []) ≡ Some
    (record { front = without_its_end; at = 58; kind = fault.HeaderOverrun })
ends_too_soon = refl

-- version 4 with maximum operations 0
abbrev no_operations : List ℕ
no_operations = 0x79 ∷ 0 ∷ 0 ∷ 0 ∷ 4 ∷ 0 ∷ 0x31 ∷ 0 ∷ 0 ∷ 0 ∷ 1 ∷ 0 ∷ []

operations_are_refused : header_refusal_in all_versions (no_operations ++ 1 ∷ []) ≡ Some
    (record { front = no_operations; at = 11; kind = fault.MaxOps })
operations_are_refused = refl

-- versions that no dialect reads
versions_1_and_6 : (foreign_in all_versions (6 ∷ 0 ∷ 0 ∷ 0 ∷ 1 ∷ 0 ∷ []) ≡ Some 1)
    × (foreign_in all_versions (6 ∷ 0 ∷ 0 ∷ 0 ∷ 6 ∷ 0 ∷ []) ≡ Some 6)
versions_1_and_6 = (refl, refl)

-- an older unit that ends in its header_length
ends_in_its_header : header_refusal_in all_versions (4 ∷ 0 ∷ 0 ∷ 0 ∷ 3 ∷ 0 ∷ 1 ∷ 0 ∷ []) ≡ Some
    (record { front = 4 ∷ 0 ∷ 0 ∷ 0 ∷ 3 ∷ 0 ∷ 1 ∷ 0 ∷ []; at = 6; kind = fault.UnitOverrun })
ends_in_its_header = refl
