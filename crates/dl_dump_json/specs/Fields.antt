-- The fields of a header as members of an object, under their names of `dump --header`. DWARF 5, section 6.2.4.
use Rattle.std.specs.Prelude.{ℕ, List, [], ◌++◌, codes, decimal, nat_lt, ◌==◌, if◌then◌else◌}
use Rattle.dl_table.specs.declared.table.Pair.{Pair}
use Rattle.dl_field.specs.HeaderData.{HeaderData}
use Rattle.dl_field.specs.declared.params.Params.{Params}
use Rattle.dl_head.specs.declared.header.HeaderLengths.{HeaderLengths}
use Rattle.dl_print.specs.HeaderFields.{form_name}
use Rattle.dl_print.specs.ValueText.{content_name}
use Rattle.dl_dump_json.specs.Members.{array_member, number_member, signed_member}

-- the size of a segment selector, which headers say from version 5 on
unfoldable pub segments_member : Params → List ℕ
segments_member p =
    if p.version == 5 then number_member (codes "segment_selector_size") p.segment_selector_size else []

-- the version, and the sizes of addresses and of segment selectors
unfoldable pub sizes_members : Params → List ℕ
sizes_members p =
    number_member (codes "version") p.version
    ++ (number_member (codes "address_size") p.address_size ++ segments_member p)

-- how many operations an instruction has at most, which headers say from version 4 on
unfoldable pub operations_member : Params → List ℕ
operations_member p =
    if nat_lt p.version 4 then []
    else number_member (codes "maximum_operations_per_instruction") p.maximum_operations_per_instruction

-- the fields of instructions
unfoldable pub instructions_members : Params → List ℕ
instructions_members p =
    number_member (codes "minimum_instruction_length") p.minimum_instruction_length ++ operations_member p

-- the fields of lines
unfoldable pub lines_members : Params → List ℕ
lines_members p =
    number_member (codes "default_is_stmt") p.default_is_stmt
    ++ (signed_member (codes "line_base") p.line_base ++ number_member (codes "line_range") p.line_range)

-- the fields of opcodes; `lengths` are the standard_opcode_lengths, from opcode 1 on
unfoldable pub opcodes_members : Params → List ℕ
opcodes_members p =
    number_member (codes "opcode_base") p.opcode_base
    ++ array_member (codes "lengths") (λ place n. decimal n) p.lengths.items

-- a content code and its form. Section 6.2.4.1
unfoldable pub pair_object : Pair → List ℕ
pair_object p =
    codes "{\"content\":\"" ++ (content_name p.content ++ (codes "\",\"form\":\"" ++ (form_name p.form ++ codes "\"}")))

-- the formats of both tables, which headers say from version 5 on
unfoldable pub formats_members : HeaderData → List ℕ
formats_members h =
    if h.params.version == 5 then array_member (codes "directory_format") (λ place p. pair_object p) h.directories.pairs
    ++ array_member (codes "file_format") (λ place p. pair_object p) h.files.pairs
    else []

-- how long the unit and the header are, and what stands between
unfoldable pub lengths_members : HeaderLengths → Params → List ℕ
lengths_members l p =
    number_member (codes "unit_length") l.unit_length
    ++ (sizes_members p ++ number_member (codes "header_length") l.header_length)

-- the fields after header_length that are numbers
unfoldable pub params_members : Params → List ℕ
params_members p = instructions_members p ++ (lines_members p ++ opcodes_members p)

-- all fields, in their order in the header, and how many bytes stand between the tables and the program
unfoldable pub fields_members : HeaderLengths → HeaderData → List ℕ
fields_members l h =
    lengths_members l h.params
    ++ (params_members h.params ++ (formats_members h ++ number_member (codes "padding") l.padding))
