-- The lines of the fields of a header, and of a header with its fields. DWARF 5, section 6.2.4.
use Rattle.std.specs.Prelude.{ℕ, ◌+◌, ℤ, pos, negsuc, List, [], ◌++◌, flat_map, codes, decimal, nat_lt, ◌==◌, if◌then◌else◌}
use Rattle.dl_table.specs.declared.form.Form.{Form}
use Rattle.dl_table.specs.declared.form.Form.TheVariants as form
use Rattle.dl_table.specs.declared.table.Pair.{Pair}
use Rattle.dl_field.specs.HeaderData.{HeaderData}
use Rattle.dl_field.specs.declared.params.Params.{Params}
use Rattle.dl_head.specs.declared.header.HeaderLengths.{HeaderLengths}
use Rattle.dl_print.specs.HeaderText.{tables_text}
use Rattle.dl_print.specs.Text.{line, unit_line}
use Rattle.dl_print.specs.ValueText.{Strings, content_name}

-- ---- one field

-- a number of a line
abbrev pub number_text : ℕ → List ℕ
number_text n = codes " " ++ decimal n

-- a field that is a number
unfoldable pub field_line : (name : List ℕ) → ℕ → List ℕ
field_line name n = line (name ++ number_text n)

-- a number that may be below zero: `negsuc n` is -(n + 1)
unfoldable pub signed_text : ℤ → List ℕ
signed_text (pos n) = codes " " ++ decimal n
signed_text (negsuc n) = codes " -" ++ decimal (n + 1)

-- a field that is such a number
unfoldable pub signed_line : (name : List ℕ) → ℤ → List ℕ
signed_line name z = line (name ++ signed_text z)

-- a field that is a list of numbers
unfoldable pub numbers_line : (name : List ℕ) → List ℕ → List ℕ
numbers_line name numbers = line (name ++ flat_map number_text numbers)

-- the names of the forms, without `DW_FORM_`. Section 7.5.6, table 7.6
unfoldable pub form_name : Form → List ℕ
form_name form.Block2 = codes "block2"
form_name form.Block4 = codes "block4"
form_name form.Data2 = codes "data2"
form_name form.Data4 = codes "data4"
form_name form.Data8 = codes "data8"
form_name form.String = codes "string"
form_name form.Block = codes "block"
form_name form.Block1 = codes "block1"
form_name form.Data1 = codes "data1"
form_name form.Strp = codes "strp"
form_name form.Udata = codes "udata"
form_name form.StrpSup = codes "strp_sup"
form_name form.Data16 = codes "data16"
form_name form.LineStrp = codes "line_strp"

-- a content code and its form. Section 6.2.4.1
abbrev pub pair_text : Pair → List ℕ
pair_text p = codes " " ++ content_name p.content ++ codes "=" ++ form_name p.form

-- the format of the entries of a table
unfoldable pub format_line : (name : List ℕ) → List Pair → List ℕ
format_line name pairs = line (name ++ flat_map pair_text pairs)

-- ---- all fields

-- how long the unit and the header are
unfoldable pub lengths_text : HeaderLengths → List ℕ
lengths_text l =
    field_line (codes "unit_length") l.unit_length ++ field_line (codes "header_length") l.header_length

-- how many operations an instruction has at most, which the headers of versions 2 and 3 don't say
unfoldable pub operations_text : Params → List ℕ
operations_text p =
    if nat_lt p.version 4 then []
    else field_line (codes "maximum_operations_per_instruction") p.maximum_operations_per_instruction

-- the fields of instructions
unfoldable pub instructions_text : Params → List ℕ
instructions_text p =
    field_line (codes "minimum_instruction_length") p.minimum_instruction_length ++ operations_text p

-- the fields of lines
unfoldable pub lines_text : Params → List ℕ
lines_text p =
    field_line (codes "default_is_stmt") p.default_is_stmt ++ signed_line (codes "line_base") p.line_base
    ++ field_line (codes "line_range") p.line_range

-- the fields of opcodes; `lengths` are the standard_opcode_lengths, from opcode 1 on
unfoldable pub opcodes_text : Params → List ℕ
opcodes_text p = field_line (codes "opcode_base") p.opcode_base ++ numbers_line (codes "lengths") p.lengths.items

-- the fields that are numbers, but for the lengths of unit and header
unfoldable pub params_text : Params → List ℕ
params_text p = instructions_text p ++ lines_text p ++ opcodes_text p

-- the formats of both tables, which the headers of versions 2 to 4 don't say. Section 6.2.4.1
unfoldable pub formats_text : HeaderData → List ℕ
formats_text h =
    if h.params.version == 5 then format_line (codes "directory_format") h.directories.pairs
    ++ format_line (codes "file_format") h.files.pairs
    else []

-- how many bytes stand between the tables and the program, where there are any
unfoldable pub padding_text : ℕ → List ℕ
padding_text n = if n == 0 then [] else field_line (codes "padding") n

-- the lines of all fields, in their order in the header
abbrev pub fields_text : HeaderLengths → HeaderData → List ℕ
fields_text l h = lengths_text l ++ params_text h.params ++ formats_text h ++ padding_text l.padding

-- a header with its fields: the unit at that offset of the section, the fields, its directories, its files
abbrev pub full_header_text : Strings → (offset : ℕ) → HeaderLengths → HeaderData → List ℕ
full_header_text s offset l h = unit_line offset h.params ++ fields_text l h ++ tables_text s h
