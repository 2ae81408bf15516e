-- The JSON object of a row, in a line: its registers, under their names. DWARF 5, section 6.2.2.
use Rattle.std.specs.Prelude.{ℕ, Bool, ◌||◌, List, ◌++◌, codes, decimal}
use Rattle.dl_rows.specs.declared.row.Row.{Row}
use Rattle.dl_print.specs.Digits.{hexadecimal_of}
use Rattle.dl_dump_json.specs.Members.{boolean}

-- the address as a string
unfoldable pub address_member : (address : ℕ) → List ℕ
address_member address =
    codes "{\"kind\":\"row\",\"address\":\"" ++ ((codes "0x" ++ hexadecimal_of 16 address) ++ codes "\"")

-- the registers that are numbers
unfoldable pub numbers_members : Row → List ℕ
numbers_members r =
    (codes ",\"op_index\":" ++ decimal r.op_index)
    ++ ((codes ",\"file\":" ++ decimal r.file)
    ++ ((codes ",\"line\":" ++ decimal r.line) ++ (codes ",\"column\":" ++ decimal r.column)))

-- a flag; the name has its quotes, the comma before it and the colon
unfoldable pub flag_member : (name : List ℕ) → Bool → List ℕ
flag_member name is_set = name ++ boolean is_set

unfoldable pub flags_members : Row → List ℕ
flags_members r =
    flag_member (codes ",\"is_stmt\":") r.is_stmt
    ++ (flag_member (codes ",\"basic_block\":") r.basic_block
    ++ (flag_member (codes ",\"end_sequence\":") r.end_sequence
    ++ (flag_member (codes ",\"prologue_end\":") r.prologue_end
    ++ flag_member (codes ",\"epilogue_begin\":") r.epilogue_begin)))

-- a flag beside is_stmt is set
abbrev pub has_flags : Row → Bool
has_flags r = r.basic_block || (r.end_sequence || (r.prologue_end || r.epilogue_begin))

-- the instruction set architecture, and the block
unfoldable pub last_members : (isa discriminator : ℕ) → List ℕ
last_members isa discriminator =
    (codes ",\"isa\":" ++ decimal isa) ++ (codes ",\"discriminator\":" ++ (decimal discriminator ++ codes "}\n"))

abbrev pub row_object : Row → List ℕ
row_object r =
    address_member r.address ++ (numbers_members r ++ (flags_members r ++ last_members r.isa r.discriminator))
