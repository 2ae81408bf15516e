-- The lines of text that a section is printed as.
use Rattle.std.specs.Prelude.{ℕ, Bool, List, [], ◌∷◌, ◌++◌, codes, decimal, ◌==◌, if◌then◌else◌}
use Rattle.dl_print.specs.Digits.{hexadecimal, hexadecimal_of}
use Rattle.dl_table.specs.FaultText.{fault_text}
use Rattle.dl_table.specs.declared.fault.FaultKind.{FaultKind}
use Rattle.dl_table.specs.declared.form.Format.{Format}
use Rattle.dl_table.specs.declared.form.Format.TheVariants.{Dwarf32, Dwarf64}
use Rattle.dl_field.specs.declared.params.Params.{Params}
use Rattle.dl_rows.specs.declared.row.Row.{Row}
use Rattle.dl_print.specs.declared.summary.Summary.{Summary}

abbrev pub line : List ℕ → List ℕ
line text = text ++ 10 ∷ []

-- ---- rows

-- the address, and the numbers that each row has
unfoldable pub place_text : Row → List ℕ
place_text r =
    codes "row 0x" ++ hexadecimal_of 16 r.address ++ codes " " ++ decimal r.op_index ++ codes " " ++ decimal r.file
    ++ codes " " ++ decimal r.line ++ codes " " ++ decimal r.column

abbrev pub flag : Bool → List ℕ → List ℕ
flag is_set word = if is_set then word else []

-- the flags that are set
unfoldable pub flags_text : Row → List ℕ
flags_text r =
    flag r.is_stmt (codes " stmt") ++ flag r.basic_block (codes " block") ++ flag r.prologue_end (codes " prologue")
    ++ flag r.epilogue_begin (codes " epilogue") ++ flag r.end_sequence (codes " end")

-- the name and the number, where it isn't 0
abbrev pub number_if_any : List ℕ → ℕ → List ℕ
number_if_any name n = if n == 0 then [] else name ++ decimal n

abbrev pub row_text : Row → List ℕ
row_text r =
    place_text r ++ flags_text r ++ number_if_any (codes " isa ") r.isa
    ++ number_if_any (codes " disc ") r.discriminator

abbrev pub row_line : Row → List ℕ
row_line r = line (row_text r)

-- ---- units

abbrev pub format_name : Format → List ℕ
format_name Dwarf32 = codes "dwarf32"
format_name Dwarf64 = codes "dwarf64"

-- a unit that is read, at that offset of the section
abbrev pub unit_line : ℕ → Params → List ℕ
unit_line offset p =
    line (codes "unit 0x" ++ hexadecimal offset ++ codes " " ++ format_name p.format ++ codes " version "
    ++ decimal p.version ++ codes " address_size " ++ decimal p.address_size)

-- a unit that is passed over, for its version
abbrev pub foreign_line : ℕ → ℕ → List ℕ
foreign_line offset version =
    line (codes "unit 0x" ++ hexadecimal offset ++ codes " version " ++ decimal version ++ codes " skipped")

-- a sequence that has no end row
abbrev pub open_line : List ℕ
open_line = line (codes "open")

-- ---- what `find` and `check` say

-- the table has no file of that number
abbrev pub missing_line : ℕ → List ℕ
missing_line file = line (codes "file " ++ decimal file ++ codes " missing")

-- how many units, sequences and rows there are
abbrev pub counts_text : Summary → List ℕ
counts_text s =
    codes "units " ++ decimal s.units ++ codes " skipped " ++ decimal s.skipped ++ codes " sequences "
    ++ decimal s.sequences
    ++ codes " rows " ++ decimal s.rows

abbrev pub summary_line : Summary → List ℕ
summary_line s = line (counts_text s)

-- with how many units are damaged
abbrev pub survey_line : Summary → (damaged : ℕ) → List ℕ
survey_line s damaged = line (counts_text s ++ codes " damaged " ++ decimal damaged)

-- ---- what is said of a section at fault

-- where a unit is damaged, from the section's first byte, and how
abbrev pub damage_text : (offset : ℕ) → FaultKind → List ℕ
damage_text offset kind = codes "damage at 0x" ++ hexadecimal offset ++ codes ": " ++ fault_text kind
