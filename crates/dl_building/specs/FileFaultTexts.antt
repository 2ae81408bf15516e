-- The words for what is wrong with a file.
use Rattle.std.specs.Prelude.{ℕ, ◌==◌, if◌then◌else◌, List, [], codes}

-- by the number of its kind; none where no call tells it of a file
abbrev pub file_fault_words : ℕ → List ℕ
file_fault_words kind =
    if kind == 32 then codes "not an ELF file" else if kind == 33 then codes "damaged ELF file" else
    if kind == 34 then codes "no section .debug_line" else
    if kind == 35 then codes "a section is compressed otherwise than with zlib" else
    if kind == 36 then codes "damaged zlib stream of a section" else if kind == 37 then codes "unknown relocation" else
    if kind == 38 then codes "relocation outside its section" else if kind == 39 then codes "section too long" else []
