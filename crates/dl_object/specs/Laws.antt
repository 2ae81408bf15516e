-- Laws of what is left of a section, and of its rows. DWARF 5, sections 6.2.2 and 6.2.5.3.
use Rattle.std.specs.Prelude.{◌≡◌, ℕ, ◌+◌, List, [], ◌∷◌, ◌++◌, length, map, if◌then◌else◌}
use Rattle.dl_head.specs.declared.dialect.Dialect.{Dialect}
use Rattle.dl_num.specs.Laws.{AllBytes}
use Rattle.dl_field.specs.declared.params.Params.{Params}
use Rattle.dl_field.specs.HeaderData.{HeaderData}
use Rattle.dl_head.specs.Header.{IsHeader}
use Rattle.dl_reloc.specs.declared.placed.Placed.{Placed}
use Rattle.dl_rows.specs.declared.row.Row.{Row}
use Rattle.dl_rows.specs.LineUnit.{rows_in}
use Rattle.dl_rows.specs.Matrix.{matrix}
use Rattle.dl_object.specs.Sequences.{Spelled, spelled_in, bytes_of, sequences}
use Rattle.dl_object.specs.Kept.{section_of, is_same, program_kept}
use Rattle.dl_object.specs.Section.{Keeps}

-- the rows of operations by themselves
abbrev pub rows_alone : Params → List Spelled → List Row
rows_alone h s = matrix h (map (λ o. o.operation) s)

-- the rows of the sequences of the section, where the first sequence begins at that place
abbrev pub rows_kept : Params → List Placed → ℕ → ℕ → List (List Spelled) → List Row
rows_kept h places section at [] = []
rows_kept h places section at (s ∷ more) =
    (if is_same section (section_of h places at s) then rows_alone h s else [])
    ++ rows_kept h places section (at + length (bytes_of s)) more

-- the rows of what is left of a program are those of its sequences of the section, each by itself, and those of the
-- operations after its last sequence
abbrev pub RowsOfSection : Type 0
RowsOfSection =
    (dialect : Dialect) (h : HeaderData) (head program : List ℕ) (places : List Placed) (section at : ℕ) → AllBytes head
    → AllBytes program → IsHeader dialect h head
    → rows_in dialect.order h.params (program_kept dialect.order h.params places section at program)
    ≡ rows_kept h.params places section at (sequences (spelled_in dialect.order h.params program).found).whole
    ++ rows_alone h.params (sequences (spelled_in dialect.order h.params program).found).begun

-- what is left of bytes is settled by them, the places and the section
abbrev pub OneKeeping : Type 0
OneKeeping =
    (dialect : Dialect) (places : List Placed) (section at : ℕ) (b new new2 : List ℕ)
    → Keeps dialect places section at b new → Keeps dialect places section at b new2 → new ≡ new2
