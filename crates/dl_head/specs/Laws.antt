-- Laws of the definitions of headers. Each holds in every dialect, which is the same throughout a law.
use Rattle.std.specs.Prelude.{◌≡◌, ◌≤◌, ℕ, ◌↔◌, List, [], ◌++◌, length, Some, None}
use Rattle.dl_head.specs.declared.dialect.Dialect.{Dialect}
use Rattle.dl_table.specs.declared.fault.FaultKind.{FaultKind}
use Rattle.dl_field.specs.HeaderData.{HeaderData, header_cells}
use Rattle.dl_field.specs.Layout.{Item}
use Rattle.dl_head.specs.Header.{IsHeader, IsFieldCut, cut, foreign_in, unit_len, header_in}
use Rattle.dl_head.specs.Refusal.{HeaderRefused, header_refusal_in}
use Rattle.dl_head.specs.Cells.{cells}

-- no header begins another, and bytes are the header of one thing alone
abbrev pub OneHeader : Type 0
OneHeader = (dialect : Dialect) (h h2 : HeaderData) (w v : List ℕ) → IsHeader dialect h w → IsHeader dialect h2 (w ++ v)
    → (v ≡ []) × (h ≡ h2)

-- the header that is computed is the one that bytes begin with, whatever follows it
abbrev pub HeaderIsFound : Type 0
HeaderIsFound = (dialect : Dialect) (h : HeaderData) (w rest : List ℕ) → IsHeader dialect h w
    → header_in dialect (w ++ rest) ≡ Some (h, rest)

abbrev pub FoundIsHeader : Type 0
FoundIsHeader = (dialect : Dialect) (h : HeaderData) (b rest : List ℕ) → header_in dialect b ≡ Some (h, rest)
    → (w : List ℕ) × (b ≡ w ++ rest) × IsHeader dialect h w

-- the fields that are computed are those that are cut off, and there is one cut
abbrev pub CutIsComputed : Type 0
CutIsComputed = (dialect : Dialect) (b : List ℕ) (items : List Item) (rest : List ℕ)
    → IsFieldCut dialect b items rest ↔ (cut dialect b ≡ record { items = items; rest = rest })

-- of the fronts of a list one alone is refused, at one place, for one kind
abbrev pub OneHeaderRefusal : Type 0
OneHeaderRefusal = (dialect : Dialect) (b c v u : List ℕ) (at at2 : ℕ) (kind kind2 : FaultKind) → b ++ v ≡ c ++ u
    → HeaderRefused dialect b at kind → HeaderRefused dialect c at2 kind2 → (b ≡ c) × (at ≡ at2) × (kind ≡ kind2)

-- the refusal that is computed is the one of the front that is refused
abbrev pub RefusalIsComputed : Type 0
RefusalIsComputed = (dialect : Dialect) (b : List ℕ) (front : List ℕ) (at : ℕ) (kind : FaultKind)
    → (header_refusal_in dialect b ≡ Some (record { front = front; at = at; kind = kind }))
    ↔ (HeaderRefused dialect front at kind × ((v : List ℕ) × (b ≡ front ++ v)))

-- bytes that begin with a header are no foreign unit
abbrev pub HeaderIsNotForeign : Type 0
HeaderIsNotForeign = (dialect : Dialect) (h : HeaderData) (w v : List ℕ) → IsHeader dialect h w
    → foreign_in dialect (w ++ v) ≡ None

-- nor is any front of theirs refused in its header
abbrev pub HeaderIsNotRefused : Type 0
HeaderIsNotRefused = (dialect : Dialect) (h : HeaderData) (w v front back : List ℕ) (at : ℕ) (kind : FaultKind)
    → IsHeader dialect h w → w ++ v ≡ front ++ back → HeaderRefused dialect front at kind → ⊥

-- nor any front of a foreign unit, or of the beginning of one
abbrev pub ForeignIsNotRefused : Type 0
ForeignIsNotRefused = (dialect : Dialect) (b front back : List ℕ) (version unit at : ℕ) (kind : FaultKind)
    → foreign_in dialect b ≡ Some version → unit_len dialect b ≡ Some unit → length b ≤ unit → b ≡ front ++ back
    → HeaderRefused dialect front at kind → ⊥

-- a header in b holds no more cells than b has bytes
abbrev pub FewCells : Type 0
FewCells = (dialect : Dialect) (b : List ℕ) → cells dialect b ≤ length b

-- bytes that begin with a header hold its cells, and no more
abbrev pub HeaderHoldsItsCells : Type 0
HeaderHoldsItsCells = (dialect : Dialect) (h : HeaderData) (w v : List ℕ) → IsHeader dialect h w
    → (cells dialect (w ++ v) ≡ header_cells h) × (header_cells h ≤ length w)
