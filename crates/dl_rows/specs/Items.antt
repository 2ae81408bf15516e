-- What bytes of a program come to, one after the other: each byte, after the last one of an operation that operation,
-- and after that its row. DWARF 5, sections 6.2.5.1 to 6.2.5.3.
use Rattle.std.specs.Prelude.{◌≡◌, ℕ, List, [], ◌∷◌, ◌++◌, flat_map, map, Option, Some, None}
use Rattle.dl_num.specs.declared.fixed.Order.{Order}
use Rattle.dl_field.specs.declared.params.Params.{Params}
use Rattle.dl_field.specs.HeaderData.{HeaderData}
use Rattle.dl_head.specs.declared.dialect.Dialect.{Dialect}
use Rattle.dl_head.specs.Header.{header_in}
use Rattle.dl_rows.specs.declared.operation.Operation.{Operation}
use Rattle.dl_rows.specs.declared.row.Row.{Row}
use Rattle.dl_rows.specs.LineUnit.{rows_in}
use Rattle.dl_rows.specs.Matrix.{rows_after}
use Rattle.dl_rows.specs.OperationSpelt.{good_one, operation_spelt, operations_in}

pub data Item : Type 0 where
  a_byte : ℕ → Item
  an_operation : (header : HeaderData) → Operation → Item
  a_row : (header : HeaderData) → Row → Item

-- an operation that is complete after these, with the row that it appends, if any
abbrev pub ended : Params → HeaderData → (found : List Operation) → Option Operation → List Item
ended h header found None = []
ended h header found (Some o) = an_operation header o ∷ map (a_row header) (rows_after h found (o ∷ []))

-- what the byte x completes after those in front
abbrev pub completed : Order → Params → HeaderData → (front : List ℕ) → ℕ → List Item
completed order h header front x = ended h header (operations_in order h front).found
    (good_one (operation_spelt order h ((operations_in order h front).rest ++ x ∷ [])))

-- what more bytes come to after those in front; each operation and row is told with the header that it stands under
abbrev pub items_after : Order → Params → HeaderData → (front more : List ℕ) → List Item
items_after order h header front [] = []
items_after order h header front (x ∷ more) =
    a_byte x ∷ (completed order h header front x ++ items_after order h header (front ++ x ∷ []) more)

abbrev pub items_in : Order → HeaderData → List ℕ → List Item
items_in order header program = items_after order header.params header [] program

abbrev pub items_later : Order → Option (HeaderData × List ℕ) → List Item
items_later order None = []
items_later order (Some (header, program)) = items_in order header program

-- what the bytes of b come to that follow its header
abbrev pub unit_items : Dialect → List ℕ → List Item
unit_items dialect b = items_later dialect.order (header_in dialect b)

-- the bytes, operations and rows among them
abbrev pub byte_of : Item → List ℕ
byte_of (a_byte x) = x ∷ []
byte_of other = []

abbrev pub operation_of : Item → List Operation
operation_of (an_operation header o) = o ∷ []
operation_of other = []

abbrev pub row_of : Item → List Row
row_of (a_row header r) = r ∷ []
row_of other = []

abbrev pub rows_of_items : List Item → List Row
rows_of_items items = flat_map row_of items

-- ---- laws

-- the bytes among the items of a program are the program, the operations those that are complete in it, the rows theirs
abbrev pub ItemsAreThese : Type 0
ItemsAreThese =
    (order : Order) (h : HeaderData) (p : List ℕ)
    → (flat_map byte_of (items_in order h p) ≡ p)
    × (flat_map operation_of (items_in order h p) ≡ (operations_in order h.params p).found)
    × (rows_of_items (items_in order h p) ≡ rows_in order h.params p)

-- what is told of bytes is told of them and more, and then of the others
abbrev pub ItemsGrow : Type 0
ItemsGrow =
    (order : Order) (h : HeaderData) (p q : List ℕ)
    → items_in order h (p ++ q) ≡ items_in order h p ++ items_after order h.params h p q
