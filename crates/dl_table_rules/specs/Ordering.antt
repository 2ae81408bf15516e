-- An order of entries, in which none are equal but the same. No promise rests on this file.
use Rattle.std.specs.Prelude.{⊤, ◌≡◌, ℕ, ◌+◌, ◌<◌, Bool, true, false, List, [], ◌∷◌, length, Some, slice_get, slice_index_or}
use Rattle.std.specs.Cmp.Lexicographic.{slice_cmp}
use Rattle.std.specs.List.Sorted.{IsSorted, IsStable}
use Rattle.std.specs.Ordering.{is_lt, nat_cmp, ordering_then}
use Rattle.std.specs.declared.cmp.Ordering.{Ordering}
use Rattle.dl_table.specs.EntryHeld.{entry_items}
use Rattle.dl_table.specs.Value.{Value, text, line_str, str, str_sup, number, block, data16}
use Rattle.dl_table_rules.specs.declared.entry_order.EntryAt.{EntryAt}

abbrev pub kind_of : Value → ℕ
kind_of (text w) = 0
kind_of (line_str n) = 1
kind_of (str n) = 2
kind_of (str_sup n) = 3
kind_of (number n) = 4
kind_of (block w) = 5
kind_of (data16 w) = 6

abbrev pub number_of : Value → ℕ
number_of (text w) = 0
number_of (line_str n) = n
number_of (str n) = n
number_of (str_sup n) = n
number_of (number n) = n
number_of (block w) = 0
number_of (data16 w) = 0

abbrev pub bytes_of : Value → List ℕ
bytes_of (text w) = w
bytes_of (line_str n) = []
bytes_of (str n) = []
bytes_of (str_sup n) = []
bytes_of (number n) = []
bytes_of (block w) = w
bytes_of (data16 w) = w

abbrev pub value_cmp : Value → Value → Ordering
value_cmp v w =
    ordering_then (ordering_then (nat_cmp (kind_of v) (kind_of w)) (nat_cmp (number_of v) (number_of w)))
    (slice_cmp nat_cmp (bytes_of v) (bytes_of w))

abbrev pub item_cmp : ℕ × Value → ℕ × Value → Ordering
item_cmp i j = ordering_then (nat_cmp i.0 j.0) (value_cmp i.1 j.1)

abbrev pub entry_cmp : List (ℕ × Value) → List (ℕ × Value) → Ordering
entry_cmp a b = slice_cmp item_cmp a b

abbrev pub items_at : EntryAt → List (ℕ × Value)
items_at e = entry_items e.entry

abbrev pub at_cmp : EntryAt → EntryAt → Ordering
at_cmp a b = entry_cmp (items_at a) (items_at b)

-- of neighbours in order the first of which isn't below the second, both are marked, at their places in the table
abbrev pub AreTwins : List EntryAt → (marks : List Bool) → Type 0
AreTwins ordered marks = (j : ℕ) (d : EntryAt) → j + 1 < length ordered
    → is_lt (at_cmp (slice_index_or ordered j d) (slice_index_or ordered (j + 1) d)) ≡ false
    → (slice_index_or marks (slice_index_or ordered j d).place false ≡ true)
    × (slice_index_or marks (slice_index_or ordered (j + 1) d).place false ≡ true)

-- their places are below this one
abbrev pub AreBelow : (count : ℕ) → List EntryAt → Type 0
AreBelow count ordered = (k : ℕ) (d : EntryAt) → k < length ordered → (slice_index_or ordered k d).place < count

-- they are the entries from a place on, one after the other
abbrev pub AreAt : List (List (ℕ × Value)) → ℕ → List EntryAt → Type 0
AreAt entries place [] = ⊤
AreAt entries place (e ∷ es) =
    (e.place ≡ place) × (slice_get entries place ≡ Some (items_at e)) × AreAt entries (place + 1) es

-- the entries are in order, those that are equal in their own
pub record AreOrdered (ordered : List EntryAt) (entries : List (List (ℕ × Value))) : Type 0 where
  pub listed : List EntryAt
  pub are : AreAt entries 0 listed
  pub all : length listed ≡ length entries
  pub sorted : IsSorted at_cmp ordered
  pub stable : IsStable at_cmp listed ordered
