-- The values of an entry, each with the content code of its pair. DWARF 5, section 6.2.4.1.
use Rattle.std.specs.Prelude.{ℕ, List, [], ◌∷◌, Option, Some, None, ◌==◌, if◌then◌else◌}
use Rattle.dl_table.specs.declared.table.Pair.{Pair}
use Rattle.dl_table.specs.Value.{Value}

-- the values with their content codes, in the order of the pairs
abbrev pub with_content : List Pair → List Value → List (ℕ × Value)
with_content [] values = []
with_content (p ∷ pairs) [] = []
with_content (p ∷ pairs) (v ∷ values) = (p.content, v) ∷ with_content pairs values

-- the first value with that content code
abbrev pub value_of : List (ℕ × Value) → ℕ → Option Value
value_of [] content = None
value_of (i ∷ items) content = if i.0 == content then Some i.1 else value_of items content
