-- Numbers that are given in the order of first mention, from 1.
use Rattle.std.specs.Prelude.{ℕ, zero, suc, ◌==◌, List, [], ◌∷◌, ◌++◌, if◌then◌else◌}

abbrev pub one_more : ℕ → ℕ
one_more zero = zero
one_more (suc k) = suc (suc k)

-- the number of an item among those that were mentioned; 0 where it was not
abbrev pub number_in : List ℕ → ℕ → ℕ
number_in [] item = 0
number_in (first ∷ order) item = if first == item then 1 else one_more (number_in order item)

-- an item that is mentioned first goes last
abbrev pub with_mention : List ℕ → ℕ → List ℕ
with_mention order item = if number_in order item == 0 then order ++ item ∷ [] else order

-- items, one after the other
abbrev pub mentioned : List ℕ → List ℕ → List ℕ
mentioned order [] = order
mentioned order (item ∷ items) = mentioned (with_mention order item) items
