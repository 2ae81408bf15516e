-- The sequences of a unit that aren't live: linkers leave those of functions that they drop, at an address where there is no code.
-- DWARF 5, section 6.2.2.
use Rattle.std.specs.Prelude.{ℕ, List, [], ◌∷◌, length, None}
use Rattle.dl_findings.specs.Counting.{at_most_64_bits}
use Rattle.dl_findings.specs.declared.finding.Finding.{Finding}
use Rattle.dl_findings.specs.declared.finding.Found.TheVariants as found

-- firsts: the addresses of the first rows of these sequences, in order. It is told of the unit at that offset how many they are,
-- and the first address
abbrev pub dead_found : (unit : ℕ) → (firsts : List ℕ) → List Finding
dead_found unit [] = []
dead_found unit (first ∷ firsts) = record {
  offset = unit;
  row = None;
  found = found.DeadSequence (at_most_64_bits (length (first ∷ firsts))) first;
} ∷ []
