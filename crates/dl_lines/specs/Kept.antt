-- The places that are kept of a line. No promise rests on this file.
use Rattle.std.specs.Prelude.{◌≡◌, ℕ, Bool, true, false, ◌&&◌, not, ◌==◌, nat_lt, if◌then◌else◌, List, [], ◌∷◌, ◌++◌, length}
use Rattle.std.specs.Prelude.{map, slice_get}
use Rattle.std.specs.List.{list_all}
use Rattle.std.specs.List.Sorted.{IsNonDecreasingBy}
use Rattle.dl_lines.specs.declared.best.Best.{Best}
use Rattle.dl_lines.specs.declared.best.KeptPlace.{KeptPlace}
use Rattle.dl_lines.specs.declared.search.Lines.{Lines}
use Rattle.dl_lines.specs.declared.search.Lines.TheVariants.{Exact, LeastAbove}
use Rattle.dl_lines.specs.Places.{CodePlace}

abbrev pub is_exact : Lines → Bool
is_exact Exact = true
is_exact LeastAbove = false

-- a place as it is told
abbrev pub place_kept : (paths : List (List ℕ)) → (line : ℕ) → KeptPlace → CodePlace
place_kept paths line p = record {
  path = slice_get paths p.path;
  address = p.address;
  line = line;
  column = p.column;
  prologue_end = p.prologue_end;
}

abbrev pub places_kept : (paths : List (List ℕ)) → Best → List CodePlace
places_kept paths best = map (place_kept paths best.line) best.places.items

-- no address is below that of a place before it
abbrev pub Rises : List KeptPlace → Type 0
Rises places = IsNonDecreasingBy (λ (p : KeptPlace). p.address) places

-- so many paths have the one of the place
abbrev pub is_within : (count : ℕ) → KeptPlace → Bool
is_within count p = nat_lt p.path count

abbrev pub AreWithin : (count : ℕ) → List KeptPlace → Type 0
AreWithin count places = list_all (is_within count) places ≡ true

abbrev pub IsWithin : (count : ℕ) → KeptPlace → Type 0
IsWithin count p = is_within count p ≡ true

abbrev pub is_below_line : Best → (line : ℕ) → Bool
is_below_line best line = not (length best.places.items == 0) && nat_lt best.line line

-- what answers of two lists, by what answers of each
abbrev pub both : List CodePlace → List CodePlace → List CodePlace
both [] others = others
both (p ∷ places) [] = p ∷ places
both (p ∷ places) (q ∷ others) =
    if nat_lt p.line q.line then p ∷ places else if nat_lt q.line p.line then q ∷ others else (p ∷ places) ++ (q ∷ others)
