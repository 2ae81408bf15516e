-- A law of texts in the order of their bytes.
use Rattle.std.specs.Prelude.{◌≡◌, ℕ, List}
use Rattle.std.specs.Cmp.Lexicographic.{slice_cmp}
use Rattle.std.specs.List.{list_any}
use Rattle.std.specs.List.Sorted.{IsStrictlySortedBy}
use Rattle.std.specs.Ordering.{nat_cmp}
use Rattle.std.specs.Str.{bytes_eq}
use Rattle.dl_sources.specs.Sources.{in_order}

-- each is below those after it, and a text is among them just where it is among the texts
abbrev pub TextsInOrder : Type 0
TextsInOrder =
    (texts : List (List ℕ)) → IsStrictlySortedBy (slice_cmp nat_cmp) (in_order texts)
    × ((text : List ℕ) → list_any (bytes_eq text) (in_order texts) ≡ list_any (bytes_eq text) texts)
