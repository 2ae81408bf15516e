-- The paths that tables of files name, and what is told of each. DWARF 5, sections 6.2.4 and 6.2.4.1.
use Rattle.std.specs.Prelude.{ℕ, List, [], map, if◌then◌else◌, Option}
use Rattle.std.specs.BTreeSet.{insert_key}
use Rattle.std.specs.Cmp.Lexicographic.{slice_cmp}
use Rattle.std.specs.List.{flat_map, fold, sum_by}
use Rattle.std.specs.Option.{option_to_list}
use Rattle.std.specs.Ordering.{nat_cmp}
use Rattle.std.specs.Str.{bytes_eq}
use Rattle.dl_sources.specs.declared.counting.Counts.{Counts}
use Rattle.dl_sources.specs.Counts.{at_most_64_bits}

-- an entry of a table of files whose path is known: the path, the rows that name the entry, and its MD5 sum, where it has one
pub record Mention : Type 0 where
  pub path : List ℕ
  pub counts : Counts
  pub sum : Option (List ℕ)

-- what is told of a path: the counts of all entries that have it, and their sums
pub record Totals : Type 0 where
  pub counts : Counts
  pub sums : List (List ℕ)

abbrev pub nothing_told : Totals
nothing_told = record { counts = record { rows = 0; bytes = 0 }; sums = [] }

-- each of the texts once, in the order of their bytes: one after the other goes to its place, unless it stands there
abbrev pub in_order : List (List ℕ) → List (List ℕ)
in_order texts = fold (insert_key (slice_cmp nat_cmp)) [] texts

-- what f says of each entry that has this path, added up
abbrev pub total : (f : Counts → ℕ) → (path : List ℕ) → List Mention → ℕ
total f path mentions = at_most_64_bits (sum_by (λ m. if bytes_eq path m.path then f m.counts else 0) mentions)

-- the sums of the entries that have this path
abbrev pub sums_of : (path : List ℕ) → List Mention → List (List ℕ)
sums_of path mentions = in_order (flat_map (λ m. if bytes_eq path m.path then option_to_list m.sum else []) mentions)

abbrev pub totals_of : (path : List ℕ) → List Mention → Totals
totals_of path mentions = record {
  counts = record { rows = total (λ c. c.rows) path mentions; bytes = total (λ c. c.bytes) path mentions };
  sums = sums_of path mentions;
}

-- the paths
abbrev pub paths_of : List Mention → List (List ℕ)
paths_of mentions = in_order (map (λ m. m.path) mentions)
