-- What a table of paths holds. No promise rests on this file.
use Rattle.std.specs.Prelude.{◌≡◌, ℕ, Bool, List, map, Option}
use Rattle.std.specs.BTreeSet.{insert_key}
use Rattle.std.specs.Cmp.Lexicographic.{slice_cmp}
use Rattle.std.specs.Global.{Vec}
use Rattle.std.specs.List.{fold}
use Rattle.std.specs.Map.{lookup}
use Rattle.std.specs.Option.{option_map_or, option_to_list}
use Rattle.std.specs.Ordering.{is_eq, nat_cmp}
use Rattle.dl_sources.specs.declared.counting.Counts.{Counts}
use Rattle.dl_sources.specs.declared.table.PathTotals.{PathTotals}
use Rattle.dl_sources.specs.declared.table.SourceTable.{SourceTable}
use Rattle.dl_sources.specs.Counts.{plus}
use Rattle.dl_sources.specs.SourceFiles.{totals_seen}
use Rattle.dl_sources.specs.Sources.{Mention, Totals, nothing_told, paths_of, totals_of}

-- with what one entry more tells
abbrev pub with_told : Totals → Counts → Option (List ℕ) → Totals
with_told t counts sum = record {
  counts = plus t.counts counts;
  sums = fold (insert_key (slice_cmp nat_cmp)) t.sums (option_to_list sum);
}

abbrev pub same_bytes : List ℕ → List ℕ → Bool
same_bytes p q = is_eq (slice_cmp nat_cmp p q)

-- what stands at a path
abbrev pub looked : (p : List ℕ) → List (Vec ℕ × PathTotals) → Option PathTotals
looked p entries = lookup (λ (k : Vec ℕ). same_bytes p k.items) entries

abbrev pub told_at : (p : List ℕ) → List (Vec ℕ × PathTotals) → Totals
told_at p entries = option_map_or totals_seen (looked p entries) nothing_told

abbrev pub paths_in : List (Vec ℕ × PathTotals) → List (List ℕ)
paths_in entries = map (λ e. e.0.items) entries

-- it was told of these entries
pub record Holds (t : SourceTable) (mentions : List Mention) : Type 0 where
  pub paths : paths_in t.paths.entries ≡ paths_of mentions
  pub each : (p : List ℕ) → told_at p t.paths.entries ≡ totals_of p mentions
