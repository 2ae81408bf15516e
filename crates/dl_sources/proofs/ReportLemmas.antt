-- The lines of what a table holds are those of the paths that are told.
use Rattle.std.proofs.Common.{◌≡◌, ℕ, Bool, List, [], ◌∷◌, ◌++◌, length, map, Some}
use Rattle.std.proofs.Common.{refl, sym, ap, ap₂, ◌∙◌}
use Rattle.std.specs.Prelude.{nat_le, ◌||◌, if◌then◌else◌}
use Rattle.std.specs.BTreeMap.{IsOrdered, values}
use Rattle.std.specs.Cmp.Lexicographic.{on_texts}
use Rattle.std.specs.Global.{Vec}
use Rattle.std.specs.List.{All, flat_map, list_any}
use Rattle.std.proofs.lemmas.List.Elements.{All-head, All-tail}
use Rattle.std.proofs.lemmas.Map.Views.{All-found}
use Rattle.dl_sources.specs.declared.question.SourcesQuestion.{SourcesQuestion}
use Rattle.dl_sources.specs.declared.question.Sums.TheVariants as sums
use Rattle.dl_sources.specs.declared.table.PathTotals.{PathTotals}
use Rattle.dl_sources.specs.declared.table.SourceTable.{SourceTable}
use Rattle.dl_sources.specs.Holding.{Holds, looked, paths_in}
use Rattle.dl_sources.specs.Report.{path_lines, report, sums_told}
use Rattle.dl_sources.specs.Reporting.{entries_text, has_two, sums_in}
use Rattle.dl_sources.specs.SourceFiles.{totals_seen}
use Rattle.dl_sources.specs.Sources.{Mention, Totals, sums_of, totals_of}
use Rattle.dl_sources.proofs.TableLemmas.{found_is, order}

module _ (t : SourceTable) (mentions : List Mention) (held : Holds t mentions) (ordered : IsOrdered order t.paths) where
  abbrev Entry : Type 0
  Entry = Vec ℕ × PathTotals

  abbrev IsTold : Entry → Type 0
  IsTold e = totals_seen e.1 ≡ totals_of e.0.items mentions

  -- what is found at the path of an entry
  abbrev IsFound : Entry → Type 0
  IsFound e = looked e.0.items t.paths.entries ≡ Some e.1

  told_is : (e : Entry) → IsFound e → IsTold e
  told_is e found = sym (found_is e.0.items t.paths.entries e.1 found) ∙ held.each e.0.items

  found : All IsFound t.paths.entries
  found = All-found (on_texts (λ (v : Vec ℕ). v.items)) t.paths ordered

  lines_same : (q : SourcesQuestion) (es : List Entry) → All IsFound es
      → entries_text q es ≡ flat_map (λ path. path_lines q path (totals_of path mentions)) (paths_in es)
  lines_same q [] all = refl
  lines_same q (e ∷ es) all =
      ap₂ (λ (a b : List ℕ). a ++ b) (ap (path_lines q e.0.items) (told_is e (All-head IsFound e es all)))
      (lines_same q es (All-tail IsFound e es all))

  pub text_is : (q : SourcesQuestion) → entries_text q t.paths.entries ≡ report q mentions
  text_is q =
      lines_same q t.paths.entries found
      ∙ ap (flat_map (λ path. path_lines q path (totals_of path mentions))) held.paths

  any_same : (es : List Entry) → All IsFound es
      → list_any has_two (map (λ (e : Entry). e.1) es)
      ≡ list_any (λ path. nat_le 2 (length (sums_of path mentions))) (paths_in es)
  any_same [] all = refl
  any_same (e ∷ es) all =
      ap₂ (λ (a b : Bool). a || b)
      (ap (λ (x : Totals). nat_le 2 (length x.sums)) (told_is e (All-head IsFound e es all)))
      (any_same es (All-tail IsFound e es all))

  pub sums_is : sums_in (values t.paths) ≡ sums_told mentions
  sums_is =
      ap (λ (b : Bool). if b then sums.Differ else sums.Agree) (any_same t.paths.entries found
      ∙ ap (list_any (λ path. nat_le 2 (length (sums_of path mentions)))) held.paths)
