-- The lines of what a table of paths holds. No promise rests on this file.
use Rattle.std.specs.Prelude.{◌≡◌, ℕ, Bool, nat_le, if◌then◌else◌, List, length, Option, Result, Ok, Err}
use Rattle.std.specs.Global.{Vec}
use Rattle.std.specs.Io.KnownBytes.{Appends}
use Rattle.std.specs.List.{flat_map, list_any}
use Rattle.dl_print.specs.declared.fault.WriteFault.{WriteFault}
use Rattle.dl_print.specs.Output.{TellsOut}
use Rattle.dl_sources.specs.declared.question.SourcesQuestion.{SourcesQuestion}
use Rattle.dl_sources.specs.declared.question.Sums.{Sums}
use Rattle.dl_sources.specs.declared.question.Sums.TheVariants as sums
use Rattle.dl_sources.specs.declared.table.PathTotals.{PathTotals}
use Rattle.dl_sources.specs.Report.{path_lines, report, sums_told}
use Rattle.dl_sources.specs.SourceFiles.{totals_seen}
use Rattle.dl_sources.specs.Sources.{Mention}

abbrev pub entries_text : SourcesQuestion → List (Vec ℕ × PathTotals) → List ℕ
entries_text q entries = flat_map (λ e. path_lines q e.0.items (totals_seen e.1)) entries

abbrev pub has_two : PathTotals → Bool
has_two t = nat_le 2 (length t.sums.keys)

abbrev pub sums_in : List PathTotals → Sums
sums_in totals = if list_any has_two totals then sums.Differ else sums.Agree

-- the lines of all paths, or not all of them
abbrev pub PrintsReport : (old new : Option (List ℕ)) → SourcesQuestion → List Mention → Result Sums WriteFault → Type 0
PrintsReport old new q mentions (Ok told) = (told ≡ sums_told mentions) × Appends old new (report q mentions)
PrintsReport old new q mentions (Err lost) = TellsOut old new (report q mentions) lost
