-- Source files that are held and not printed: each path, with what is told of it. DWARF 5, sections 6.2.4 and 6.2.4.1.
use Rattle.std.specs.Prelude.{ℕ, List, map}
use Rattle.std.specs.Global.{Vec}
use Rattle.dl_sources.specs.declared.table.PathTotals.{PathTotals}
use Rattle.dl_sources.specs.declared.table.SourceTable.{SourceTable}
use Rattle.dl_sources.specs.Sources.{Mention, Totals, paths_of, totals_of}

-- a path, with what is told of it
pub record SourceFile : Type 0 where
  pub path : List ℕ
  pub totals : Totals

abbrev pub file_told : List Mention → (path : List ℕ) → SourceFile
file_told mentions path = record { path = path; totals = totals_of path mentions }

-- each path that is told, once, in the order of their bytes: those of which `sources` prints the lines
abbrev pub files_told : List Mention → List SourceFile
files_told mentions = map (file_told mentions) (paths_of mentions)

-- ---- the same of a table

abbrev pub totals_seen : PathTotals → Totals
totals_seen t = record { counts = t.counts; sums = t.sums.keys }

abbrev pub file_seen : Vec ℕ × PathTotals → SourceFile
file_seen e = record { path = e.0.items; totals = totals_seen e.1 }

abbrev pub files_held : SourceTable → List SourceFile
files_held t = map file_seen t.paths.entries
