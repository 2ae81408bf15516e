-- How source files are written into a room. No promise rests on this file.
use Rattle.std.specs.Prelude.{ℕ, List}
use Rattle.dl_sources.specs.declared.table.PathTotals.{PathTotals}
use Rattle.dl_sources.specs.SourceFiles.{SourceFile, totals_seen}
use Rattle.dl_source_buffers.specs.declared.source_files.SourceRecord.{SourceRecord}

abbrev pub file_with : (path : List ℕ) → PathTotals → SourceFile
file_with path totals = record { path = path; totals = totals_seen totals }

abbrev pub with_sum : SourceRecord → (sum : List ℕ) → SourceRecord
with_sum r sum = record r { md5 = sum; has_md5 = 1 }
