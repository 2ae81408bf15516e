-- The lines that tell of paths.
use Rattle.std.specs.Prelude.{ℕ, nat_le, Bool, if◌then◌else◌, List, [], ◌∷◌, ◌++◌, map, length, Option, Some, None, codes, decimal}
use Rattle.std.specs.List.{flat_map, list_any}
use Rattle.dl_print.specs.Digits.{hexadecimal_bytes}
use Rattle.dl_print.specs.Text.{line}
use Rattle.dl_path.specs.Shown.{shown}
use Rattle.dl_addr.specs.Json.{json_string}
use Rattle.dl_sources.specs.declared.counting.Counts.{Counts}
use Rattle.dl_sources.specs.declared.question.SourcesQuestion.{SourcesQuestion}
use Rattle.dl_sources.specs.declared.question.Sums.{Sums}
use Rattle.dl_sources.specs.declared.question.Sums.TheVariants as sums
use Rattle.dl_sources.specs.Sources.{Mention, Totals, paths_of, sums_of, totals_of}

-- ---- a line

-- the rows and the bytes, where they are asked for
abbrev pub counts_text : (rows : Bool) → Counts → List ℕ
counts_text rows counts =
    if rows then (decimal counts.rows ++ codes " ") ++ (decimal counts.bytes ++ codes " ") else []

-- the digits of a sum, or what stands for none
abbrev pub sum_digits : Option (List ℕ) → List ℕ
sum_digits None = codes "-"
sum_digits (Some sum) = hexadecimal_bytes sum

-- the sum, where sums are asked for
abbrev pub sum_text : (md5 : Bool) → Option (List ℕ) → List ℕ
sum_text md5 sum = if md5 then sum_digits sum ++ codes " " else []

abbrev pub plain_line : SourcesQuestion → (path : List ℕ) → Counts → Option (List ℕ) → List ℕ
plain_line q path counts sum = (counts_text q.rows counts ++ sum_text q.md5 sum) ++ line (shown path)

-- ---- the same as a JSON object (RFC 8259)

abbrev pub json_counts : (rows : Bool) → Counts → List ℕ
json_counts rows counts =
    if rows then (codes ",\"rows\":" ++ decimal counts.rows) ++ (codes ",\"bytes\":" ++ decimal counts.bytes) else []

abbrev pub json_sum_value : Option (List ℕ) → List ℕ
json_sum_value None = codes ",\"md5\":null"
json_sum_value (Some sum) = (codes ",\"md5\":\"" ++ hexadecimal_bytes sum) ++ codes "\""

abbrev pub json_sum : (md5 : Bool) → Option (List ℕ) → List ℕ
json_sum md5 sum = if md5 then json_sum_value sum else []

abbrev pub json_line : SourcesQuestion → (path : List ℕ) → Counts → Option (List ℕ) → List ℕ
json_line q path counts sum =
    ((codes "{\"path\":" ++ json_string path) ++ json_counts q.rows counts) ++ (json_sum q.md5 sum ++ codes "}\n")

-- ---- a path

abbrev pub one_line : SourcesQuestion → (path : List ℕ) → Counts → Option (List ℕ) → List ℕ
one_line q path counts sum = if q.json then json_line q path counts sum else plain_line q path counts sum

-- a line for each sum, in the order of their bytes; one where there is none
abbrev pub lines_told : List (List ℕ) → List (Option (List ℕ))
lines_told [] = None ∷ []
lines_told (sum ∷ sums) = map (λ w. Some w) (sum ∷ sums)

abbrev pub path_lines : SourcesQuestion → (path : List ℕ) → Totals → List ℕ
path_lines q path t = flat_map (one_line q path t.counts) (lines_told t.sums)

-- ---- all paths

-- the lines of the paths that are told, in the order of their bytes
abbrev pub report : SourcesQuestion → List Mention → List ℕ
report q mentions = flat_map (λ path. path_lines q path (totals_of path mentions)) (paths_of mentions)

-- whether some path has two sums
abbrev pub sums_told : List Mention → Sums
sums_told mentions =
    if list_any (λ path. nat_le 2 (length (sums_of path mentions))) (paths_of mentions) then sums.Differ else sums.Agree
