-- Files without an MD5 sum among others that have one. The format of a table gives each entry the same contents, so that assemblers
-- write zeros for a source without a sum. DWARF 5, section 6.2.4.1.
use Rattle.std.specs.Prelude.{ℕ, Bool, not, false, if◌then◌else◌, nat_lt, List, [], ◌∷◌, filter, length, replicate, Option, Some, None}
use Rattle.std.specs.Option.{option_and_then}
use Rattle.std.specs.Str.{bytes_eq}
use Rattle.dl_table.specs.EntryData.{value_of}
use Rattle.dl_table.specs.Value.{Value, data16}
use Rattle.dl_field.specs.HeaderData.{HeaderData}
use Rattle.dl_head.specs.Numbers.{file_numbered}
use Rattle.dl_findings.specs.declared.finding.Finding.{Finding}
use Rattle.dl_findings.specs.declared.finding.Found.TheVariants as found
use Rattle.dl_table_rules.specs.TableFindings.{in_header}
use Rattle.dl_table_rules.specs.Unused.{file_numbers}

-- sixteen bytes that aren't all zero
abbrev pub is_sum : Value → Bool
is_sum (data16 w) = not (bytes_eq w (replicate 16 0))
is_sum other = false

abbrev pub sum_in : Option Value → Bool
sum_in None = false
sum_in (Some v) = is_sum v

-- content 5 (DW_LNCT_MD5) of the file of this number
abbrev pub has_sum : HeaderData → (file : ℕ) → Bool
has_sum h file = sum_in (option_and_then (λ entry. value_of entry 5) (file_numbered h file))

-- the numbers of those that have none
abbrev pub without_sum : HeaderData → List ℕ
without_sum h = filter (λ n. not (has_sum h n)) (file_numbers h)

-- ---- md5-missing: some files of the table have a sum, and others none

abbrev pub told_without : (offset : ℕ) → (numbers : List ℕ) → List Finding
told_without offset [] = []
told_without offset (n ∷ numbers) = in_header offset (found.Md5Missing (length (n ∷ numbers)) n) ∷ []

abbrev pub sums_found : (offset : ℕ) → HeaderData → List Finding
sums_found offset h =
    if nat_lt (length (without_sum h)) (length h.files.entries) then told_without offset (without_sum h) else []
