-- What the table of files of a unit tells of paths. DWARF 5, sections 3.1.1, 6.2.4 and 6.2.4.1.
use Rattle.std.specs.Prelude.{ℕ, zero, suc, ◌+◌, Bool, if◌then◌else◌, List, [], ◌∷◌, length, replicate, Option, Some, None}
use Rattle.std.specs.Prelude.{option_map}
use Rattle.std.specs.List.{flat_map}
use Rattle.std.specs.Option.{option_and_then, option_to_list}
use Rattle.std.specs.Str.{bytes_eq}
use Rattle.dl_table.specs.EntryData.{value_of}
use Rattle.dl_table.specs.Value.{Value, data16}
use Rattle.dl_field.specs.HeaderData.{HeaderData}
use Rattle.dl_head.specs.Numbers.{file_numbered, first_number}
use Rattle.dl_print.specs.ValueText.{Strings}
use Rattle.dl_path.specs.Paths.{compiled_in, path_of}
use Rattle.dl_sources.specs.declared.counting.Counts.{Counts}
use Rattle.dl_sources.specs.Sources.{Mention}

-- so many numbers, one after the other
abbrev pub numbers_from : (first count : ℕ) → List ℕ
numbers_from first zero = []
numbers_from first (suc count) = first ∷ numbers_from (first + 1) count

-- the numbers of the entries of the table of files: in version 5 from 0 on, before from 1 on
abbrev pub file_numbers : HeaderData → List ℕ
file_numbers h = numbers_from (first_number h.params) (length h.files.entries)

-- sixteen bytes that aren't all zero: each entry of a table has the same contents, so assemblers write zeros for a source
-- without a sum
abbrev pub sum_of_value : Value → Option (List ℕ)
sum_of_value (data16 w) = if bytes_eq w (replicate 16 0) then None else Some w
sum_of_value other = None

-- content 5 (DW_LNCT_MD5)
abbrev pub sum_in : List (ℕ × Value) → Option (List ℕ)
sum_in entry = option_and_then sum_of_value (value_of entry 5)

-- of the file of number n, where sums are asked for
abbrev pub sum_told : (md5 : Bool) → HeaderData → (n : ℕ) → Option (List ℕ)
sum_told md5 h n = if md5 then option_and_then sum_in (file_numbered h n) else None

-- what the entry of number n tells, by the compilation directory that counts and what the rows come to that name each entry:
-- nothing where its path isn't known
abbrev pub entry_told : Strings → (directory : Option (List ℕ)) → (md5 : Bool) → HeaderData → (counts : ℕ → Counts) → (n : ℕ)
    → List Mention
entry_told s directory md5 h counts n =
    option_to_list (option_map (λ path. record {
      path = compiled_in directory path;
      counts = counts n;
      sum = sum_told md5 h n;
    }) (path_of s (Some h) n))

-- what the entries tell
abbrev pub table_told : Strings → (directory : Option (List ℕ)) → (md5 : Bool) → HeaderData → (counts : ℕ → Counts) → List Mention
table_told s directory md5 h counts = flat_map (entry_told s directory md5 h counts) (file_numbers h)
