-- What the rules find in the numbers of directories and the content codes of a header. DWARF 5, sections 6.2.4 and 6.2.4.1.
use Rattle.std.specs.Prelude.{ℕ, Bool, not, ◌==◌, ◌&&◌, ◌||◌, nat_le, nat_lt, if◌then◌else◌}
use Rattle.std.specs.Prelude.{List, [], ◌∷◌, ◌++◌, flat_map, map, length, take, Option, Some, None, is_some, slice_get}
use Rattle.std.specs.List.{list_any, range_with_len}
use Rattle.std.specs.Option.{option_and_then}
use Rattle.dl_table.specs.EntryData.{value_of}
use Rattle.dl_table.specs.declared.table.Pair.{Pair}
use Rattle.dl_table.specs.Value.{Value, number}
use Rattle.dl_field.specs.HeaderData.{HeaderData}
use Rattle.dl_head.specs.Numbers.{directory_numbered, file_numbered, first_number}
use Rattle.dl_findings.specs.declared.finding.Finding.{Finding}
use Rattle.dl_findings.specs.declared.finding.Found.TheVariants as found
use Rattle.dl_table_rules.specs.TableFindings.{in_header}

-- ---- directory-index: an entry of the table of files names no entry of the table of directories. Before version 5 the
-- directory of the compilation is number 0, and no table has it

abbrev pub number_in : Value → Option ℕ
number_in (number n) = Some n
number_in other = None

-- content 2 (DW_LNCT_directory_index)
abbrev pub directory_in : List (ℕ × Value) → Option ℕ
directory_in entry = option_and_then number_in (value_of entry 2)

-- the directory that the file of this number names
abbrev pub directory_named : HeaderData → (file : ℕ) → Option ℕ
directory_named h file = option_and_then directory_in (file_numbered h file)

abbrev pub has_directory : HeaderData → (directory : ℕ) → Bool
has_directory h directory = (nat_lt h.params.version 5 && (directory == 0)) || is_some (directory_numbered h directory)

abbrev pub directory_found : (offset : ℕ) → HeaderData → (file directory : ℕ) → List Finding
directory_found offset h file directory =
    if has_directory h directory then []
    else in_header offset
    (found.DirectoryIndex file directory (length h.directories.entries) (first_number h.params)) ∷ []

abbrev pub each_directory : (offset : ℕ) → HeaderData → (file : ℕ) → Option ℕ → List Finding
each_directory offset h file None = []
each_directory offset h file (Some directory) = directory_found offset h file directory

abbrev pub directory_of_file : (offset : ℕ) → HeaderData → (file : ℕ) → List Finding
directory_of_file offset h file = each_directory offset h file (directory_named h file)

-- of each file of the table
abbrev pub directories_found : (offset : ℕ) → HeaderData → List Finding
directories_found offset h =
    flat_map (directory_of_file offset h) (range_with_len (first_number h.params) (length h.files.entries))

-- ---- unknown-opcode, of content codes: those of the formats of both tables that the standard doesn't name, once each. It names
-- 1 to 5 (DW_LNCT_path to DW_LNCT_MD5, section 6.2.4.1)

abbrev pub is_named_content : (code : ℕ) → Bool
is_named_content code = nat_le 1 code && nat_le code 5

abbrev pub contents : List Pair → List ℕ
contents pairs = map (λ p. p.content) pairs

abbrev pub content_codes : HeaderData → List ℕ
content_codes h = contents (h.directories.pairs ++ h.files.pairs)

-- it isn't named, and none of those before
abbrev pub is_unknown_content : (before : List ℕ) → (code : ℕ) → Bool
is_unknown_content before code = not (is_named_content code) && not (list_any (λ other. other == code) before)

abbrev pub content_found : (offset : ℕ) → (before : List ℕ) → Option ℕ → List Finding
content_found offset before None = []
content_found offset before (Some code) =
    if is_unknown_content before code then in_header offset (found.UnknownContent code) ∷ [] else []

-- of the code at this place
abbrev pub content_at : (offset : ℕ) → (codes : List ℕ) → (place : ℕ) → List Finding
content_at offset codes place = content_found offset (take place codes) (slice_get codes place)

-- of each code
abbrev pub contents_found : (offset : ℕ) → HeaderData → List Finding
contents_found offset h =
    flat_map (content_at offset (content_codes h)) (range_with_len 0 (length (content_codes h)))
