-- What the rules find in the tables of a header. DWARF 5, sections 6.2.4.1 and 7.5.5.
use Rattle.std.specs.Prelude.{ℕ, ◌+◌, Bool, if◌then◌else◌, List, [], ◌∷◌, ◌++◌, flat_map, length, Option, Some, None, slice_get}
use Rattle.std.specs.List.{range_with_len}
use Rattle.dl_table.specs.TableData.{TableData}
use Rattle.dl_table.specs.Value.{Value, line_str, str}
use Rattle.dl_field.specs.HeaderData.{HeaderData}
use Rattle.dl_head.specs.Numbers.{first_number}
use Rattle.dl_print.specs.ValueText.{Strings}
use Rattle.dl_findings.specs.declared.finding.Finding.{Finding}
use Rattle.dl_findings.specs.declared.finding.Found.{Found}
use Rattle.dl_findings.specs.declared.finding.Found.TheVariants as found
use Rattle.dl_findings.specs.declared.finding.TableEntry.{TableEntry}
use Rattle.dl_findings.specs.declared.finding.TableEntry.TheVariants as entry
use Rattle.dl_findings.specs.declared.finding.TextSection.{TextSection}
use Rattle.dl_findings.specs.declared.finding.TextSection.TheVariants as texts
use Rattle.dl_table_rules.specs.Duplicates.{entries_of, first_same}
use Rattle.dl_table_rules.specs.Texts.{lacks}
use Rattle.dl_table_rules.specs.Unused.{unused_in}

-- in the header of the unit at that offset
abbrev pub in_header : (offset : ℕ) → Found → Finding
in_header offset f = record { offset = offset; row = None; found = f }

-- ---- missing-text: a value of an entry is a text of a string section that was handed in, and that has none there. s: the
-- string sections

abbrev pub missing_if : Bool → (offset : ℕ) → TableEntry → TextSection → (at : ℕ) → List Finding
missing_if is offset e section at = if is then in_header offset (found.MissingText e section at) ∷ [] else []

abbrev pub missing_value : Strings → (offset : ℕ) → TableEntry → Value → List Finding
missing_value s offset e (line_str n) = missing_if (lacks s.line_strings n) offset e texts.DebugLineStr n
missing_value s offset e (str n) = missing_if (lacks s.strings n) offset e texts.DebugStr n
missing_value s offset e other = []

abbrev pub missing_item : Strings → (offset : ℕ) → TableEntry → ℕ × Value → List Finding
missing_item s offset e item = missing_value s offset e item.1

abbrev pub missing_entry : Strings → (offset : ℕ) → TableEntry → Option (List (ℕ × Value)) → List Finding
missing_entry s offset e None = []
missing_entry s offset e (Some items) = flat_map (missing_item s offset e) items

-- in the entry at this place; which: the entry of a number
abbrev pub missing_at : Strings → (offset : ℕ) → (which : ℕ → TableEntry) → (first : ℕ) → TableData → (place : ℕ) → List Finding
missing_at s offset which first t place = missing_entry s offset (which (first + place)) (slice_get (entries_of t) place)

abbrev pub missing_in : Strings → (offset : ℕ) → (which : ℕ → TableEntry) → (first : ℕ) → TableData → List Finding
missing_in s offset which first t =
    flat_map (missing_at s offset which first t) (range_with_len 0 (length t.entries))

abbrev pub missing_found : Strings → (offset : ℕ) → HeaderData → List Finding
missing_found s offset h =
    missing_in s offset entry.Directory (first_number h.params) h.directories
    ++ missing_in s offset entry.File (first_number h.params) h.files

-- ---- duplicate-file: an entry of the table of files has the values of one before it, the first of which is told

abbrev pub same_found : (offset : ℕ) → HeaderData → (place : ℕ) → Option ℕ → List Finding
same_found offset h place None = []
same_found offset h place (Some other) =
    in_header offset (found.DuplicateFile (first_number h.params + place) (first_number h.params + other)) ∷ []

abbrev pub duplicate_at : (offset : ℕ) → HeaderData → (place : ℕ) → List Finding
duplicate_at offset h place = same_found offset h place (first_same (entries_of h.files) place)

abbrev pub duplicates_found : (offset : ℕ) → HeaderData → List Finding
duplicates_found offset h = flat_map (duplicate_at offset h) (range_with_len 0 (length h.files.entries))

-- ---- unused-file: no row names some entries of the table of files. named: the files that rows name

abbrev pub numbers_found : (offset : ℕ) → List ℕ → List Finding
numbers_found offset [] = []
numbers_found offset (n ∷ numbers) = in_header offset (found.UnusedFile (length (n ∷ numbers)) n) ∷ []

abbrev pub unused_found : (offset : ℕ) → HeaderData → (named : List ℕ) → List Finding
unused_found offset h named = numbers_found offset (unused_in h named)
