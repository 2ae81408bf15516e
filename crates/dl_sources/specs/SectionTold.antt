-- What the whole units of a section tell of paths. DWARF 5, sections 6.2.2 and 6.2.4.
use Rattle.std.specs.Prelude.{ℕ, ◌+◌, Bool, List, [], ◌∷◌, ◌++◌, length, Option, Some, None}
use Rattle.std.specs.Option.{option_copied}
use Rattle.dl_field.specs.HeaderData.{HeaderData}
use Rattle.dl_head.specs.declared.dialect.Dialect.{Dialect}
use Rattle.dl_rows.specs.declared.row.Row.{Row}
use Rattle.dl_rows.specs.LineUnit.{unit_rows}
use Rattle.dl_look.specs.LiveRows.{live_rows}
use Rattle.dl_print.specs.ValueText.{Strings}
use Rattle.dl_path.specs.Paths.{beside_table, has_directory_0}
use Rattle.dl_dirs.specs.Compilation.{directory_by}
use Rattle.dl_sections.specs.Section.{header_of}
use Rattle.dl_addr.specs.Code.{is_code}
use Rattle.dl_sources.specs.declared.question.SourcesQuestion.{SourcesQuestion}
use Rattle.dl_sources.specs.Counts.{counts_of}
use Rattle.dl_sources.specs.Entries.{table_told}
use Rattle.dl_sources.specs.Sources.{Mention}

-- the addresses at which live sequences begin
abbrev pub is_live : SourcesQuestion → ℕ → Bool
is_live q = is_code (option_copied q.code)

-- the unit at this offset, which has this header and these rows
abbrev pub unit_mentions : Strings → SourcesQuestion → (offset : ℕ) → Option HeaderData → List Row → List Mention
unit_mentions s q offset None rows = []
unit_mentions s q offset (Some h) rows =
    table_told s (beside_table (has_directory_0 (Some h)) (directory_by q.directories offset)) q.md5 h
    (λ n. counts_of n (live_rows (is_live q) rows))

-- units one after the other, the first at that offset
abbrev pub mentions_from : Dialect → Strings → SourcesQuestion → (offset : ℕ) → List (List ℕ) → List Mention
mentions_from dialect s q offset [] = []
mentions_from dialect s q offset (u ∷ units) =
    unit_mentions s q offset (header_of dialect u) (unit_rows dialect u)
    ++ mentions_from dialect s q (offset + length u) units

-- the units of a section
abbrev pub mentions_of : Dialect → Strings → SourcesQuestion → List (List ℕ) → List Mention
mentions_of dialect s q units = mentions_from dialect s q 0 units
