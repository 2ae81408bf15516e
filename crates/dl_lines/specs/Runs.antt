-- What is kept of a run. No promise rests on this file.
use Rattle.std.specs.Prelude.{◌≡◌, ℕ, Bool, true, false, not, ◌&&◌, ◌==◌, if◌then◌else◌, List, [], ◌∷◌, reverse, Option, Some, None}
use Rattle.dl_rows.specs.declared.row.Row.{Row}
use Rattle.dl_lines.specs.declared.run.FirstStatements.{FirstStatements}
use Rattle.dl_lines.specs.declared.run.Run.{Run}

abbrev pub found_run : Option Run → (file line : ℕ) → Bool
found_run None file line = false
found_run (Some run) file line = run.file == file && run.line == line

abbrev pub found_at : FirstStatements → (file line : ℕ) → Bool
found_at s file line = found_run s.found file line

-- of rows from the last one backwards, those of one run of this file and line have a statement
abbrev pub has_statement : (file line : ℕ) → List Row → Bool
has_statement file line [] = false
has_statement file line (s ∷ rows) =
    if not s.end_sequence && (s.file == file && s.line == line)
    then (if s.is_stmt then true else has_statement file line rows) else false

-- it was told these rows
abbrev pub TellsFirst : FirstStatements → List Row → Type 0
TellsFirst s rows = (file line : ℕ) → found_at s file line ≡ has_statement file line (reverse rows)
