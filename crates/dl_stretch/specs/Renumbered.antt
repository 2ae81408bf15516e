-- Runs with other numbers of their files. No promise rests on this file.
use Rattle.std.specs.Prelude.{ℕ}
use Rattle.dl_stretch.specs.declared.run.Run.{Run}
use Rattle.dl_stretch.specs.Held.{packed, file_in, statement_in}

abbrev pub renumbered_run : (ℕ → ℕ) → Run → Run
renumbered_run number r = record r {
  file_and_statement = packed (number (file_in r.file_and_statement)) (statement_in r.file_and_statement);
}
