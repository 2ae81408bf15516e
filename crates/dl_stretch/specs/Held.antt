-- Runs as they are held: the number of a file in 63 bits, and is_stmt in one.
use Rattle.std.specs.Prelude.{ℕ, ◌+◌, ◌*◌, ◌/◌, ◌%◌, ◌<◌, ◌^◌, ◌==◌, Bool, if◌then◌else◌, min, List, length}
use Rattle.std.specs.List.{All}
use Rattle.dl_stretch.specs.declared.file_and_statement.FileAndStatement.{FileAndStatement}
use Rattle.dl_stretch.specs.declared.run.Run.{Run}
use Rattle.dl_stretch.specs.declared.told.Told.{Told}

-- the number of a file as a run holds it: one above 2^63 - 1 as that
abbrev pub held : ℕ → ℕ
held file = min file 0x7fffffffffffffff

abbrev pub packed : ℕ → Bool → FileAndStatement
packed file is_stmt = record { bits = 2 * held file + (if is_stmt then 1 else 0) }

abbrev pub file_in : FileAndStatement → ℕ
file_in p = p.bits / 2

abbrev pub statement_in : FileAndStatement → Bool
statement_in p = p.bits % 2 == 1

-- what a run tells of each of its addresses
abbrev pub told_by : Run → Told
told_by r = record {
  file = file_in r.file_and_statement;
  line = r.line;
  column = r.column;
  discriminator = r.discriminator;
  is_stmt = statement_in r.file_and_statement;
}

-- runs hold the numbers of a list, and those of the files that have one there
pub record AreHeld (numbers : List ℕ) (other : ℕ) : Type 0 where
  pub few : length numbers < 2 ^ 63
  pub small : All (λ n. n < 2 ^ 63) numbers
  pub other_small : other < 2 ^ 63
