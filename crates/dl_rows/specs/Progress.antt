-- How a reader goes on. No promise rests on how this is said.
use Rattle.std.specs.Prelude.{ℕ}
use Rattle.dl_rows.specs.declared.reader.Reader.{Reader}
use Rattle.dl_rows.specs.ReaderStates.{taken_in}

-- how many bytes the reader has taken
abbrev pub taken_of : Reader → ℕ
taken_of r = taken_in r.state
