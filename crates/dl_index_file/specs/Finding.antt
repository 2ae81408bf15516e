-- What a look-up keeps of an index in a file. No promise rests on how this is said.
use Rattle.std.specs.Prelude.{◌≡◌, ℕ, ◌+◌, ◌<◌, List}
use Rattle.dl_index.specs.Columns.{number_at}
use Rattle.dl_index.specs.Layout.{start_in, width_in}
use Rattle.dl_index_file.specs.declared.finder.KeptAnswer.{KeptAnswer}
use Rattle.dl_index_file.specs.Steps.{StretchTells}

-- the bytes of so many starts, from this one on
abbrev pub HoldsStarts : (b : List ℕ) → (starts : List ℕ) → (first count : ℕ) → Type 0
HoldsStarts b starts first count = (j : ℕ) → j < count → number_at (width_in b 0) starts j ≡ start_in b (first + j)

abbrev pub IsKeptAnswer : List ℕ → KeptAnswer → Type 0
IsKeptAnswer b kept = StretchTells b kept.stretch kept.found
