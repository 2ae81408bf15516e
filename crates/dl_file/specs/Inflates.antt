-- A stream that was fed. No promise rests on how this is said.
use Rattle.std.specs.Prelude.{ℕ, List}
use Rattle.dl_zlib.specs.StreamStands.{StandsFor}
use Rattle.dl_zlib.specs.declared.inflate.Inflate.{Inflate}

-- it stands for some bytes
abbrev pub Inflates : Inflate → Type 0
Inflates inflate = (bytes : List ℕ) × (gone : List ℕ) × StandsFor inflate bytes gone
