-- The bytes of a text that is kept. No promise rests on this file.
use Rattle.std.specs.Prelude.{ℕ, List}
use Rattle.dl_addr.specs.declared.kept.KeptBytes.{KeptBytes}
use Rattle.dl_addr.specs.declared.kept.KeptBytes.TheVariants.{Lent, Copied}

abbrev pub bytes_seen : KeptBytes → List ℕ
bytes_seen (Lent w) = w.now
bytes_seen (Copied v) = v.items
