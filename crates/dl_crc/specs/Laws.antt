-- What the laws of this crate say.
use Rattle.std.specs.Prelude.{◌≡◌, ℕ, List, ◌++◌}
use Rattle.dl_crc.specs.Crc32.{updated, crc_32}

abbrev pub PiecesAreWhole : Type 0
PiecesAreWhole = (a b : List ℕ) → updated (crc_32 a) b ≡ crc_32 (a ++ b)
