-- Directories in memory.
use Rattle.std.specs.Prelude.{ℕ, List, Option}
use Rattle.dl_dirs.specs.declared.directories.Directories.{Directories}
use Rattle.dl_dirs.specs.Holding.{directory_kept}
use Rattle.dl_dirs.specs.Texts.{texts_of}

-- the directory of the line table at an offset, where it is known
unfoldable pub directory_at : Directories → (offset : ℕ) → Option (List ℕ)
directory_at d offset = directory_kept (texts_of d.texts) d.places offset
