-- The parts of a path, seen as the path.
use Rattle.std.specs.Prelude.{ℕ, List}
use Rattle.dl_path.specs.declared.path.Path.{Path}
use Rattle.dl_path.specs.Paths.{under}
use Rattle.dl_path.specs.PathTexts.{FileParts}

-- the parts, one by one
abbrev pub path_apart : Path → FileParts
path_apart p = record { base = p.base.now; directory = p.directory.now; name = p.name.now }

abbrev pub path_seen : Path → List ℕ
path_seen p = under (under p.base.now p.directory.now) p.name.now
