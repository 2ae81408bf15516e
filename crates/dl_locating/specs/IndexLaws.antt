-- A law of the index of a file. f: the bytes of the file.
use Rattle.std.specs.Prelude.{◌≡◌, ℕ, is_none, List, length, Option, MatchOption}
use Rattle.std.specs.Option.{option_map_or}
use Rattle.dl_cmd.specs.Job.{IndexTexts}
use Rattle.dl_file.specs.InfoTable.{HasInfo, InfoTable}
use Rattle.dl_file.specs.declared.code.Code.{Code}
use Rattle.dl_making.specs.Room.{DirectoriesWithin}
use Rattle.dl_making.specs.declared.making.Table.{Table}
use Rattle.dl_open.specs.Directories.{info_size}
use Rattle.dl_locating.specs.Compiled.{AreFound}
use Rattle.dl_locating.specs.Indexing.{IsMadeWith}

-- how long the compilation directories of an index are at most: as the one that the words say, or else as all sections of the
-- file by which they are known, where it has units
abbrev pub IsDirectoryRoom : IndexTexts → (f : List ℕ) → ℕ → Type 0
IsDirectoryRoom w f most = MatchOption w.comp_dir
    ((t : Option InfoTable) × HasInfo f t × (most ≡ option_map_or info_size t 0))
    (λ said. most ≡ length said)

-- what the index of a file is made with has no longer ones
abbrev pub DirectoriesHaveRoom : Type 0
DirectoriesHaveRoom = (w : IndexTexts) (f : List ℕ) (code : Code) (found : ℕ → Option (List ℕ)) (id : Option (List ℕ))
    (table : Table) → IsMadeWith w code found id table → AreFound (is_none w.comp_dir) f found
    → (most : ℕ) × IsDirectoryRoom w f most × DirectoriesWithin most table.directories
