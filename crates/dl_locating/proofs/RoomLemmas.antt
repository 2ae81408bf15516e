-- How long the compilation directories of the index of a file are.
use Rattle.std.proofs.Common.{◌≡◌, ◌≤◌, ℕ, List, length, Option, Some, None, refl, ap, ◌∙◌, arith}
use Rattle.std.specs.Prelude.{is_none, option_and_then, MatchOption}
use Rattle.std.specs.Option.{option_map_or}
use Rattle.dl_cmd.specs.Job.{IndexTexts, Text}
use Rattle.dl_dirs.specs.Compilation.{directory_by}
use Rattle.dl_file.specs.InfoTable.{HasInfo, InfoTable}
use Rattle.dl_file.specs.declared.code.Code.{Code}
use Rattle.dl_making.specs.Room.{DirectoriesWithin}
use Rattle.dl_making.specs.declared.making.Table.{Table}
use Rattle.dl_open.specs.Directories.{info_size, said_in}
use Rattle.dl_open.proofs.ShortLemmas.{directories_short}
use Rattle.dl_locating.specs.Compiled.{AreFound, compiled_by}
use Rattle.dl_locating.specs.Indexing.{IsMadeWith}
use Rattle.dl_locating.specs.IndexLaws.{IsDirectoryRoom}

-- by the units of a file
said_short : (t : Option InfoTable) (n : ℕ)
    → option_map_or length (option_and_then (λ t. said_in t n) t) 0 ≤ option_map_or info_size t 0
said_short None n = omega arith
said_short (Some t) n = directories_short t n

module _ (w : IndexTexts) (f : List ℕ) (code : Code) (found : ℕ → Option (List ℕ)) (id : Option (List ℕ)) (table : Table) where
  pub directories_have_room : IsMadeWith w code found id table → AreFound (is_none w.comp_dir) f found
      → (most : ℕ) × IsDirectoryRoom w f most × DirectoriesWithin most table.directories
  directories_have_room made known = by w.comp_dir made.directories known where
    by : (said : Option Text) → ((n : ℕ) → directory_by table.directories n ≡ compiled_by said found n)
        → AreFound (is_none said) f found
        → (most : ℕ) × MatchOption said
        ((t : Option InfoTable) × HasInfo f t × (most ≡ option_map_or info_size t 0)) (λ said. most ≡ length said)
        × DirectoriesWithin most table.directories
    by (Some said) is known = (length said, refl, λ n. omega (arith, ap (λ o. option_map_or length o 0) (is n)))
    by None is (t, has, are) = (
      option_map_or info_size t 0,
      (t, has, refl),
      λ n.
          omega (arith, ap (λ o. option_map_or length o 0) (is n ∙ are n), said_short t n),
    )
