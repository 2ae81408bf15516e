-- Files and texts that are more than an index has numbers for.
use Rattle.std.specs.Prelude.{◌≡◌, ℕ, ◌<◌, ◌^◌, List, Option, map}
use Rattle.std.specs.Option.{option_and_then}
use Rattle.dl_index.specs.Stretches.{Told}
use Rattle.dl_stretch.specs.declared.stretch.Stretch.{Stretch}
use Rattle.dl_stretch.specs.Laws.{AtAddresses}
use Rattle.dl_stretch.specs.Stretches.{Apart, Neighbours, told_at}
use Rattle.dl_pack.specs.declared.names.FileTexts.{FileTexts}
use Rattle.dl_pack.specs.Faults.{TellsTooMany}
use Rattle.dl_pack.specs.Named.{Once, named}
use Rattle.dl_pack.specs.Telling.{named_told}

-- f is told by stretches that are as long as can be, whose files each stand for another one; these files are 2^32 or more,
-- or have so many texts
pub record TellsMany (f : ℕ → Option Told) : Type 0 where
  pub stretches : List Stretch
  pub files : List FileTexts
  pub texts : List (List ℕ)
  pub right : (a : ℕ) → a < 2 ^ 64 → option_and_then (named_told (map (named texts) files)) (told_at stretches a) ≡ f a
  pub apart : Neighbours Apart stretches
  pub starts : AtAddresses stretches
  pub once : Once (map (named texts) files)
  pub many : TellsTooMany files stretches
