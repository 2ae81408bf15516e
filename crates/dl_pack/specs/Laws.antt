-- What the laws of this crate say.
use Rattle.std.specs.Prelude.{◌≡◌, ℕ, List, map}
use Rattle.std.specs.Option.{option_and_then}
use Rattle.dl_index.specs.Stretches as index
use Rattle.dl_index.specs.Telling.{stretches_in, find_in}
use Rattle.dl_stretch.specs.declared.stretch.Stretch.{Stretch}
use Rattle.dl_stretch.specs.Stretches.{Neighbours, Apart, told_at}
use Rattle.dl_pack.specs.Named.{Named}
use Rattle.dl_pack.specs.Telling.{StretchesRise, named_told, named_stretch}

-- stretches whose neighbours are apart rise
abbrev pub ApartRise : Type 0
ApartRise = (stretches : List Stretch) → Neighbours Apart stretches → StretchesRise stretches

-- stretches in the terms of an index tell of each address what they did, in these terms
abbrev pub NamedAreTold : Type 0
NamedAreTold =
    (files : List Named) (stretches : List Stretch) (a : ℕ)
    → index.told_at (map (named_stretch files) stretches) a ≡ option_and_then (named_told files) (told_at stretches a)

-- bytes that have them answer each address so
abbrev pub NamedAreFound : Type 0
NamedAreFound =
    (b : List ℕ) (files : List Named) (stretches : List Stretch)
    → stretches_in b ≡ map (named_stretch files) stretches → (a : ℕ)
    → (find_in b a ≡ index.told_at (map (named_stretch files) stretches) a)
    × (find_in b a ≡ option_and_then (named_told files) (told_at stretches a))
