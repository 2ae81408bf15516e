-- What the bytes of an index tell, by the stretches that they are made of.
use Rattle.std.specs.Prelude.{◌<◌, List, Option, slice_get}
use Rattle.std.specs.Option.{option_map, option_and_then}
use Rattle.dl_index.specs.Stretches as index
use Rattle.dl_stretch.specs.declared.told.Told.{Told}
use Rattle.dl_stretch.specs.declared.stretch.Stretch.{Stretch}
use Rattle.dl_stretch.specs.Stretches.{Neighbours}
use Rattle.dl_pack.specs.Named.{Named}

-- each stretch begins above the one before it
abbrev pub StretchesRise : List Stretch → Type 0
StretchesRise stretches = Neighbours (λ (s : Stretch) (t : Stretch). s.start < t.start) stretches

-- what is told, in the terms of an index: with this file in the place of its number
abbrev pub told_as : Told → Named → index.Told
told_as t file = record {
  unit = file.unit;
  parts = file.parts;
  line = t.line;
  column = t.column;
  discriminator = t.discriminator;
  is_stmt = t.is_stmt;
}

-- with the file of that number; nothing where there is none of it
abbrev pub named_told : List Named → Told → Option index.Told
named_told files t = option_map (told_as t) (slice_get files t.file)

-- a stretch, in the terms of an index
abbrev pub named_stretch : List Named → Stretch → index.Stretch
named_stretch files s = record { start = s.start; told = option_and_then (named_told files) s.told }
