-- What sinks of stretches are told.
use Rattle.std.specs.Prelude.{List, ◌++◌}
use Rattle.dl_stretch.specs.declared.stretch.Stretch.{Stretch}

-- the sink was told these more
abbrev pub HearsMore : {S : Type 0} → (S → S → List Stretch → Type 0) → (old new : S) → List Stretch → Type 0
HearsMore {S} hears old new more = (first : S) (told : List Stretch) → hears first old told → hears first new (told ++ more)
