-- What a listener of a unit's events hears.
use Rattle.std.specs.Prelude.{List, ◌++◌}
use Rattle.dl_rows.specs.declared.reader.Event.{Event}

-- where it had heard some events, it has heard these after them
abbrev pub Hears : {S : Type 0} → (S → List Event → Type 0) → S → S → List Event → Type 0
Hears Heard old new heard = (events : List Event) → Heard old events → Heard new (events ++ heard)
