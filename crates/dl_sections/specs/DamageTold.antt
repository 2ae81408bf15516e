-- The damaged units of which visits tell. No promise rests on this file.
use Rattle.std.specs.Prelude.{List, [], ◌∷◌, flat_map}
use Rattle.dl_sections.specs.declared.around.Damage.{Damage}
use Rattle.dl_sections.specs.Section.{Visit, of_damage}

abbrev pub damage_of_visit : Visit → List Damage
damage_of_visit (of_damage unit offset kind) = record { offset = offset; kind = kind } ∷ []
damage_of_visit other = []

abbrev pub damages_told : List Visit → List Damage
damages_told visits = flat_map damage_of_visit visits
