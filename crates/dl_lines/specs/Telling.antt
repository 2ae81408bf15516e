-- The places of searches that are told and not printed. No promise rests on this file.
use Rattle.std.specs.Prelude.{◌≡◌, ◌⊎◌, ℕ, if◌then◌else◌, List, [], ◌∷◌, map, get_or, Result, Err}
use Rattle.dl_sections.specs.declared.fault.RunFault.{RunFault}
use Rattle.dl_sections.specs.declared.fault.RunFault.TheVariants as fault
use Rattle.dl_lines.specs.declared.places.FoundPlaces.{FoundPlaces}
use Rattle.dl_lines.specs.declared.places.LinePlace.{LinePlace}
use Rattle.dl_lines.specs.declared.search.Search.{Search}
use Rattle.dl_lines.specs.Answers.{told_once}
use Rattle.dl_lines.specs.FoundPlaces.{place_told}
use Rattle.dl_lines.specs.Places.{CodePlace}
use Rattle.dl_lines.specs.Printing.{found_places, is_told_before, no_place}

-- the place of this number, where none before is the same
abbrev pub once_place : List CodePlace → (number : ℕ) → List CodePlace
once_place places number = if is_told_before places number then [] else get_or places number no_place ∷ []

abbrev pub search_places : Search → List LinePlace
search_places s = map place_told (told_once [] (found_places s))

-- memory was refused
abbrev pub IsNothing : {A : Type 0} → FoundPlaces A → Type 0
IsNothing found = (found.end ≡ Err fault.NoMemory) × (found.places.items ≡ [])

-- memory was refused, and nothing is told; or the places are
abbrev pub IsCollected : {A : Type 0} → (Refused : Type 0) → List LinePlace → Result A RunFault → FoundPlaces A → Type 0
IsCollected Refused places ended found =
    (IsNothing found × Refused) ⊎ ((found.end ≡ ended) × (found.places.items ≡ places))
