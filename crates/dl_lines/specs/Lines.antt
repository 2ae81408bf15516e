-- The lines of what is asked.
use Rattle.std.specs.Prelude.{Bool, if◌then◌else◌, ℕ, List, [], ◌∷◌, ◌++◌, flat_map, codes, decimal, Option, Some, None}
use Rattle.dl_print.specs.Text.{line}
use Rattle.dl_path.specs.Shown.{shown}
use Rattle.dl_addr.specs.Locations.{address_text, column_text}
use Rattle.dl_lines.specs.declared.question.Wanted.{Wanted}
use Rattle.dl_lines.specs.Places.{CodePlace}
use Rattle.dl_lines.specs.Answers.{answering, by_address, told_once}

abbrev pub path_text : Option (List ℕ) → List ℕ
path_text None = []
path_text (Some path) = shown path

abbrev pub prologue_text : Bool → List ℕ
prologue_text prologue_end = if prologue_end then codes " prologue" else []

abbrev pub position_text : CodePlace → List ℕ
position_text p = address_text (Some p.address) ++ path_text p.path ++ (codes ":" ++ decimal p.line)

-- the address, the path, the line, and the column where it isn't 0
abbrev pub place_text : CodePlace → List ℕ
place_text p = position_text p ++ column_text p.column ++ prologue_text p.prologue_end

-- of places in order
abbrev pub places_text : List CodePlace → List ℕ
places_text [] = line (codes "??")
places_text (p ∷ places) = flat_map (λ q. line (place_text q)) (told_once [] (p ∷ places))

-- the lines of what is wanted
abbrev pub answer_text : (exact : Bool) → List CodePlace → Wanted → List ℕ
answer_text exact places w = places_text (by_address (answering exact w places))
