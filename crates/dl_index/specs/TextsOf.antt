-- The texts of a file of an index, and where they stand. No promise rests on how this is said.
use Rattle.std.specs.Prelude.{◌≡◌, ℕ, List, [], ◌∷◌, Some}
use Rattle.dl_index.specs.Layout.{text_number_in}
use Rattle.dl_index.specs.Shown.{text_told, texts_told}
use Rattle.dl_index.specs.Telling.{text_in}
use Rattle.dl_index.specs.TextPlaces.{StandsAt}
use Rattle.dl_index.specs.declared.index.PathTexts.{PathTexts}
use Rattle.dl_index.specs.declared.index.PlacedPath.{PlacedPath}
use Rattle.dl_index.specs.declared.index.PlacedText.{PlacedText}
use Rattle.dl_index.specs.declared.index.TextPlaces.{TextPlaces}

-- what a text, or a path, tells, wherever it stands
abbrev pub placed_told : PlacedText → List (List ℕ)
placed_told placed = text_told placed.text

abbrev pub path_told : PlacedPath → List (List ℕ)
path_told path = texts_told path.texts

-- the texts of file f, by their numbers
pub record AreTextsOf (b : List ℕ) (f : ℕ) (texts : PathTexts) : Type 0 where
  pub first : text_in b (text_number_in b f 0) ≡ Some (text_told texts.first)
  pub second : text_in b (text_number_in b f 1) ≡ Some (text_told texts.second)
  pub third : text_in b (text_number_in b f 2) ≡ Some (text_told texts.third)

-- the text of a number, where there is one, stands at this place
abbrev pub IsPlaceOf : List ℕ → (number place : ℕ) → Type 0
IsPlaceOf b number place = (text : List ℕ) → text_in b number ≡ Some (text ∷ []) → StandsAt b place text

-- those of file f stand at these
pub record ArePlacesOf (b : List ℕ) (f : ℕ) (places : TextPlaces) : Type 0 where
  pub first : IsPlaceOf b (text_number_in b f 0) places.first
  pub second : IsPlaceOf b (text_number_in b f 1) places.second
  pub third : IsPlaceOf b (text_number_in b f 2) places.third
