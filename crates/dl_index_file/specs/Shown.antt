-- What an answer shows, of a file with these bytes.
use Rattle.std.specs.Prelude.{ℕ, ◌+◌, ◌≤◌, List, [], ◌∷◌, ◌++◌, length, Option, Some, None, IfSome}
use Rattle.dl_elf.specs.Elf.{bytes_at}
use Rattle.dl_elf.specs.declared.file.Range.{Range}
use Rattle.dl_index.specs.Stretches.{Told}
use Rattle.dl_index_file.specs.declared.index.FileFound.{FileFound}
use Rattle.dl_index_file.specs.declared.index.TextPlaces.{TextPlaces}

abbrev pub text_shown : List ℕ → Option Range → List (List ℕ)
text_shown b None = []
text_shown b (Some place) = bytes_at place.offset place.size b ∷ []

abbrev pub texts_shown : List ℕ → TextPlaces → List (List ℕ)
texts_shown b texts = text_shown b texts.first ++ text_shown b texts.second ++ text_shown b texts.third

-- what an answer tells
abbrev pub shown : List ℕ → FileFound → Told
shown b found = record {
  unit = found.unit;
  parts = texts_shown b found.texts;
  line = found.line;
  column = found.column;
  discriminator = found.discriminator;
  is_stmt = found.is_stmt;
}

-- a text lies in the file
abbrev pub Lies : List ℕ → Option Range → Type 0
Lies b text = IfSome text (λ place. place.offset + place.size ≤ length b)

pub record TextsLie (b : List ℕ) (texts : TextPlaces) : Type 0 where
  pub first : Lies b texts.first
  pub second : Lies b texts.second
  pub third : Lies b texts.third
