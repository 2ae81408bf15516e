-- What an index that is open, and an answer of it, show.
use Rattle.std.specs.Prelude.{ℕ, List, [], ◌∷◌, ◌++◌, Option, Some, None}
use Rattle.std.specs.Borrow.{Bor}
use Rattle.dl_index.specs.Stretches.{Told}
use Rattle.dl_index.specs.declared.index.FoundLine.{FoundLine}
use Rattle.dl_index.specs.declared.index.PathTexts.{PathTexts}
use Rattle.dl_index.specs.declared.index.IndexRef.{IndexRef}

-- the bytes of the index
abbrev pub bytes_of : IndexRef → List ℕ
bytes_of i = i.bytes.now

abbrev pub text_told : Option (Bor (List ℕ)) → List (List ℕ)
text_told None = []
text_told (Some text) = text.now ∷ []

abbrev pub texts_told : PathTexts → List (List ℕ)
texts_told texts = text_told texts.first ++ text_told texts.second ++ text_told texts.third

-- what an answer tells
abbrev pub told : FoundLine → Told
told found = record {
  unit = found.unit;
  parts = texts_told found.texts;
  line = found.line;
  column = found.column;
  discriminator = found.discriminator;
  is_stmt = found.is_stmt;
}
