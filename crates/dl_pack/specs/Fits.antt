-- What has room in numbers of 32 and of 64 bits, since it is kept in them. No promise rests on this file.
use Rattle.std.specs.Prelude.{ℕ, ◌<◌, ◌^◌, List, length, drop, get_or}
use Rattle.std.specs.List.{All}
use Rattle.dl_crc.specs.Crc32.{crc_32}
use Rattle.dl_index.specs.IsIndex.{summed_header}
use Rattle.dl_stretch.specs.declared.stretch.Stretch.{Stretch}
use Rattle.dl_stretch.specs.Laws.{AtAddresses}
use Rattle.dl_pack.specs.declared.names.FileTexts.{FileTexts}
use Rattle.dl_pack.specs.Within.{HasTexts}
use Rattle.dl_pack.specs.Columns.{column_of, columns_of, greatest}
use Rattle.dl_pack.specs.Tables.{no_file, texts_at, total_len}
use Rattle.dl_pack.specs.IndexOf.{base_of}

-- a file has an offset of 64 bits, and texts that there are
pub record IsKnown (count : ℕ) (f : FileTexts) : Type 0 where
  pub unit : f.unit < 2 ^ 64
  pub texts : HasTexts count f

-- the files at these places
abbrev pub AreKnown : List FileTexts → (count : ℕ) → List ℕ → Type 0
AreKnown files count order = All (λ place. IsKnown count (get_or files place no_file)) order

-- the numbers of each column
abbrev pub NumbersFit : (base : ℕ) → List ℕ → List Stretch → Type 0
NumbersFit base order stretches = All (λ kind. greatest (column_of base order kind stretches) < 2 ^ 64) columns_of

-- the length and the sums of an index
pub record SumsFit (b : List ℕ) : Type 0 where
  pub len : length b < 2 ^ 64
  pub header : crc_32 (summed_header b) < 2 ^ 32
  pub body : crc_32 (drop 128 b) < 2 ^ 32

-- what an index is made of, with files and texts in these orders
pub record GivenFits (files_first texts_first : List ℕ) (stretches : List Stretch) (files : List FileTexts) (texts : List (List ℕ)) : Type 0 where
  pub starts : AtAddresses stretches
  pub numbers : NumbersFit (base_of stretches) files_first stretches
  pub known : AreKnown files (length texts) files_first
  pub count : length stretches < 2 ^ 64
  pub files_few : length files_first < 2 ^ 32
  pub texts_few : length texts_first < 2 ^ 32
  pub total : total_len (texts_at texts texts_first) < 2 ^ 64
