-- For how many bytes or items the making of an index wants memory at most.
use Rattle.std.specs.Prelude.{ℕ, ◌+◌, ◌*◌, List, length}
use Rattle.dl_stretch.specs.declared.stretch.Stretch.{Stretch}
use Rattle.dl_pack.specs.declared.names.FileTexts.{FileTexts}
use Rattle.dl_pack.specs.IndexOf.{file_order, text_order}
use Rattle.dl_pack.specs.Tables.{texts_at, total_len}

-- of the tables of files and of texts that are mentioned in these orders: 24 bytes for a file, 16 for a text, and its bytes
abbrev pub tables_room : (file_order text_order : List ℕ) (texts : List (List ℕ)) → ℕ
tables_room files_first texts_first texts =
    24 * length files_first + 16 * length texts_first + total_len (texts_at texts texts_first) + 21

-- of an index, which has 41 bytes at most for a stretch; of the files and texts that have names a number each is held
abbrev pub index_room : List Stretch → List FileTexts → List (List ℕ) → ℕ
index_room stretches files texts =
    171 + 41 * length stretches + tables_room (file_order stretches) (text_order files (file_order stretches)) texts
    + length files + length texts
