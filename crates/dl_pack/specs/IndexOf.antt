-- The bytes of an index of version 1, as they are written.
use Rattle.std.specs.Prelude.{ℕ, zero, suc, ◌+◌, ◌-◌, Bool, List, [], ◌∷◌, ◌++◌, if◌then◌else◌, length, map, get_or, replicate, codes}
use Rattle.std.specs.Prelude.{Option, Some, None}
use Rattle.std.specs.List.{flat_map, concat}
use Rattle.dl_num.specs.Fixed.{little_bytes}
use Rattle.dl_crc.specs.Crc32.{crc_32}
use Rattle.dl_stretch.specs.declared.told.Told.{Told}
use Rattle.dl_stretch.specs.declared.stretch.Stretch.{Stretch}
use Rattle.dl_pack.specs.declared.names.FileTexts.{FileTexts}
use Rattle.dl_pack.specs.Numbering.{mentioned}
use Rattle.dl_pack.specs.Columns.{padded, column_bytes, columns_of, width_by, part_by, statement_bytes}
use Rattle.dl_pack.specs.Tables.{no_file, file_table, text_entries, texts_at, total_len}

-- ---- the order of files and texts

abbrev pub told_files : Option Told → List ℕ
told_files None = []
told_files (Some told) = told.file ∷ []

abbrev pub files_of_stretch : Stretch → List ℕ
files_of_stretch s = told_files s.told

abbrev pub files_told : List Stretch → List ℕ
files_told stretches = flat_map files_of_stretch stretches

-- files in the order in which stretches first name them
abbrev pub file_order : List Stretch → List ℕ
file_order stretches = mentioned [] (files_told stretches)

-- the place of the text of a number, counted from 1; none for 0
abbrev pub text_place : ℕ → List ℕ
text_place zero = []
text_place (suc place) = place ∷ []

-- those of the three texts of a file
abbrev pub file_places : FileTexts → List ℕ
file_places f =
    text_place (get_or f.texts 0 0) ++ (text_place (get_or f.texts 1 0) ++ text_place (get_or f.texts 2 0))

-- texts in the order in which the files at these places first name them
abbrev pub text_order : List FileTexts → List ℕ → List ℕ
text_order files order = mentioned [] (flat_map (λ place. file_places (get_or files place no_file)) order)

-- ---- the parts after the header

abbrev pub base_of : List Stretch → ℕ
base_of [] = 0
base_of (first ∷ stretches) = first.start

abbrev pub texts_told : List Stretch → List FileTexts → List (List ℕ) → List (List ℕ)
texts_told stretches files texts = texts_at texts (text_order files (file_order stretches))

-- files, texts, and their bytes, of files and texts in these orders
abbrev pub tables_by : (file_order text_order : List ℕ) → List FileTexts → List (List ℕ) → List (List ℕ)
tables_by files_first texts_first files texts =
    file_table files files_first texts_first ∷ text_entries 0 (texts_at texts texts_first)
    ∷ concat (texts_at texts texts_first) ∷ []

-- five columns, the bits of is_stmt, files, texts, and their bytes
abbrev pub parts_by : (base : ℕ) → (file_order text_order : List ℕ) → List Stretch → List FileTexts → List (List ℕ)
    → List (List ℕ)
parts_by base files_first texts_first stretches files texts =
    map (part_by base files_first stretches) columns_of
    ++ (statement_bytes stretches ∷ tables_by files_first texts_first files texts)

abbrev pub body_by : (base : ℕ) → (file_order text_order : List ℕ) → List Stretch → List FileTexts → List (List ℕ) → List ℕ
body_by base files_first texts_first stretches files texts =
    flat_map padded (parts_by base files_first texts_first stretches files texts)

abbrev pub body_of : List Stretch → List FileTexts → List (List ℕ) → List ℕ
body_of stretches files texts =
    body_by (base_of stretches) (file_order stretches) (text_order files (file_order stretches)) stretches files texts

-- ---- the header

-- the first 76 bytes
abbrev pub header_front : (flags : ℕ) → (numbers widths : List ℕ) → (sum : ℕ) → List ℕ
header_front flags numbers widths sum =
    codes "dlineidx" ++ (little_bytes 4 1 ++ (little_bytes 4 flags ++ (column_bytes 8 numbers
    ++ (widths ++ ((0 ∷ 0 ∷ 0 ∷ []) ++ little_bytes 4 sum)))))

-- the last 48: the build ID
abbrev pub header_back : List ℕ → List ℕ
header_back build_id =
    little_bytes 1 (length build_id) ++ ((0 ∷ 0 ∷ 0 ∷ []) ++ (build_id ++ replicate (44 - length build_id) 0))

-- with its own sum between them
abbrev pub header_with : List ℕ → List ℕ → ℕ → List ℕ
header_with front build_id sum = front ++ (little_bytes 4 sum ++ header_back build_id)

-- that sum is of the header with 0 in its place
abbrev pub header_of : List ℕ → List ℕ → List ℕ
header_of front build_id = header_with front build_id (crc_32 (header_with front build_id 0))

-- ---- the whole

-- of a body, with its length, the base, and how many stretches, files, texts and bytes of texts there are
abbrev pub whole_of : (flags base count files texts text_bytes : ℕ) → (widths build_id body : List ℕ) → List ℕ
whole_of flags base count files texts text_bytes widths build_id body =
    header_of (header_front flags ((128 + length body) ∷ base ∷ count ∷ files ∷ texts ∷ text_bytes ∷ []) widths (crc_32 body))
    build_id ++ body

abbrev pub index_by : (all : Bool) → (build_id : List ℕ) → (file_order text_order : List ℕ) → List Stretch → List FileTexts
    → List (List ℕ) → List ℕ
index_by all build_id files_first texts_first stretches files texts =
    whole_of (if all then 1 else 0) (base_of stretches) (length stretches) (length files_first) (length texts_first)
    (total_len (texts_at texts texts_first)) (map (width_by (base_of stretches) files_first stretches) columns_of) build_id
    (body_by (base_of stretches) files_first texts_first stretches files texts)

-- the index of stretches, of which each file stands for the one at that place, and each text for the one before it
abbrev pub index_of : (all : Bool) → (build_id : List ℕ) → List Stretch → List FileTexts → List (List ℕ) → List ℕ
index_of all build_id stretches files texts =
    index_by all build_id (file_order stretches) (text_order files (file_order stretches)) stretches files texts
