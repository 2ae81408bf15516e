-- Where an index of version 1 has its numbers and its parts. All numbers are little-endian.
use Rattle.std.specs.Prelude.{ℕ, ◌+◌, ◌*◌, ◌/◌, ◌%◌, ◌^◌, ◌==◌, Bool, List, [], ◌∷◌, take, drop, slice_index, slice_index_or}
use Rattle.dl_num.specs.Fixed.{little}
use Rattle.dl_index.specs.Columns.{number_at}

-- the number of `size` bytes from a place on
abbrev pub field : (from size : ℕ) → List ℕ → ℕ
field from size b = little (take size (drop from b))

-- ---- the header, which has 128 bytes

abbrev pub version_in : List ℕ → ℕ
version_in = field 8 4

-- bit 0: each sequence counts
abbrev pub flags_in : List ℕ → ℕ
flags_in = field 12 4

-- how many bytes the whole has
abbrev pub length_in : List ℕ → ℕ
length_in = field 16 8

abbrev pub base_in : List ℕ → ℕ
base_in = field 24 8

-- how many stretches there are, how many files, how many texts, and how many bytes of texts
abbrev pub count_in : List ℕ → ℕ
count_in = field 32 8

abbrev pub files_in : List ℕ → ℕ
files_in = field 40 8

abbrev pub texts_in : List ℕ → ℕ
texts_in = field 48 8

abbrev pub text_bytes_in : List ℕ → ℕ
text_bytes_in = field 56 8

-- the width of column k: starts, files, lines, columns, discriminators
abbrev pub width_in : List ℕ → ℕ → ℕ
width_in b k = slice_index b (64 + k)

abbrev pub build_id_len_in : List ℕ → ℕ
build_id_len_in b = slice_index b 80

abbrev pub build_id_in : List ℕ → List ℕ
build_id_in b = take (build_id_len_in b) (drop 84 b)

-- ---- the parts after it

-- the next multiple of 8
abbrev pub rounded : ℕ → ℕ
rounded n = (n + 7) / 8 * 8

-- how many bytes each part has: five columns, the bits of is_stmt, the files, the texts, and their bytes
abbrev pub sizes : List ℕ → List ℕ
sizes b =
    count_in b * width_in b 0 ∷ count_in b * width_in b 1 ∷ count_in b * width_in b 2 ∷ count_in b * width_in b 3
    ∷ count_in b * width_in b 4 ∷ ((count_in b + 7) / 8) ∷ files_in b * 24 ∷ texts_in b * 16 ∷ text_bytes_in b ∷ []

-- parts of these sizes, one after the other, each of which begins at a multiple of 8
abbrev pub cut_of : List ℕ → List ℕ → List (List ℕ)
cut_of [] b = []
cut_of (n ∷ sizes) b = take n b ∷ cut_of sizes (drop (rounded n) b)

unfoldable pub part : List ℕ → ℕ → List ℕ
part b k = slice_index_or (cut_of (sizes b) (drop 128 b)) k []

-- ---- the numbers in them

-- of stretch k: its start, less the base; its file (0: none, which is a gap); its line, column and discriminator
abbrev pub start_in : List ℕ → ℕ → ℕ
start_in b = number_at (width_in b 0) (part b 0)

abbrev pub file_in : List ℕ → ℕ → ℕ
file_in b = number_at (width_in b 1) (part b 1)

abbrev pub line_in : List ℕ → ℕ → ℕ
line_in b = number_at (width_in b 2) (part b 2)

abbrev pub column_in : List ℕ → ℕ → ℕ
column_in b = number_at (width_in b 3) (part b 3)

abbrev pub discriminator_in : List ℕ → ℕ → ℕ
discriminator_in b = number_at (width_in b 4) (part b 4)

-- a bit for each stretch, from the least bit of the first byte on
abbrev pub is_stmt_in : List ℕ → ℕ → Bool
is_stmt_in b k = slice_index (part b 5) (k / 8) / 2 ^ (k % 8) % 2 == 1

-- of file f, counted from 0: the offset of its unit, and the number of its text k of three (from 1; 0: none)
abbrev pub unit_in : List ℕ → ℕ → ℕ
unit_in b f = field (f * 24) 8 (part b 6)

abbrev pub text_number_in : List ℕ → ℕ → ℕ → ℕ
text_number_in b f k = field (f * 24 + 8 + k * 4) 4 (part b 6)

-- of text t, counted from 0: its place in the bytes of texts, and its length
abbrev pub text_place_in : List ℕ → ℕ → ℕ
text_place_in b t = field (t * 16) 8 (part b 7)

abbrev pub text_len_in : List ℕ → ℕ → ℕ
text_len_in b t = field (t * 16 + 8) 8 (part b 7)
