-- What is read of the header of an index, and how long its parts are by that.
use Rattle.std.specs.Prelude.{◌≡◌, ℕ, ◌+◌, ◌*◌, ◌/◌, ◌≤◌, List, [], ◌∷◌, length, map, sum}
use Rattle.dl_index.specs.Columns.{size_of}
use Rattle.dl_index.specs.Layout.{base_in, count_in, files_in, texts_in, text_bytes_in, width_in, build_id_len_in, rounded}
use Rattle.dl_index.specs.declared.header.Widths.{Widths}
use Rattle.dl_index.specs.declared.header.Header.{Header}

pub record HasWidths (w : Widths) (b : List ℕ) : Type 0 where
  pub starts : size_of w.starts ≡ width_in b 0
  pub files : size_of w.files ≡ width_in b 1
  pub lines : size_of w.lines ≡ width_in b 2
  pub columns : size_of w.columns ≡ width_in b 3
  pub discriminators : size_of w.discriminators ≡ width_in b 4

pub record Reads (h : Header) (b : List ℕ) : Type 0 where
  pub base : h.base ≡ base_in b
  pub count : h.count ≡ count_in b
  pub files : h.files ≡ files_in b
  pub texts : h.texts ≡ texts_in b
  pub text_bytes : h.text_bytes ≡ text_bytes_in b
  pub widths : HasWidths h.widths b

-- how many bytes each part has by a header
abbrev pub header_sizes : Header → List ℕ
header_sizes h =
    h.count * size_of h.widths.starts ∷ h.count * size_of h.widths.files ∷ h.count * size_of h.widths.lines
    ∷ h.count * size_of h.widths.columns ∷ h.count * size_of h.widths.discriminators ∷ ((h.count + 7) / 8)
    ∷ h.files * 24 ∷ h.texts * 16 ∷ h.text_bytes ∷ []

-- the parts of a header with these first bytes fill so many bytes
pub record Fits (h : Header) (front : List ℕ) (len : ℕ) : Type 0 where
  pub enough : 128 ≤ length front
  pub reads : Reads h front
  pub build_id : build_id_len_in front ≤ 32
  pub end : 128 + sum (map rounded (header_sizes h)) ≡ len
