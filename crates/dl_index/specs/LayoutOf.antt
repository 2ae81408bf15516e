-- The layout of an index: what its numbers are of the bytes.
use Rattle.std.specs.Prelude.{◌≡◌, ℕ, ◌+◌, ◌*◌, ◌/◌, List}
use Rattle.dl_index.specs.Columns.{size_of}
use Rattle.dl_index.specs.IsIndex.{IsLaidOut}
use Rattle.dl_index.specs.Layout.{base_in, count_in, files_in, texts_in, text_bytes_in, width_in, rounded}
use Rattle.dl_index.specs.declared.header.Header.{Header}
use Rattle.dl_index.specs.declared.layout.Layout.{Layout}

pub record HasSizes (l : Layout) (b : List ℕ) : Type 0 where
  pub base : l.base ≡ base_in b
  pub count : l.count ≡ count_in b
  pub files : l.files ≡ files_in b
  pub texts : l.texts ≡ texts_in b
  pub text_bytes : l.text_bytes ≡ text_bytes_in b

pub record HasLayoutWidths (l : Layout) (b : List ℕ) : Type 0 where
  pub starts : l.starts_width ≡ width_in b 0
  pub files : l.files_width ≡ width_in b 1
  pub lines : l.lines_width ≡ width_in b 2
  pub columns : l.columns_width ≡ width_in b 3
  pub discriminators : l.discriminators_width ≡ width_in b 4

-- the bytes are laid out as an index, and these are the numbers of their header
pub record IsLayoutOf (l : Layout) (b : List ℕ) : Type 0 where
  pub laid_out : IsLaidOut b
  pub sizes : HasSizes l b
  pub widths : HasLayoutWidths l b

-- ---- inside the crate

-- how many bytes an index with this header has
abbrev pub header_len : Header → ℕ
header_len h =
    128 + rounded (h.count * size_of h.widths.starts) + rounded (h.count * size_of h.widths.files)
    + rounded (h.count * size_of h.widths.lines) + rounded (h.count * size_of h.widths.columns)
    + rounded (h.count * size_of h.widths.discriminators) + rounded ((h.count + 7) / 8) + rounded (h.files * 24)
    + rounded (h.texts * 16) + rounded h.text_bytes

-- the numbers are those of a header
pub record IsByHeader (l : Layout) (h : Header) : Type 0 where
  pub base : l.base ≡ h.base
  pub count : l.count ≡ h.count
  pub files : l.files ≡ h.files
  pub texts : l.texts ≡ h.texts
  pub text_bytes : l.text_bytes ≡ h.text_bytes
  pub starts : l.starts_width ≡ size_of h.widths.starts
  pub files_width : l.files_width ≡ size_of h.widths.files
  pub lines : l.lines_width ≡ size_of h.widths.lines
  pub columns : l.columns_width ≡ size_of h.widths.columns
  pub discriminators : l.discriminators_width ≡ size_of h.widths.discriminators
