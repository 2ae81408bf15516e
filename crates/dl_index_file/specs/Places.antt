-- Where the parts of an index stand, as they are kept. No promise rests on how this is said.
use Rattle.std.specs.Prelude.{◌≡◌, ℕ, ◌+◌, ◌*◌, ◌/◌}
use Rattle.dl_elf.specs.declared.file.Range.{Range}
use Rattle.dl_index.specs.Columns.{size_of}
use Rattle.dl_index.specs.Layout.{rounded}
use Rattle.dl_index.specs.declared.header.Header.{Header}
use Rattle.dl_index_file.specs.declared.parts.Places.{Places}

pub record IsRange (r : Range) (from len : ℕ) : Type 0 where
  pub offset : r.offset ≡ from
  pub size : r.size ≡ len

-- where the next part begins
abbrev pub behind : Range → ℕ
behind r = r.offset + rounded r.size

pub record ArePlaces (p : Places) (h : Header) : Type 0 where
  pub starts : IsRange p.starts 128 (h.count * size_of h.widths.starts)
  pub files : IsRange p.files (behind p.starts) (h.count * size_of h.widths.files)
  pub lines : IsRange p.lines (behind p.files) (h.count * size_of h.widths.lines)
  pub columns : IsRange p.columns (behind p.lines) (h.count * size_of h.widths.columns)
  pub discriminators : IsRange p.discriminators (behind p.columns) (h.count * size_of h.widths.discriminators)
  pub statements : IsRange p.statements (behind p.discriminators) ((h.count + 7) / 8)
  pub file_table : IsRange p.file_table (behind p.statements) (h.files * 24)
  pub text_table : IsRange p.text_table (behind p.file_table) (h.texts * 16)
  pub texts : IsRange p.texts (behind p.text_table) h.text_bytes
