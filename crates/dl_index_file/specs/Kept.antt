-- What is kept of an index that is open. No promise rests on how this is said.
use Rattle.std.specs.Prelude.{◌≡◌, ℕ, ◌+◌, ◌≤◌, List, take, length}
use Rattle.dl_elf.specs.declared.file.Range.{Range}
use Rattle.dl_elf.specs.Elf.{bytes_at}
use Rattle.dl_index.specs.Layout.{build_id_len_in, part}
use Rattle.dl_index.specs.IsIndex.{IsHeaded}
use Rattle.dl_index.specs.Parts.{Reads}
use Rattle.dl_index.specs.declared.header.Header.{Header}
use Rattle.dl_index_file.specs.declared.parts.Places.{Places}
use Rattle.dl_index_file.specs.Places.{ArePlaces}

abbrev pub EndsBy : Range → ℕ → Type 0
EndsBy r most = r.offset + r.size ≤ most

pub record AllEnd (p : Places) (most : ℕ) : Type 0 where
  pub starts : EndsBy p.starts most
  pub files : EndsBy p.files most
  pub lines : EndsBy p.lines most
  pub columns : EndsBy p.columns most
  pub discriminators : EndsBy p.discriminators most
  pub statements : EndsBy p.statements most
  pub file_table : EndsBy p.file_table most
  pub text_table : EndsBy p.text_table most
  pub texts : EndsBy p.texts most

-- of its header, whose bytes are the front of the index
pub record IsKept (h : Header) (p : Places) (front : List ℕ) : Type 0 where
  pub len : length front ≡ 128
  pub reads : Reads h front
  pub build_id : build_id_len_in front ≤ 32
  pub places : ArePlaces p h
  pub end : AllEnd p 18446744073709551615

abbrev pub IsPart : List ℕ → ℕ → Range → Type 0
IsPart b k r = part b k ≡ bytes_at r.offset r.size b

pub record AreParts (p : Places) (b : List ℕ) : Type 0 where
  pub starts : IsPart b 0 p.starts
  pub files : IsPart b 1 p.files
  pub lines : IsPart b 2 p.lines
  pub columns : IsPart b 3 p.columns
  pub discriminators : IsPart b 4 p.discriminators
  pub statements : IsPart b 5 p.statements
  pub file_table : IsPart b 6 p.file_table
  pub text_table : IsPart b 7 p.text_table
  pub texts : IsPart b 8 p.texts

-- of the bytes of the file
pub record StandsIn (h : Header) (p : Places) (f b : List ℕ) : Type 0 where
  pub headed : IsHeaded b
  pub reads : Reads h b
  pub front : f ≡ take 128 b
  pub end : AllEnd p (length b)
  pub parts : AreParts p b
