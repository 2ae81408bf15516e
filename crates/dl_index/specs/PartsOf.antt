-- The parts of an index, as they are kept. No promise rests on how this is said.
use Rattle.std.specs.Prelude.{◌≡◌, ℕ, ◌+◌, ◌*◌, ◌≤◌, List, length, take, drop}
use Rattle.dl_index.specs.Columns.{size_of}
use Rattle.dl_index.specs.Layout.{count_in, files_in, texts_in, text_bytes_in, width_in, part}
use Rattle.dl_index.specs.declared.numbers.Numbers.{Numbers}
use Rattle.dl_index.specs.declared.parts.Parts.{Parts}

pub record IsColumn (c : Numbers) (b : List ℕ) (k : ℕ) : Type 0 where
  pub bytes : c.bytes.now ≡ part b k
  pub width : size_of c.width ≡ width_in b k
  pub len : c.len ≡ count_in b

pub record ArePartsOf (p : Parts) (b : List ℕ) : Type 0 where
  pub starts : IsColumn p.starts b 0
  pub files : IsColumn p.files b 1
  pub statements : p.statements.now ≡ part b 5
  pub file_table : p.file_table.now ≡ part b 6
  pub text_table : p.text_table.now ≡ part b 7
  pub texts : p.texts.now ≡ part b 8
  -- where the last one stands
  pub texts_there : part b 8 ≡ take (text_bytes_in b) (drop p.texts_at b)
  pub texts_within : p.texts_at + text_bytes_in b ≤ length b
  -- how long they are
  pub statements_len : count_in b ≤ length p.statements.now * 8
  pub file_table_len : length p.file_table.now ≡ files_in b * 24
  pub text_table_len : length p.text_table.now ≡ texts_in b * 16
  pub texts_len : length p.texts.now ≡ text_bytes_in b
