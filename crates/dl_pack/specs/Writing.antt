-- What is written of stretches. No promise rests on this file.
use Rattle.std.specs.Prelude.{◌≡◌, ℕ, ◌+◌, ◌*◌, ◌<◌, ◌≤◌, ◌^◌, List, [], ◌∷◌, length}
use Rattle.std.specs.List.{concat}
use Rattle.dl_index.specs.Columns.{size_of}
use Rattle.dl_stretch.specs.declared.stretch.Stretch.{Stretch}
use Rattle.dl_pack.specs.declared.columns.Column.{Column}
use Rattle.dl_pack.specs.declared.columns.Column.TheVariants as column
use Rattle.dl_pack.specs.declared.writer.Cursor.{Cursor}
use Rattle.dl_pack.specs.declared.writer.ColumnWriter.{ColumnWriter}
use Rattle.dl_pack.specs.declared.layout.Places.{Places}
use Rattle.dl_pack.specs.declared.totals.Totals.{Totals}
use Rattle.dl_pack.specs.Columns.{column_bytes, column_of, least_size}
use Rattle.dl_pack.specs.Mentioned.{order_of}
use Rattle.dl_pack.specs.Written.{region, bits_in, room_of, bits_room}

-- a column as far as it is written
abbrev pub part_of : ColumnWriter → Cursor → Column → List Stretch → List ℕ
part_of w cursor kind list = column_bytes (size_of cursor.width) (column_of w.base (order_of w.files.now) kind list)

-- that in its room
abbrev pub column_region : ColumnWriter → (count : ℕ) → Cursor → Column → List Stretch → List ℕ
column_region w count cursor kind list = region (room_of count (size_of cursor.width)) (part_of w cursor kind list)

-- the columns, and the bits, in the room of so many stretches, after what stands before them
abbrev pub parts_laid : ColumnWriter → (front : List ℕ) → (count : ℕ) → List Stretch → List (List ℕ)
parts_laid w front count list =
    front ∷ column_region w count w.start column.Start list ∷ column_region w count w.file column.File list
    ∷ column_region w count w.line column.Line list ∷ column_region w count w.column column.Column list
    ∷ column_region w count w.discriminator column.Discriminator list ∷ bits_in (bits_room count) list ∷ []

-- the place after a column
abbrev pub after : (count : ℕ) → Cursor → ℕ
after count cursor = cursor.next + room_of count (size_of cursor.width)

-- nothing is written, and each part has its place
pub record IsFresh (w : ColumnWriter) (front : List ℕ) (count : ℕ) : Type 0 where
  pub start : w.start.next ≡ length front
  pub file : w.file.next ≡ after count w.start
  pub line : w.line.next ≡ after count w.file
  pub column : w.column.next ≡ after count w.line
  pub discriminator : w.discriminator.next ≡ after count w.column
  pub bits : w.bits ≡ after count w.discriminator
  pub written : w.written ≡ 0
  pub bytes : w.bytes.items ≡ concat (parts_laid w front count [])

-- the cursor went on by so many numbers
abbrev pub WentOn : (first now : Cursor) → ℕ → Type 0
WentOn first now k = (now.width ≡ first.width) × (now.next ≡ first.next + k * size_of first.width)

pub record Written (first now : ColumnWriter) (front : List ℕ) (count : ℕ) (list : List Stretch) : Type 0 where
  pub base : now.base ≡ first.base
  pub files : now.files.now ≡ first.files.now
  pub start : WentOn first.start now.start (length list)
  pub file : WentOn first.file now.file (length list)
  pub line : WentOn first.line now.line (length list)
  pub column : WentOn first.column now.column (length list)
  pub discriminator : WentOn first.discriminator now.discriminator (length list)
  pub bits : now.bits ≡ first.bits
  pub written : now.written ≡ length list
  pub bytes : now.bytes.items ≡ concat (parts_laid first front count list)

-- what a writer of so many stretches wrote of the first ones
abbrev pub AreWritten : (first now : ColumnWriter) → List Stretch → Type 0
AreWritten first now list = (front : List ℕ) (count : ℕ) → count < 2 ^ 64 → IsFresh first front count → length list ≤ count
    → Written first now front count list

-- the columns have the least widths of their greatest numbers; that of the files is how many are mentioned
pub record HasWidths (w : ColumnWriter) (t : Totals) : Type 0 where
  pub start : size_of w.start.width ≡ least_size t.starts.greatest
  pub file : size_of w.file.width ≡ least_size (length (order_of t.files.files))
  pub line : size_of w.line.width ≡ least_size t.rows.line
  pub column : size_of w.column.width ≡ least_size t.rows.column
  pub discriminator : size_of w.discriminator.width ≡ least_size t.rows.discriminator

-- the places behind so many bytes
pub record AreLaid (p : Places) (len : ℕ) (t : Totals) : Type 0 where
  pub start : p.start.next ≡ len
  pub file : p.file.next ≡ after t.starts.count p.start
  pub line : p.line.next ≡ after t.starts.count p.file
  pub column : p.column.next ≡ after t.starts.count p.line
  pub discriminator : p.discriminator.next ≡ after t.starts.count p.column
  pub bits : p.bits ≡ after t.starts.count p.discriminator
  pub end : p.end ≡ p.bits + bits_room t.starts.count
  pub few : t.starts.count < 0xffffffffffffffff
  pub start_fits : t.starts.greatest < 2 ^ 64
  pub file_fits : length (order_of t.files.files) < 2 ^ 64
  pub line_fits : t.rows.line < 2 ^ 64
  pub column_fits : t.rows.column < 2 ^ 64
  pub discriminator_fits : t.rows.discriminator < 2 ^ 64
  pub start_width : size_of p.start.width ≡ least_size t.starts.greatest
  pub file_width : size_of p.file.width ≡ least_size (length (order_of t.files.files))
  pub line_width : size_of p.line.width ≡ least_size t.rows.line
  pub column_width : size_of p.column.width ≡ least_size t.rows.column
  pub discriminator_width : size_of p.discriminator.width ≡ least_size t.rows.discriminator

-- the greatest numbers have room in 64 bits
pub record TotalsFit (t : Totals) : Type 0 where
  pub start : t.starts.greatest < 2 ^ 64
  pub file : length (order_of t.files.files) < 2 ^ 64
  pub line : t.rows.line < 2 ^ 64
  pub column : t.rows.column < 2 ^ 64
  pub discriminator : t.rows.discriminator < 2 ^ 64
