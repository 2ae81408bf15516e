-- The columns of an index, and its bits, as they are written.
use Rattle.std.specs.Prelude.{ℕ, ◌+◌, ◌*◌, ◌-◌, ◌/◌, ◌^◌, List, [], ◌∷◌, ◌++◌, if◌then◌else◌, nat_lt, length, map, max, slice_get, replicate}
use Rattle.std.specs.Prelude.{Option, Some, None}
use Rattle.std.specs.List.{flat_map, range_with_len}
use Rattle.std.specs.Option.{option_and_then}
use Rattle.dl_num.specs.Fixed.{little_bytes}
use Rattle.dl_index.specs.Layout.{rounded}
use Rattle.dl_stretch.specs.declared.told.Told.{Told}
use Rattle.dl_stretch.specs.declared.stretch.Stretch.{Stretch}
use Rattle.dl_pack.specs.Numbering.{number_in}
use Rattle.dl_pack.specs.declared.columns.Column.{Column}
use Rattle.dl_pack.specs.declared.columns.Column.TheVariants as column

-- a part with 0 behind it up to the next multiple of 8
abbrev pub padded : List ℕ → List ℕ
padded part = part ++ replicate (rounded (length part) - length part) 0

-- numbers of one size, one after the other
abbrev pub column_bytes : (size : ℕ) → List ℕ → List ℕ
column_bytes size numbers = flat_map (little_bytes size) numbers

-- the least size of a number: 1, 2, 4 or 8 bytes
abbrev pub least_size : ℕ → ℕ
least_size n = if nat_lt n (2 ^ 8) then 1 else if nat_lt n (2 ^ 16) then 2 else if nat_lt n (2 ^ 32) then 4 else 8

abbrev pub greatest : List ℕ → ℕ
greatest [] = 0
greatest (n ∷ numbers) = max n (greatest numbers)

-- the number that what is told has in a column, 0 of a gap; files have their numbers by the order of first mention
abbrev pub told_number : List ℕ → Column → Option Told → ℕ
told_number order kind None = 0
told_number order column.Start (Some told) = 0
told_number order column.File (Some told) = number_in order told.file
told_number order column.Line (Some told) = told.line
told_number order column.Column (Some told) = told.column
told_number order column.Discriminator (Some told) = told.discriminator

-- the number of a stretch in a column; starts are less the base
abbrev pub number_of : (base : ℕ) → List ℕ → Column → Stretch → ℕ
number_of base order column.Start s = s.start - base
number_of base order kind s = told_number order kind s.told

abbrev pub column_of : (base : ℕ) → List ℕ → Column → List Stretch → List ℕ
column_of base order kind stretches = map (number_of base order kind) stretches

-- the five columns
abbrev pub columns_of : List Column
columns_of = column.Start ∷ column.File ∷ column.Line ∷ column.Column ∷ column.Discriminator ∷ []

-- the least width of a column
abbrev pub width_by : (base : ℕ) → List ℕ → List Stretch → Column → ℕ
width_by base order stretches kind = least_size (greatest (column_of base order kind stretches))

-- a column in that width
abbrev pub part_by : (base : ℕ) → List ℕ → List Stretch → Column → List ℕ
part_by base order stretches kind =
    column_bytes (width_by base order stretches kind) (column_of base order kind stretches)

-- ---- bits, from the least one of each byte on

abbrev pub told_bit : Option Told → ℕ
told_bit None = 0
told_bit (Some told) = if told.is_stmt then 1 else 0

-- 1 where the row is a recommended place for a breakpoint; 0 of a gap, and where there is no stretch
abbrev pub statement_bit : Option Stretch → ℕ
statement_bit stretch = told_bit (option_and_then (λ (s : Stretch). s.told) stretch)

abbrev pub bit_at : List Stretch → ℕ → ℕ
bit_at stretches i = statement_bit (slice_get stretches i)

-- byte k
abbrev pub byte_at : List Stretch → ℕ → ℕ
byte_at stretches k =
    bit_at stretches (k * 8) + 2 * bit_at stretches (k * 8 + 1) + 4 * bit_at stretches (k * 8 + 2)
    + 8 * bit_at stretches (k * 8 + 3) + 16 * bit_at stretches (k * 8 + 4) + 32 * bit_at stretches (k * 8 + 5)
    + 64 * bit_at stretches (k * 8 + 6) + 128 * bit_at stretches (k * 8 + 7)

-- a bit for each stretch
abbrev pub statement_bytes : List Stretch → List ℕ
statement_bytes stretches = map (byte_at stretches) (range_with_len 0 ((length stretches + 7) / 8))
