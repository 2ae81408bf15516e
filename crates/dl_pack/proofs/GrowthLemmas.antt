-- How long what is written is, so that memory is wanted for no more.
use Rattle.std.proofs.Common.{◌≡◌, ℕ, zero, suc, ◌+◌, ◌-◌, ◌*◌, ◌<◌, ◌≤◌, List, [], ◌∷◌, ◌++◌, length, get_or, replicate, take, arith, ap, refl}
use Rattle.std.proofs.Common.{◌^◌, ◌/◌, Bool, true, false, nat_lt, if◌then◌else◌, length-append, map}
use Rattle.std.specs.List.{concat, flat_map, range_with_len}
use Rattle.std.proofs.lemmas.List.{length-map, length-replicate}
use Rattle.std.proofs.lemmas.List.FromFn.{length-range_with_len}
use Rattle.dl_num.specs.Fixed.{little_bytes}
use Rattle.dl_index.specs.Columns.{size_of}
use Rattle.dl_index.specs.Layout.{rounded}
use Rattle.dl_index.specs.declared.width.Width.{Width}
use Rattle.dl_index.specs.declared.width.Width.TheVariants.{One, Two, Four, Eight}
use Rattle.dl_stretch.specs.declared.stretch.Stretch.{Stretch}
use Rattle.dl_pack.specs.declared.columns.Column.{Column}
use Rattle.dl_pack.specs.declared.columns.Column.TheVariants as column
use Rattle.dl_pack.specs.declared.names.FileTexts.{FileTexts}
use Rattle.dl_pack.specs.Columns.{byte_at, column_bytes, column_of, columns_of, greatest, least_size, number_of, padded, part_by}
use Rattle.dl_pack.specs.Columns.{statement_bytes, width_by}
use Rattle.dl_pack.specs.IndexOf.{header_front}
use Rattle.dl_pack.specs.Tables.{file_bytes, file_table, no_file, texts_at}
use Rattle.dl_pack.proofs.ItemLemmas.{size_is}
use Rattle.dl_pack.proofs.TableLemmas.{bytes_more}

-- by so many bytes
pub grew : (old new bytes : List ℕ) → new ≡ old ++ bytes → length new ≡ length old + length bytes
grew old new bytes is = omega (arith, ap length is, length-append old bytes)

pub number_grew : (old new : List ℕ) (size n : ℕ) → new ≡ old ++ little_bytes size n → length new ≡ length old + size
number_grew old new size n is = omega (arith, grew old new (little_bytes size n) is, size_is size n)

pub column_len : (size : ℕ) (numbers : List ℕ) → length (column_bytes size numbers) ≡ size * length numbers
column_len size [] = omega arith
column_len size (n ∷ numbers) =
    omega (arith, column_len size numbers, size_is size n, length-append (little_bytes size n) (column_bytes size numbers))

pub padded_len : (part : List ℕ) → length (padded part) ≤ length part + 7
padded_len part =
    let more = rounded (length part) - length part in
    omega (arith, length-append part (replicate more 0), length-replicate {A = ℕ} more 0)

pub files_len : (files : List FileTexts) (order texts : List ℕ) → length (file_table files order texts) ≡ 24 * length order
files_len files [] texts = refl
files_len files (place ∷ order) texts =
    omega (
      arith,
      files_len files order texts,
      length-append (file_bytes texts (get_or files place no_file)) (file_table files order texts),
    )

joined_upto : (texts : List (List ℕ)) (k : ℕ) (order : List ℕ)
    → length (concat (texts_at texts (take k order))) ≤ length (concat (texts_at texts order))
joined_upto texts zero order = omega arith
joined_upto texts (suc k) [] = omega arith
joined_upto texts (suc k) (place ∷ order) =
    let text = get_or texts place [] in
    omega (
      arith,
      joined_upto texts k order,
      length-append text (concat (texts_at texts (take k order))),
      length-append text (concat (texts_at texts order)),
    )

-- one text more is no more than all
pub text_within : (texts : List (List ℕ)) (items order : List ℕ) (i d : ℕ) (start before text : List ℕ) → items ≡ order
    → i < length items → text ≡ get_or texts (get_or items i d) []
    → before ≡ start ++ concat (texts_at texts (take i order))
    → length before + length text ≤ length start + length (concat (texts_at texts order))
text_within texts items order i d start before text same lt at was =
    let more = bytes_more texts items order i d start before (before ++ text) text same lt at was refl in
    omega (
      arith,
      ap length more,
      length-append before text,
      length-append start (concat (texts_at texts (take (i + 1) order))),
      joined_upto texts (i + 1) order,
    )

-- what is put up to a multiple of 8 is few bytes
pub padded_more : (old new : List ℕ) (len : ℕ) → new ≡ old ++ replicate (rounded len - len) 0
    → length new ≤ length old + 7
padded_more old new len is =
    omega (
      arith,
      ap length is,
      length-append old (replicate (rounded len - len) 0),
      length-replicate {A = ℕ} (rounded len - len) 0,
    )

-- ---- the columns and bits

pub few_bytes : (count : ℕ) (w : Width) → count * size_of w ≤ 8 * count
few_bytes count One = omega arith
few_bytes count Two = omega arith
few_bytes count Four = omega arith
few_bytes count Eight = omega arith

times_few : (n count : ℕ) → least_size n * count ≤ 8 * count
times_few n count = by (nat_lt n (2 ^ 8)) (nat_lt n (2 ^ 16)) (nat_lt n (2 ^ 32)) where
  by : (a b c : Bool) → (if a then 1 else if b then 2 else if c then 4 else 8) * count ≤ 8 * count
  by true b c = omega arith
  by false true c = omega arith
  by false false true = omega arith
  by false false false = omega arith

module _ (base : ℕ) (order : List ℕ) (list : List Stretch) where
  part_len : (kind : Column) → length (padded (part_by base order list kind)) ≤ 8 * length list + 7
  part_len kind =
      let width = width_by base order list kind in
      let count = ap (λ (n : ℕ). width * n) (length-map list (number_of base order kind)) in
      let few : width * length list ≤ 8 * length list =
      times_few (greatest (column_of base order kind list)) (length list) in
      omega (arith, padded_len (part_by base order list kind), column_len width (column_of base order kind list), count, few)

  pub columns_len : length (flat_map padded (map (part_by base order list) columns_of) ++ padded (statement_bytes list))
      ≤ 41 * length list + 43
  columns_len =
      let p = λ (kind : Column). padded (part_by base order list kind) in
      let bits = padded (statement_bytes list) in
      omega (
        arith,
        part_len column.Start,
        part_len column.File,
        part_len column.Line,
        part_len column.Column,
        part_len column.Discriminator,
        padded_len (statement_bytes list),
        length-map (range_with_len 0 ((length list + 7) / 8)) (byte_at list),
        length-range_with_len 0 ((length list + 7) / 8),
        length-append (flat_map padded (map (part_by base order list) columns_of)) bits,
        length-append (p column.Start) (p column.File ++ (p column.Line ++ (p column.Column ++ (p column.Discriminator ++ [])))),
        length-append (p column.File) (p column.Line ++ (p column.Column ++ (p column.Discriminator ++ []))),
        length-append (p column.Line) (p column.Column ++ (p column.Discriminator ++ [])),
        length-append (p column.Column) (p column.Discriminator ++ []),
        length-append (p column.Discriminator) [],
      )

-- ---- the header

pub front_len : (flags : ℕ) (numbers widths : List ℕ) (sum : ℕ) → length numbers ≡ 6 → length widths ≡ 5
    → length (header_front flags numbers widths sum) ≡ 76
front_len flags numbers widths sum six five =
    let last = (0 ∷ 0 ∷ 0 ∷ []) ++ little_bytes 4 sum in
    omega (
      arith,
      six,
      five,
      column_len 8 numbers,
      length-append (column_bytes 8 numbers) (widths ++ last),
      length-append widths last,
    )
