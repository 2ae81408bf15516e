-- What is written of stretches, of one more, and of all.
use Rattle.std.proofs.Common.{◌≡◌, ℕ, ◌+◌, ◌*◌, ◌<◌, ◌≤◌, List, [], ◌∷◌, ◌++◌, length, map, take, drop}
use Rattle.std.proofs.Common.{arith, refl, sym, ap, ap₂, ◌∙◌, length-append}
use Rattle.std.specs.List.{concat, flat_map, range_with_len}
use Rattle.std.proofs.Math.Nat.{mul-le-mul_right}
use Rattle.std.proofs.lemmas.List.{append-nil, length-map, take_all, drop_all}
use Rattle.std.proofs.lemmas.List.Folds.{concat-append}
use Rattle.dl_num.specs.Fixed.{little_bytes}
use Rattle.dl_index.specs.Columns.{size_of}
use Rattle.dl_index.specs.Layout.{rounded}
use Rattle.dl_stretch.specs.declared.stretch.Stretch.{Stretch}
use Rattle.dl_pack.specs.declared.columns.Column.{Column}
use Rattle.dl_pack.specs.declared.columns.Column.TheVariants as kind
use Rattle.dl_pack.specs.declared.writer.Cursor.{Cursor}
use Rattle.dl_pack.specs.declared.writer.ColumnWriter.{ColumnWriter}
use Rattle.dl_pack.specs.Columns.{number_of, column_of, column_bytes, columns_of, padded, part_by, width_by, statement_bytes, byte_at}
use Rattle.dl_pack.specs.Mentioned.{order_of}
use Rattle.dl_pack.specs.Written.{region, bits_in, room_of, bits_room}
use Rattle.dl_pack.specs.Writing.{part_of, column_region, parts_laid, IsFresh, WentOn, AreWritten}
use Rattle.dl_pack.proofs.BitPlaces.{bits_padded, range_len}
use Rattle.dl_pack.proofs.ItemLemmas.{items_len, size_is}
use Rattle.dl_pack.proofs.RegionLemmas.{region_len, column_more, parts_len}

concat_len : (a : List ℕ) (more : List (List ℕ)) → length (concat (a ∷ more)) ≡ length a + length (concat more)
concat_len a more = length-append a (concat more)

-- what is written back into a list of the same length
pub written_back : (n : ℕ) (items new : List ℕ) → n ≡ length items → length new ≡ length items
    → take n (new ++ drop (length new) items) ≡ new
written_back n items new at same =
    ap (λ l. take n (new ++ l)) (drop_all (length new) items (omega (arith, same)))
    ∙ ap (take n) (append-nil new) ∙ take_all n new (omega (arith, at, same))

pub written_none : (first : ColumnWriter) → AreWritten first first []
written_none first front count lt fresh le = record {
  base = refl;
  files = refl;
  start = (refl, omega arith);
  file = (refl, omega arith);
  line = (refl, omega arith);
  column = (refl, omega arith);
  discriminator = (refl, omega arith);
  bits = refl;
  written = fresh.written;
  bytes = fresh.bytes;
}

-- what a call that puts the next number of a column promises
abbrev pub PutsNext : (bytes new : List ℕ) → (now after : Cursor) → ℕ → Type 0
PutsNext bytes new now next number =
    (before after : List (List ℕ)) (part : List ℕ) (room : ℕ) → bytes ≡ concat (before ++ region room part ∷ after)
    → now.next ≡ length (concat before) + length part → length part + size_of now.width ≤ room
    → (new ≡ concat (before ++ region room (part ++ little_bytes (size_of now.width) number) ∷ after))
    × (next.next ≡ now.next + size_of now.width)

module _ (first : ColumnWriter) where
  pub part_len : (cursor : Cursor) (kind : Column) (l : List Stretch)
      → length (part_of first cursor kind l) ≡ length l * size_of cursor.width
  part_len cursor kind l =
      let w : ℕ = size_of cursor.width in
      let f : Stretch → ℕ = number_of first.base (order_of first.files.now) kind in
      items_len (little_bytes w) w (size_is w) (map f l) ∙ ap (λ n. n * w) (length-map l f)

  upto : (count w n : ℕ) → n ≤ count → n * w ≤ room_of count w
  upto count w n le = let h : n * w ≤ count * w = mul-le-mul_right w le in omega (arith, h)

  pub region_is : (count : ℕ) (cursor : Cursor) (kind : Column) (l : List Stretch) → length l ≤ count
      → length (column_region first count cursor kind l) ≡ room_of count (size_of cursor.width)
  region_is count cursor kind l le =
      region_len (room_of count (size_of cursor.width)) (part_of first cursor kind l)
      (omega (arith, part_len cursor kind l, upto count (size_of cursor.width) (length l) le))

  -- one number more in a column
  pub column_step : (count : ℕ) (list : List Stretch) (x : Stretch) (cursor now next : Cursor) (kind : Column) (number : ℕ)
      (before after : List (List ℕ)) (bytes new : List ℕ) → length list < count → WentOn cursor now (length list)
      → next.width ≡ now.width → PutsNext bytes new now next number
      → number ≡ number_of first.base (order_of first.files.now) kind x
      → bytes ≡ concat (before ++ column_region first count cursor kind list ∷ after)
      → length (concat before) ≡ cursor.next
      → (new ≡ concat (before ++ column_region first count cursor kind (list ++ x ∷ []) ∷ after))
      × WentOn cursor next (length (list ++ x ∷ []))
  column_step count list x cursor now next kind number before after bytes new less went same puts is was place =
      let w : ℕ = size_of cursor.width in
      let e : size_of now.width ≡ w = ap size_of went.0 in
      let f : Stretch → ℕ = number_of first.base (order_of first.files.now) kind in
      let part : List ℕ = part_of first cursor kind list in
      let len = part_len cursor kind list in
      let room : (length list + 1) * w ≤ room_of count w = upto count w (length list + 1) (omega arith) in
      let at = went.1 in
      let longer : length (list ++ x ∷ []) ≡ length list + 1 = length-append list (x ∷ []) in
      let put = puts before after part (room_of count w) was (omega (arith, at, len, place)) (omega (arith, e, len, room)) in
      let next_is = put.1 in (
        put.0 ∙ ap (λ p. concat (before ++ region (room_of count w) p ∷ after))
            (ap₂ (λ s n. part ++ little_bytes s n) e is ∙ sym (column_more f w list x)),
        (same ∙ went.0, omega (arith, next_is, at, e) ∙ ap (λ n. cursor.next + n * w) (sym longer)),
      )

  module _ (front : List ℕ) (count : ℕ) (fresh : IsFresh first front count) (l : List Stretch) (le : length l ≤ count) where
    abbrev r1 : List ℕ
    r1 = column_region first count first.start kind.Start l

    abbrev r2 : List ℕ
    r2 = column_region first count first.file kind.File l

    abbrev r3 : List ℕ
    r3 = column_region first count first.line kind.Line l

    abbrev r4 : List ℕ
    r4 = column_region first count first.column kind.Column l

    abbrev r5 : List ℕ
    r5 = column_region first count first.discriminator kind.Discriminator l

    n1 : length r1 ≡ room_of count (size_of first.start.width)
    n1 = region_is count first.start kind.Start l le

    n2 : length r2 ≡ room_of count (size_of first.file.width)
    n2 = region_is count first.file kind.File l le

    n3 : length r3 ≡ room_of count (size_of first.line.width)
    n3 = region_is count first.line kind.Line l le

    n4 : length r4 ≡ room_of count (size_of first.column.width)
    n4 = region_is count first.column kind.Column l le

    n5 : length r5 ≡ room_of count (size_of first.discriminator.width)
    n5 = region_is count first.discriminator kind.Discriminator l le

    pub at1 : length (concat (front ∷ [])) ≡ first.start.next
    at1 = concat_len front [] ∙ omega (arith, fresh.start)

    pub at2 : length (concat (front ∷ r1 ∷ [])) ≡ first.file.next
    at2 = omega (arith, concat_len front (r1 ∷ []), concat_len r1 [], n1, fresh.start, fresh.file)

    pub at3 : length (concat (front ∷ r1 ∷ r2 ∷ [])) ≡ first.line.next
    at3 =
        omega (
          arith,
          concat_len front (r1 ∷ r2 ∷ []),
          concat_len r1 (r2 ∷ []),
          concat_len r2 [],
          n1,
          n2,
          fresh.start,
          fresh.file,
          fresh.line,
        )

    pub at4 : length (concat (front ∷ r1 ∷ r2 ∷ r3 ∷ [])) ≡ first.column.next
    at4 =
        omega (
          arith,
          concat_len front (r1 ∷ r2 ∷ r3 ∷ []),
          concat_len r1 (r2 ∷ r3 ∷ []),
          concat_len r2 (r3 ∷ []),
          concat_len r3 [],
          n1,
          n2,
          n3,
          fresh.start,
          fresh.file,
          fresh.line,
          fresh.column,
        )

    pub at5 : length (concat (front ∷ r1 ∷ r2 ∷ r3 ∷ r4 ∷ [])) ≡ first.discriminator.next
    at5 =
        omega (
          arith,
          concat_len front (r1 ∷ r2 ∷ r3 ∷ r4 ∷ []),
          concat_len r1 (r2 ∷ r3 ∷ r4 ∷ []),
          concat_len r2 (r3 ∷ r4 ∷ []),
          concat_len r3 (r4 ∷ []),
          concat_len r4 [],
          n1,
          n2,
          n3,
          n4,
          fresh.start,
          fresh.file,
          fresh.line,
          fresh.column,
          fresh.discriminator,
        )

    pub at6 : length (concat (front ∷ r1 ∷ r2 ∷ r3 ∷ r4 ∷ r5 ∷ [])) ≡ first.bits
    at6 =
        omega (
          arith,
          concat_len front (r1 ∷ r2 ∷ r3 ∷ r4 ∷ r5 ∷ []),
          concat_len r1 (r2 ∷ r3 ∷ r4 ∷ r5 ∷ []),
          concat_len r2 (r3 ∷ r4 ∷ r5 ∷ []),
          concat_len r3 (r4 ∷ r5 ∷ []),
          concat_len r4 (r5 ∷ []),
          concat_len r5 [],
          n1,
          n2,
          n3,
          n4,
          n5,
          fresh.start,
          fresh.file,
          fresh.line,
          fresh.column,
          fresh.discriminator,
          fresh.bits,
        )

    pub laid_len : length (concat (parts_laid first front count l)) ≡ first.bits + bits_room count
    laid_len =
        parts_len (front ∷ r1 ∷ r2 ∷ r3 ∷ r4 ∷ r5 ∷ []) [] (bits_in (bits_room count) l)
        ∙ omega (arith, at6, length-map (range_with_len 0 (bits_room count)) (byte_at l), range_len 0 (bits_room count))

  -- ---- all

  module _ (base : ℕ) (order : List ℕ) (list : List Stretch) (base_is : first.base ≡ base)
      (files_is : order_of first.files.now ≡ order) where
    pub column_padded : (count : ℕ) (cursor : Cursor) (kind : Column) → count ≡ length list
        → size_of cursor.width ≡ width_by base order list kind
        → column_region first count cursor kind list ≡ padded (part_by base order list kind)
    column_padded count cursor kind counted width =
        let part : List ℕ = part_of first cursor kind list in
        let room : room_of count (size_of cursor.width) ≡ rounded (length part) =
        ap (λ n. room_of n (size_of cursor.width)) counted ∙ ap rounded (sym (part_len cursor kind list)) in
        let is : part ≡ part_by base order list kind =
        ap₂ (λ w b. column_bytes w (column_of b (order_of first.files.now) kind list)) width base_is
        ∙ ap (λ o. column_bytes (width_by base order list kind) (column_of base o kind list)) files_is in
        ap (λ r. region r part) room ∙ ap padded is

    pub all_laid : (front : List ℕ) (count : ℕ) → count ≡ length list
        → size_of first.start.width ≡ width_by base order list kind.Start
        → size_of first.file.width ≡ width_by base order list kind.File
        → size_of first.line.width ≡ width_by base order list kind.Line
        → size_of first.column.width ≡ width_by base order list kind.Column
        → size_of first.discriminator.width ≡ width_by base order list kind.Discriminator
        → concat (parts_laid first front count list)
        ≡ front ++ (flat_map padded (map (part_by base order list) columns_of) ++ padded (statement_bytes list))
    all_laid front count counted w1 w2 w3 w4 w5 =
        let p : Column → List ℕ = λ kind. padded (part_by base order list kind) in
        let bits : bits_in (bits_room count) list ≡ padded (statement_bytes list) =
        ap (λ n. bits_in (bits_room n) list) counted ∙ bits_padded list in
        let columns : List (List ℕ) = p kind.Start ∷ p kind.File ∷ p kind.Line ∷ p kind.Column ∷ p kind.Discriminator ∷ [] in
        ap₂ (λ a b. concat (front ∷ a ∷ b ∷ column_region first count first.line kind.Line list
        ∷ column_region first count first.column kind.Column list
        ∷ column_region first count first.discriminator kind.Discriminator list ∷ bits_in (bits_room count) list ∷ []))
        (column_padded count first.start kind.Start counted w1) (column_padded count first.file kind.File counted w2)
        ∙ ap₂ (λ a b. concat (front ∷ p kind.Start ∷ p kind.File ∷ a ∷ b
        ∷ column_region first count first.discriminator kind.Discriminator list ∷ bits_in (bits_room count) list ∷ []))
        (column_padded count first.line kind.Line counted w3) (column_padded count first.column kind.Column counted w4)
        ∙ ap₂ (λ a b. concat (front ∷ p kind.Start ∷ p kind.File ∷ p kind.Line ∷ p kind.Column ∷ a ∷ b ∷ []))
        (column_padded count first.discriminator kind.Discriminator counted w5) bits
        ∙ ap (λ l. front ++ l) (concat-append columns (padded (statement_bytes list) ∷ [])
        ∙ ap (λ l. concat columns ++ l) (append-nil (padded (statement_bytes list))))
