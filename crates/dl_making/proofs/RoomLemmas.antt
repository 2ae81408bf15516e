-- What is wanted for an index is within the room of its section.
use Rattle.std.proofs.Common.{◌≡◌, ◌≤◌, ℕ, zero, suc, ◌+◌, ◌*◌, Bool, true, false, List, [], ◌∷◌, ◌++◌, length, length-append}
use Rattle.std.proofs.Common.{Option, Some, None, arith, ap}
use Rattle.std.specs.Prelude.{get_or, if◌then◌else◌, ◌==◌}
use Rattle.std.specs.List.{All, flat_map}
use Rattle.std.proofs.lemmas.List.Elements.{All-head, All-tail}
use Rattle.std.proofs.lemmas.Nat.{mul-le}
use Rattle.dl_print.specs.ValueText.{Strings}
use Rattle.dl_stretch.specs.declared.told.Told.{Told}
use Rattle.dl_stretch.specs.declared.stretch.Stretch.{Stretch}
use Rattle.dl_pack.specs.declared.names.FileTexts.{FileTexts}
use Rattle.dl_pack.specs.IndexOf.{file_order, file_places, files_told, text_order, text_place, told_files}
use Rattle.dl_pack.specs.Numbering.{mentioned, number_in, with_mention}
use Rattle.dl_pack.specs.Room.{index_room}
use Rattle.dl_pack.specs.Tables.{no_file, texts_at, total_len}
use Rattle.dl_making.specs.Few.{TextsWithin}
use Rattle.dl_making.specs.Room.{longest_text, making_room}

-- ---- what stretches mention

mention_few : (order : List ℕ) (item : ℕ) → length (with_mention order item) ≤ length order + 1
mention_few order item = by (number_in order item == 0) where
  by : (new : Bool) → length (if new then order ++ item ∷ [] else order) ≤ length order + 1
  by true = omega (arith, length-append order (item ∷ []))
  by false = omega arith

mentioned_few : (order items : List ℕ) → length (mentioned order items) ≤ length order + length items
mentioned_few order [] = omega arith
mentioned_few order (item ∷ items) =
    omega (arith, mention_few order item, mentioned_few (with_mention order item) items)

told_few : (told : Option Told) → length (told_files told) ≤ 1
told_few None = omega arith
told_few (Some t) = omega arith

files_few : (stretches : List Stretch) → length (files_told stretches) ≤ length stretches
files_few [] = omega arith
files_few (s ∷ stretches) =
    omega (arith, files_few stretches, told_few s.told, length-append (told_files s.told) (files_told stretches))

order_few : (stretches : List Stretch) → length (file_order stretches) ≤ length stretches
order_few stretches = omega (arith, mentioned_few [] (files_told stretches), files_few stretches)

place_few : (n : ℕ) → length (text_place n) ≤ 1
place_few zero = omega arith
place_few (suc n) = omega arith

places_few : (f : FileTexts) → length (file_places f) ≤ 3
places_few f =
    let first = text_place (get_or f.texts 0 0) in
    let second = text_place (get_or f.texts 1 0) in
    let third = text_place (get_or f.texts 2 0) in
    omega (
      arith,
      length-append first (second ++ third),
      length-append second third,
      place_few (get_or f.texts 0 0),
      place_few (get_or f.texts 1 0),
      place_few (get_or f.texts 2 0),
    )

module _ (files : List FileTexts) where
  abbrev places_at : ℕ → List ℕ
  places_at place = file_places (get_or files place no_file)

  all_places_few : (order : List ℕ) → length (flat_map places_at order) ≤ 3 * length order
  all_places_few [] = omega arith
  all_places_few (place ∷ order) =
      omega (
        arith,
        all_places_few order,
        places_few (get_or files place no_file),
        length-append (places_at place) (flat_map places_at order),
      )

  texts_few : (order : List ℕ) → length (text_order files order) ≤ 3 * length order
  texts_few order = omega (arith, mentioned_few [] (flat_map places_at order), all_places_few order)

-- ---- how long texts are

text_within : (most : ℕ) (texts : List (List ℕ)) (place : ℕ) → TextsWithin most texts → length (get_or texts place []) ≤ most
text_within most [] place all = omega arith
text_within most (text ∷ texts) zero all = All-head (λ (t : List ℕ). length t ≤ most) text texts all
text_within most (text ∷ texts) (suc place) all =
    text_within most texts place (All-tail (λ (t : List ℕ). length t ≤ most) text texts all)

total_within : (most : ℕ) (texts : List (List ℕ)) (order : List ℕ) → TextsWithin most texts
    → total_len (texts_at texts order) ≤ length order * most
total_within most texts [] all = omega arith
total_within most texts (place ∷ order) all =
    omega (arith, total_within most texts order all, text_within most texts place all)

-- ---- the room

module _ (s : Strings) (directory bytes : ℕ) where
  abbrev most : ℕ
  most = longest_text s directory bytes

  -- for less than a text and 200 bytes more, with 1200 for each byte
  pub room_for_few : (n : ℕ) → n ≤ most + 1200 * bytes + 200 → n ≤ making_room s directory bytes
  room_for_few n few = enough most n few where
    enough : (m k : ℕ) → k ≤ m + 1200 * bytes + 200 → k ≤ (6 * bytes + 1) * (m + 200)
    enough m k few = omega (arith, few)

  -- for an index of stretches, twice as many at most as there are bytes
  pub room_for_index : (list : List Stretch) (files : List FileTexts) (texts : List (List ℕ)) → length list ≤ 2 * bytes
      → length files ≤ bytes → length texts ≤ 3 * bytes → TextsWithin most texts
      → index_room list files texts ≤ making_room s directory bytes
  room_for_index list files texts list_few names_few texts_known all =
      let first = file_order list in
      let order = text_order files first in
      let total = total_within most texts order all in
      let few : length order ≤ 6 * bytes = omega (arith, order_few list, texts_few files first, list_few) in
      let product = mul-le (length order) most (6 * bytes) most few (omega arith) in
      enough most (length list) (length first) (length order) (total_len (texts_at texts order)) (length files) (length texts)
      list_few (omega (arith, order_few list, list_few)) few (omega (arith, total, product)) names_few texts_known
    where
      enough : (m stretches first order total files texts : ℕ) → stretches ≤ 2 * bytes → first ≤ 2 * bytes
          → order ≤ 6 * bytes → total ≤ 6 * bytes * m → files ≤ bytes → texts ≤ 3 * bytes
          → 171 + 41 * stretches + (24 * first + 16 * order + total + 21) + files + texts ≤ (6 * bytes + 1) * (m + 200)
      enough m stretches first order total files texts a b c d e f = omega (arith, a, b, c, d, e, f)
