-- What an index in a file tells, from what is read of it.
use Rattle.std.proofs.Common.{◌≡◌, ℕ, ◌+◌, ◌-◌, ◌*◌, ◌/◌, ◌<◌, ◌≤◌, List, [], ◌∷◌, take, drop, length, length-take, length-drop, slice_index, Option, Some, None, IfSome, sym, ap, ap₂, ◌∙◌, arith}
use Rattle.std.proofs.Math.Seq.{drop-cons}
use Rattle.std.proofs.lemmas.Bool.Decides.{nat_tests}
use Rattle.std.specs.Option.{option_map}
use Rattle.dl_num.specs.Fixed.{little}
use Rattle.dl_elf.specs.Elf.{bytes_at}
use Rattle.dl_elf.specs.declared.file.Range.{Range}
use Rattle.dl_index.specs.Columns.{number_at}
use Rattle.dl_index.specs.Layout.{field, part, build_id_in, build_id_len_in, count_in, texts_in, text_bytes_in, text_number_in, text_place_in, text_len_in}
use Rattle.dl_index.specs.Telling.{text_in, text_bytes, told_in, find_in}
use Rattle.dl_index.specs.IsIndex.{IsIndex}
use Rattle.dl_index.proofs.HeaderLemmas.{byte_is}
use Rattle.dl_index_file.specs.declared.index.FileFound.{FileFound}
use Rattle.dl_index_file.specs.Shown.{shown, text_shown}
use Rattle.dl_index_file.specs.Steps.{StretchTells, TextIs}
use Rattle.dl_index_file.specs.FindsIn.{FindsIn}
use Rattle.dl_index_file.proofs.RangeLemmas.{piece}

pub build_id_is : (b front : List ℕ) (n : ℕ) → front ≡ take 128 b → build_id_len_in front ≤ 32
    → n ≡ build_id_len_in front → take (84 + n - 84) (drop 84 front) ≡ build_id_in b
build_id_is b front n same small is =
    let m : 84 + n - 84 ≡ n = omega arith in
    ap₂ (λ k x. take k (drop 84 x)) m same ∙ piece b 0 128 84 n (omega arith)
    ∙ ap (λ k. take k (drop 84 b)) (is ∙ byte_is front b same 80 (omega arith))

-- a number of a column
pub column_is : (s w k n : ℕ) (column range : List ℕ) → s ≡ w → column ≡ range → n ≡ number_at s range k
    → n ≡ number_at w column k
column_is s w k n column range width are is =
    is ∙ ap (λ m. number_at m range k) width ∙ ap (λ x. number_at w x k) (sym are)

pub byte_read : (xs : List ℕ) (i : ℕ) → i < length xs → little (take 1 (drop i xs)) ≡ slice_index xs i
byte_read xs i less =
    ap (λ x. little (take 1 x)) (drop-cons xs i 0 less) ∙ omega arith

-- a byte of a part
pub bits_are : (b range : List ℕ) (k n offset size : ℕ) → range ≡ bytes_at offset size b → offset + size ≤ length b
    → (k + 7) / 8 ≤ size → n < k → (byte : ℕ) → byte ≡ number_at 1 (bytes_at offset size b) (n / 8)
    → byte ≡ slice_index range (n / 8)
bits_are b range k n offset size are within enough less byte is =
    let len = length-take size (drop offset b) in
    let rest = length-drop offset b in
    let at : n / 8 * 1 ≡ n / 8 = omega arith in
    let column = bytes_at offset size b in
    is ∙ ap (λ m. little (take 1 (drop m column))) at ∙ byte_read column (n / 8) (omega arith)
    ∙ ap (λ x. slice_index x (n / 8)) (sym are)

-- a number of a row
pub row_number : (table row : List ℕ) (at size from len n : ℕ) → row ≡ take size (drop at table) → from + len ≤ size
    → n ≡ field from len row → n ≡ field (at + from) len table
row_number table row at size from len n are inside is =
    is ∙ ap little (ap (λ x. take len (drop from x)) are ∙ piece table at size from len inside)

module _ (b : List ℕ) (n place len all : ℕ) (some : 0 < n) (within : n ≤ texts_in b)
    (place_is : place ≡ text_place_in b (n - 1)) (len_is : len ≡ text_len_in b (n - 1)) (all_is : all ≡ text_bytes_in b) where
  pub text_outside : all < place + len → TextIs b n None
  text_outside above = record { told = sym outside; lie = tt } where
    outside : text_in b n ≡ None
    outside = grind (arith, nat_tests)

  pub text_inside : (texts : Range) → place + len ≤ all → texts.size ≡ all → part b 8 ≡ bytes_at texts.offset texts.size b
      → texts.offset + texts.size ≤ length b
      → TextIs b n (Some (Some (record { offset = texts.offset + place; size = len })))
  text_inside texts upto size are ends =
      let inside : text_in b n ≡ Some (text_bytes b (n - 1) ∷ []) = grind (arith, nat_tests) in
      let same : text_bytes b (n - 1) ≡ take len (drop (texts.offset + place) b) =
      ap₂ (λ k p. take k (drop p (part b 8))) (sym len_is) (sym place_is) ∙ ap (λ x. take len (drop place x)) are
      ∙ piece b texts.offset texts.size place len (omega arith) in
      record {
        told = sym (inside ∙ ap (λ x. Some (x ∷ [])) same);
        lie = omega arith;
      }

-- text k of file f, by its number in the row
pub text_by : (b row : List ℕ) (f k n from : ℕ) (text : Option (Option Range)) → TextIs b n text → n ≡ field from 4 row
    → row ≡ take 24 (drop (f * 24) (part b 6)) → from + 4 ≤ 24 → from ≡ 8 + k * 4
    → option_map (text_shown b) text ≡ text_in b (text_number_in b f k)
text_by b row f k n from text is number are inside place =
    let there : f * 24 + from ≡ f * 24 + 8 + k * 4 = omega arith in
    is.told
    ∙ ap
    (text_in b)
    (row_number (part b 6) row (f * 24) 24 from 4 n are inside number ∙ ap (λ p. field p 4 (part b 6)) there)

-- an answer is what a stretch tells
stretch_one : (b : List ℕ) (k : ℕ) (found : Option FileFound) → k < count_in b → StretchTells b k found
    → IfSome found (λ f. (j : ℕ) × (j < count_in b) × (told_in b j ≡ Some (shown b f)))
stretch_one b k None within is = tt
stretch_one b k (Some found) within is = (k, within, sym is.told)

pub finds_stretch : (b : List ℕ) (a k : ℕ) (found : Option FileFound) → k < count_in b → StretchTells b k found
    → (IsIndex b → find_in b a ≡ told_in b k) → FindsIn b a found
finds_stretch b a k found within is exact = record {
  exact = λ index. is.told ∙ sym (exact index);
  stands = stretch_one b k found within is;
  lie = is.lie;
}
