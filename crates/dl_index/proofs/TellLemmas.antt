-- What a stretch tells, from what is read of it.
use Rattle.std.proofs.Common.{◌≡◌, ℕ, ◌+◌, ◌-◌, ◌*◌, ◌<◌, ◌≤◌, ◌⊎◌, List, Option, Some, None, sym, ap, ap₂, ◌∙◌, arith}
use Rattle.std.proofs.lemmas.Bool.Decides.{nat_tests}
use Rattle.std.specs.Option.{option_map}
use Rattle.dl_index.specs.Layout.{field, part, files_in, file_in, unit_in, line_in, column_in, discriminator_in, is_stmt_in, text_number_in}
use Rattle.dl_index.specs.TextsOf.{placed_told}
use Rattle.dl_index.specs.declared.index.PlacedText.{PlacedText}
use Rattle.dl_index.specs.Stretches.{Told}
use Rattle.dl_index.specs.Telling.{text_in, with_text, texts_of, told_of, told_in}

module _ (b : List ℕ) (f : ℕ) where
  -- text k of file f, as it was read
  pub text_by : (k p n : ℕ) (table : List ℕ) (read text : Option PlacedText) → read ≡ text
      → option_map placed_told read ≡ text_in b n → n ≡ field p 4 table → table ≡ part b 6 → p ≡ f * 24 + 8 + k * 4
      → option_map placed_told text ≡ text_in b (text_number_in b f k)
  text_by k p n table read text is told number at place =
      sym (ap (option_map placed_told) is) ∙ told
      ∙ ap (text_in b) (number ∙ ap₂ (λ q t. field q 4 t) place at)

  pub texts_by : (x y z : Option (List (List ℕ))) → x ≡ text_in b (text_number_in b f 0)
      → y ≡ text_in b (text_number_in b f 1) → z ≡ text_in b (text_number_in b f 2)
      → with_text (with_text x y) z ≡ texts_of b f
  texts_by x y z first second third =
      ap₂ with_text (ap₂ with_text first second) third

module _ (b : List ℕ) (k : ℕ) where
  pub tells_nothing : (file_in b k ≡ 0) ⊎ (files_in b < file_in b k) → told_in b k ≡ None
  tells_nothing outside = grind (arith, nat_tests)

  pub tells : 0 < file_in b k → file_in b k ≤ files_in b
      → told_in b k ≡ option_map (told_of b k (file_in b k - 1)) (texts_of b (file_in b k - 1))
  tells some within = grind (arith, nat_tests)

  pub tells_these : (f : ℕ) (t : Told) → 0 < file_in b k → file_in b k ≤ files_in b → f ≡ file_in b k - 1
      → Some t.parts ≡ texts_of b f → t.unit ≡ unit_in b f → t.line ≡ line_in b k → t.column ≡ column_in b k
      → t.discriminator ≡ discriminator_in b k → t.is_stmt ≡ is_stmt_in b k → Some t ≡ told_in b k
  tells_these f t some within file texts unit line column discriminator is_stmt =
      let of_unit = unit ∙ ap (unit_in b) file in
      let of_texts = texts ∙ ap (texts_of b) file in
      let same : t ≡ told_of b k (file_in b k - 1) t.parts =
      λ i. record {
        unit = of_unit i;
        parts = t.parts;
        line = line i;
        column = column i;
        discriminator = discriminator i;
        is_stmt = is_stmt i;
      } in
      ap (λ x. Some x) same ∙ ap (option_map (told_of b k (file_in b k - 1))) of_texts ∙ sym (tells some within)
