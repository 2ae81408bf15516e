-- The parts of bytes by their layout.
use Rattle.std.proofs.Common.{◌≡◌, ℕ, suc, ◌+◌, ◌-◌, ◌*◌, ◌/◌, ◌<◌, ◌≤◌, true, List, [], ◌∷◌, take, drop, length, map, sum, slice_index_or, refl, sym, ap, subst, ◌∙◌, arith}
use Rattle.std.proofs.Math.Nat.{mul-le-mul_right}
use Rattle.std.proofs.lemmas.List.{drop-drop, drop-take, take-take}
use Rattle.dl_num.specs.Fixed.{is_number_size, little}
use Rattle.dl_index.specs.Columns.{number_at}
use Rattle.dl_index.specs.IsIndex.{IsLaidOut}
use Rattle.dl_index.specs.Layout.{cut_of, field, sizes, part, rounded, width_in}
use Rattle.dl_index.specs.LayoutOf.{HasLayoutWidths, HasSizes, IsByHeader, IsLayoutOf}
use Rattle.dl_index.specs.Parts.{Reads}
use Rattle.dl_index.specs.declared.header.Header.{Header}
use Rattle.dl_index.specs.declared.layout.Layout.{Layout}
use Rattle.dl_index.proofs.PlaceLemmas.{next_is}

-- how many bytes each part has
abbrev layout_sizes : Layout → List ℕ
layout_sizes l =
    l.count * l.starts_width ∷ l.count * l.files_width ∷ l.count * l.lines_width ∷ l.count * l.columns_width
    ∷ l.count * l.discriminators_width ∷ ((l.count + 7) / 8) ∷ l.files * 24 ∷ l.texts * 16 ∷ l.text_bytes ∷ []

sizes_by : {l : Layout} {b : List ℕ} → HasSizes l b → HasLayoutWidths l b → layout_sizes l ≡ sizes b
sizes_by s w =
    rw (s.count, s.files, s.texts, s.text_bytes, w.starts, w.files, w.lines, w.columns, w.discriminators)

pub part_of : {l : Layout} {b : List ℕ} → IsLayoutOf l b → (k : ℕ)
    → slice_index_or (cut_of (layout_sizes l) (drop 128 b)) k [] ≡ part b k
unfolding part
part_of {b = b} is k = ap (λ n. slice_index_or (cut_of n (drop 128 b)) k []) (sizes_by is.sizes is.widths)

is_size : (n m : ℕ) → n ≡ m → is_number_size n ≡ true → is_number_size m ≡ true
is_size n m is size = subst (λ k. is_number_size k ≡ true) is size

-- a layout by the header of bytes is theirs
pub layout_by : {l : Layout} {h : Header} {b : List ℕ} → IsByHeader l h → Reads h b → IsLaidOut b → IsLayoutOf l b
layout_by by r laid_out =
    let w = r.widths in
    record {
      laid_out = laid_out;
      sizes = record {
        base = by.base ∙ r.base;
        count = by.count ∙ r.count;
        files = by.files ∙ r.files;
        texts = by.texts ∙ r.texts;
        text_bytes = by.text_bytes ∙ r.text_bytes;
      };
      widths = record {
        starts = by.starts ∙ w.starts;
        files = by.files_width ∙ w.files;
        lines = by.lines ∙ w.lines;
        columns = by.columns ∙ w.columns;
        discriminators = by.discriminators ∙ w.discriminators;
      };
    }

-- how many bytes there are
pub len_of : (l : Layout) (b : List ℕ) → IsLayoutOf l b → length b ≡ l.len
len_of l b is =
    let end1 = l.after_starts in
    let end2 = l.after_files in
    let end3 = l.after_lines in
    let end4 = l.after_columns in
    let end5 = l.after_discriminators in
    let end6 = l.after_statements in
    let end7 = l.after_file_table in
    let end8 = l.after_text_table in
    let end9 = l.after_texts in
    let all : 128 + sum (map rounded (layout_sizes l)) ≡ length b =
    subst (λ s. 128 + sum (map rounded s) ≡ length b) (sym (sizes_by is.sizes is.widths)) is.laid_out.placed.end in
    omega arith

-- a column after another one, whose length was computed
pub after_column : (at count x y size r : ℕ) → r ≡ rounded (count * x) → x ≡ size → y ≡ size
    → at + r ≡ at + rounded (count * y)
after_column at count x y size r is x_is y_is = ap (λ n. at + n) (is ∙ ap (λ n. rounded (count * n)) (x_is ∙ sym y_is))

-- a number of a column that stands at a place
number_read : (b : List ℕ) (n at w i k : ℕ) → w ≡ width_in b i → part b i ≡ take (n * w) (drop at b) → k * w + w ≤ n * w
    → field (at + k * w) w b ≡ number_at (width_in b i) (part b i) k
number_read b n at w i k width is within =
    let split : k * w + (n * w - k * w) ≡ n * w = omega arith in
    let whole : take w (drop (k * w) (part b i)) ≡ take w (drop (at + k * w) b) =
    ap (λ p. take w (drop (k * w) p)) is ∙ ap (λ m. take w (drop (k * w) (take m (drop at b)))) (sym split)
    ∙ ap (take w) (drop-take (k * w) (n * w - k * w) (drop at b))
    ∙ take-take w (n * w - k * w) (drop (k * w) (drop at b)) (omega arith)
    ∙ ap (take w) (drop-drop (k * w) at b) in
    sym (ap little whole) ∙ ap (λ m. number_at m (part b i) k) width

module _ (l : Layout) (b : List ℕ) (is : IsLayoutOf l b) (k : ℕ) (within : k < l.count) where
  -- number k of the column of a place and a width is there
  abbrev pub StandsIn : (at w i : ℕ) → Type 0
  StandsIn at w i = (at + k * w + w ≤ length b) × (field (at + k * w) w b ≡ number_at (width_in b i) (part b i) k)

  stands_in : (at w i : ℕ) → w ≡ width_in b i → part b i ≡ take (l.count * w) (drop at b)
      → at + l.count * w ≤ l.statements_at → StandsIn at w i
  stands_in at w i width part_is before =
      let upto : suc k * w ≤ l.count * w = mul-le-mul_right w within in
      let end6 = l.after_statements in
      let end7 = l.after_file_table in
      let end8 = l.after_text_table in
      let end9 = l.after_texts in
      let len = len_of l b is in
      let row : k * w + w ≤ l.count * w = omega arith in
      (omega arith, number_read b l.count at w i k width part_is row)

  past_starts : drop l.files_at b ≡ drop (rounded (l.count * l.starts_width)) (drop 128 b)
  past_starts = next_is b _ 128 (rounded (l.count * l.starts_width)) _ l.after_starts refl

  past_files : drop l.lines_at b ≡ drop (rounded (l.count * l.files_width)) (drop (rounded (l.count * l.starts_width)) (drop 128 b))
  past_files = next_is b _ _ (rounded (l.count * l.files_width)) _ l.after_files past_starts

  past_lines : drop l.columns_at b
      ≡ drop (rounded (l.count * l.lines_width)) (drop (rounded (l.count * l.files_width))
      (drop (rounded (l.count * l.starts_width)) (drop 128 b)))
  past_lines = next_is b _ _ (rounded (l.count * l.lines_width)) _ l.after_lines past_files

  past_columns : drop l.discriminators_at b
      ≡ drop (rounded (l.count * l.columns_width)) (drop (rounded (l.count * l.lines_width))
      (drop (rounded (l.count * l.files_width)) (drop (rounded (l.count * l.starts_width)) (drop 128 b))))
  past_columns = next_is b _ _ (rounded (l.count * l.columns_width)) _ l.after_columns past_lines

  pub in_files : StandsIn l.files_at l.files_width 1
  in_files =
      let end2 = l.after_files in
      let end3 = l.after_lines in
      let end4 = l.after_columns in
      let end5 = l.after_discriminators in
      stands_in _ _ 1 is.widths.files (sym (part_of is 1) ∙ sym (ap (take (l.count * l.files_width)) past_starts)) (omega arith)

  pub in_lines : StandsIn l.lines_at l.lines_width 2
  in_lines =
      let end3 = l.after_lines in
      let end4 = l.after_columns in
      let end5 = l.after_discriminators in
      stands_in _ _ 2 is.widths.lines (sym (part_of is 2) ∙ sym (ap (take (l.count * l.lines_width)) past_files)) (omega arith)

  pub in_columns : StandsIn l.columns_at l.columns_width 3
  in_columns =
      let end4 = l.after_columns in
      let end5 = l.after_discriminators in
      stands_in _ _ 3 is.widths.columns (sym (part_of is 3) ∙ sym (ap (take (l.count * l.columns_width)) past_lines)) (omega arith)

  pub in_discriminators : StandsIn l.discriminators_at l.discriminators_width 4
  in_discriminators =
      let end5 = l.after_discriminators in
      stands_in _ _ 4 is.widths.discriminators
      (sym (part_of is 4) ∙ sym (ap (take (l.count * l.discriminators_width)) past_columns)) (omega arith)
