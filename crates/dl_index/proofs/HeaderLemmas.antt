-- What the first 128 bytes of an index say of all of them.
use Rattle.std.proofs.Common.{◌≡◌, ◌≢◌, ℕ, ◌+◌, ◌-◌, ◌<◌, ◌≤◌, min, true, List, ◌++◌, [], ◌∷◌, take, drop, length, slice_index, map, sum, length-take, sym, ap, ap₂, subst, ◌∙◌, arith}
use Rattle.std.proofs.lemmas.List.{drop-take, get_or-take, take-take, take_min}
use Rattle.std.specs.List.{list_all}
use Rattle.dl_num.specs.Fixed.{little, is_number_size}
use Rattle.dl_crc.specs.Crc32.{crc_32}
use Rattle.dl_index.specs.Layout.{field, rounded, build_id_len_in}
use Rattle.dl_index.specs.IsIndex.{HasMagic, IsPlaced, widths, HeaderAgrees, summed_header}
use Rattle.dl_index.specs.Parts.{HasWidths, Reads, header_sizes}
use Rattle.dl_index.specs.declared.header.Widths.{Widths}
use Rattle.dl_index.specs.declared.header.Header.{Header}
use Rattle.dl_index.proofs.PartLemmas.{placed_by, sizes_are}

module _ (front b : List ℕ) (same : front ≡ take 128 b) where
  front_is : (from size : ℕ) → from + size ≤ 128 → take size (drop from front) ≡ take size (drop from b)
  front_is from size within =
      let all : from + (128 - from) ≡ 128 = omega arith in
      ap (λ x. take size (drop from x)) same ∙ ap (λ n. take size (drop from (take n b))) (sym all)
      ∙ ap (take size) (drop-take from (128 - from) b)
      ∙ take-take size (128 - from) (drop from b) (omega arith)

  pub field_is : (from size : ℕ) → from + size ≤ 128 → field from size front ≡ field from size b
  field_is from size within = ap little (front_is from size within)

  pub byte_is : (k : ℕ) → k < 128 → slice_index front k ≡ slice_index b k
  byte_is k within = ap (λ x. slice_index x k) same ∙ get_or-take 128 b k 0 within

  pub magic_is : HasMagic front → HasMagic b
  magic_is is = sym (front_is 0 8 (omega arith)) ∙ is

  pub whole_front : 128 ≤ length front → 128 ≤ length b
  whole_front enough = let len = ap length same ∙ length-take 128 b in omega arith

  pub short_front : length front < 128 → length b < 128
  short_front short = let len = ap length same ∙ length-take 128 b in omega arith

  widths_are : widths front ≡ widths b
  widths_are =
      rw (
        byte_is 64 (omega arith),
        byte_is 65 (omega arith),
        byte_is 66 (omega arith),
        byte_is 67 (omega arith),
        byte_is 68 (omega arith),
      )

  pub no_widths : ¬ (list_all is_number_size (widths front) ≡ true) → ¬ (IsPlaced b)
  no_widths none placed = none (ap (list_all is_number_size) widths_are ∙ placed.widths)

  widths_of : {w : Widths} → HasWidths w front → HasWidths w b
  widths_of w = record {
    starts = w.starts ∙ byte_is 64 (omega arith);
    files = w.files ∙ byte_is 65 (omega arith);
    lines = w.lines ∙ byte_is 66 (omega arith);
    columns = w.columns ∙ byte_is 67 (omega arith);
    discriminators = w.discriminators ∙ byte_is 68 (omega arith);
  }

  pub reads_all : {h : Header} → Reads h front → Reads h b
  reads_all r = record {
    base = r.base ∙ field_is 24 8 (omega arith);
    count = r.count ∙ field_is 32 8 (omega arith);
    files = r.files ∙ field_is 40 8 (omega arith);
    texts = r.texts ∙ field_is 48 8 (omega arith);
    text_bytes = r.text_bytes ∙ field_is 56 8 (omega arith);
    widths = widths_of r.widths;
  }

  summed_is : summed_header front ≡ summed_header b
  summed_is =
      ap₂ (λ x y. x ++ (0 ∷ 0 ∷ 0 ∷ 0 ∷ []) ++ y) (front_is 0 76 (omega arith)) (front_is 80 48 (omega arith))

  pub agrees_all : HeaderAgrees front → HeaderAgrees b
  agrees_all agrees = sym (field_is 76 4 (omega arith)) ∙ agrees ∙ ap crc_32 summed_is

  pub agrees_front : HeaderAgrees b → HeaderAgrees front
  agrees_front agrees = field_is 76 4 (omega arith) ∙ agrees ∙ sym (ap crc_32 summed_is)

  -- what is known once the parts are found to fill the bytes
  pub placed_all : {h : Header} → Reads h front → build_id_len_in front ≤ 32
      → 128 + sum (map rounded (header_sizes h)) ≡ length b → IsPlaced b
  placed_all r small end =
      placed_by (reads_all r) (subst (λ n. n ≤ 32) (byte_is 80 (omega arith)) small) end

  pub too_long_build_id : 32 < build_id_len_in front → ¬ (IsPlaced b)
  too_long_build_id long placed =
      let is = byte_is 80 (omega arith) in
      let small = placed.build_id in
      omega arith

  pub other_end : {h : Header} (len : ℕ) → Reads h front → len ≡ length b
      → 128 + sum (map rounded (header_sizes h)) ≢ len → ¬ (IsPlaced b)
  other_end len r is other placed =
      other (ap (λ s. 128 + sum (map rounded s)) (sizes_are (reads_all r)) ∙ placed.end ∙ sym is)

-- the first bytes of all of them
pub front_of : (b : List ℕ) (n : ℕ) → n ≡ min (length b) 128 → take n b ≡ take 128 b
front_of b n is =
    let swap : n ≡ min 128 (length b) = omega arith in
    ap (λ m. take m b) swap ∙ take_min 128 b
