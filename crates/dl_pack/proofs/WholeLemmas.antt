-- The header in place of the first bytes, and the whole.
use Rattle.std.proofs.Common.{◌≡◌, ℕ, ◌+◌, ◌-◌, ◌≤◌, Bool, List, [], ◌∷◌, ◌++◌, length, take, drop, map, replicate}
use Rattle.std.proofs.Common.{arith, append_assoc, sym, ap, ap₂, ◌∙◌, length-append, length-drop}
use Rattle.std.specs.Prelude.{if◌then◌else◌}
use Rattle.std.specs.List.{flat_map}
use Rattle.std.proofs.lemmas.Grind.{flat_map-append}
use Rattle.std.proofs.lemmas.List.{append-nil, take_all, drop_all, length-replicate}
use Rattle.dl_num.specs.Fixed.{little_bytes}
use Rattle.dl_crc.specs.Crc32.{crc_32}
use Rattle.dl_stretch.specs.declared.stretch.Stretch.{Stretch}
use Rattle.dl_pack.specs.declared.names.FileTexts.{FileTexts}
use Rattle.dl_pack.specs.Columns.{columns_of, padded, part_by, statement_bytes, width_by}
use Rattle.dl_pack.specs.Tables.{texts_at, total_len}
use Rattle.dl_pack.specs.IndexOf.{header_front, header_back, header_with, header_of, whole_of, body_by, base_of, index_by, tables_by}

-- a header has 128 bytes
pub header_len : (flags a b c d e f sum own : ℕ) (widths build_id : List ℕ) → length widths ≡ 5 → length build_id ≤ 32
    → length (header_with (header_front flags (a ∷ b ∷ c ∷ d ∷ e ∷ f ∷ []) widths sum) build_id own) ≡ 128
header_len flags a b c d e f sum own widths build_id five short =
    let back : List ℕ = little_bytes 4 own ++ header_back build_id in
    let tail : List ℕ = (0 ∷ 0 ∷ 0 ∷ []) ++ little_bytes 4 sum in
    let e1 : length (widths ++ tail) ≡ length widths + 7 = length-append widths tail in
    let e2 : length (build_id ++ replicate (44 - length build_id) 0) ≡ length build_id + (44 - length build_id) =
    length-append build_id (replicate (44 - length build_id) 0) ∙ ap (λ n. length build_id + n) (length-replicate (44 - length build_id) 0) in
    length-append (header_front flags (a ∷ b ∷ c ∷ d ∷ e ∷ f ∷ []) widths sum) back ∙ omega (arith, e1, e2)

pub filled_whole : (n len : ℕ) (items after front : List ℕ) (flags base count files texts text_bytes sum : ℕ)
    (widths build_id : List ℕ) → n ≡ length items → len ≡ length items
    → 128 ≤ length items → length widths ≡ 5 → length build_id ≤ 32
    → sum ≡ crc_32 (drop 128 items)
    → front ≡ header_of (header_front flags (len ∷ base ∷ count ∷ files ∷ texts ∷ text_bytes ∷ []) widths sum) build_id
    → after ≡ front ++ drop (length front) items
    → take n (after ++ drop (length after) items)
    ≡ whole_of flags base count files texts text_bytes widths build_id (drop 128 items)
filled_whole n len items after front flags base count files texts text_bytes sum widths build_id same same_len room five short sum_is is put =
    let own : ℕ = crc_32 (header_with (header_front flags (len ∷ base ∷ count ∷ files ∷ texts ∷ text_bytes ∷ []) widths sum) build_id 0) in
    let front_len : length front ≡ 128 = ap length is ∙ header_len flags len base count files texts text_bytes sum own widths build_id five short in
    let body_len : length (drop 128 items) ≡ length items - 128 = length-drop 128 items in
    let len_is : len ≡ 128 + length (drop 128 items) = omega arith in
    let after_is : after ≡ front ++ drop 128 items = put ∙ ap (λ n. front ++ drop n items) front_len in
    let all : length after ≡ length front + length (drop 128 items) = ap length after_is ∙ length-append front (drop 128 items) in
    let items_len : length items ≤ length after = omega arith in
    let after_len : length after ≤ n = omega arith in
    ap (λ rest. take n (after ++ rest)) (drop_all (length after) items items_len)
    ∙ ap (take n) (append-nil after) ∙ take_all n after after_len ∙ after_is
    ∙ ap (λ h. h ++ drop 128 items) is
    ∙ ap₂ (λ n s. header_of (header_front flags (n ∷ base ∷ count ∷ files ∷ texts ∷ text_bytes ∷ []) widths s) build_id ++ drop 128 items) len_is sum_is

assoc : (z c s t : List ℕ) → (z ++ (c ++ s)) ++ t ≡ z ++ (c ++ (s ++ t))
assoc z c s t = simp (append_assoc)

-- what stands after the header, of columns with bits and of tables
pub body_put : (zeros front bytes : List ℕ) (base : ℕ) (files_first texts_first : List ℕ) (stretches : List Stretch)
    (files : List FileTexts) (texts : List (List ℕ)) → front ≡ zeros
    → bytes ≡ front ++ (flat_map padded (map (part_by base files_first stretches) columns_of)
    ++ padded (statement_bytes stretches))
    → bytes ++ flat_map padded (tables_by files_first texts_first files texts)
    ≡ zeros ++ body_by base files_first texts_first stretches files texts
body_put zeros front bytes base files_first texts_first stretches files texts same is =
    let columns : List (List ℕ) = map (part_by base files_first stretches) columns_of in
    let tables : List (List ℕ) = tables_by files_first texts_first files texts in
    ap (λ b. b ++ flat_map padded tables)
    (is ∙ ap (λ f. f ++ (flat_map padded columns ++ padded (statement_bytes stretches))) same)
    ∙ assoc zeros (flat_map padded columns) (padded (statement_bytes stretches)) (flat_map padded tables)
    ∙ ap (λ b. zeros ++ b) (sym (flat_map-append padded columns (statement_bytes stretches ∷ tables)))

pub made_whole : (all : Bool) (build_id files_first texts_first texts_are : List ℕ) (stretches : List Stretch)
    (all_files : List FileTexts) (all_texts : List (List ℕ)) (flags base count files texts text_bytes : ℕ)
    (widths bytes result : List ℕ) → flags ≡ (if all then 1 else 0) → base ≡ base_of stretches → count ≡ length stretches
    → files ≡ length files_first → texts ≡ length texts_first → text_bytes ≡ total_len (texts_at all_texts texts_first)
    → widths ≡ map (width_by base files_first stretches) columns_of → texts_first ≡ texts_are
    → bytes ≡ replicate 128 0 ++ body_by base files_first texts_first stretches all_files all_texts
    → result ≡ whole_of flags base count files texts text_bytes widths build_id (drop 128 bytes)
    → result ≡ index_by all build_id files_first texts_are stretches all_files all_texts
made_whole all build_id files_first texts_first texts_are stretches all_files all_texts flags base count files texts text_bytes widths
    bytes result flags_is base_is count_is files_is texts_is total_is widths_is order_is body_is is =
    is ∙ ap (λ bytes. whole_of flags base count files texts text_bytes widths build_id (drop 128 bytes)) body_is
    ∙ ap (λ ws. whole_of flags base count files texts text_bytes ws build_id
    (body_by base files_first texts_first stretches all_files all_texts)) widths_is
    ∙ ap₂ (λ f b. whole_of f b count files texts text_bytes (map (width_by b files_first stretches) columns_of) build_id
    (body_by b files_first texts_first stretches all_files all_texts)) flags_is base_is
    ∙ ap₂ (λ c f. whole_of (if all then 1 else 0) (base_of stretches) c f texts text_bytes
    (map (width_by (base_of stretches) files_first stretches) columns_of) build_id
    (body_by (base_of stretches) files_first texts_first stretches all_files all_texts)) count_is files_is
    ∙ ap₂ (λ t n. whole_of (if all then 1 else 0) (base_of stretches) (length stretches) (length files_first) t n
    (map (width_by (base_of stretches) files_first stretches) columns_of) build_id
    (body_by (base_of stretches) files_first texts_first stretches all_files all_texts)) texts_is total_is
    ∙ ap (λ order. index_by all build_id files_first order stretches all_files all_texts) order_is
