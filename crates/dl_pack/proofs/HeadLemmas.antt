-- What the header says reads back.
use Rattle.std.proofs.Common.{◌≡◌, ℕ, ◌+◌, ◌-◌, ◌<◌, ◌≤◌, ◌^◌, List, [], ◌∷◌, ◌++◌, length, take, drop, replicate, codes}
use Rattle.std.proofs.Common.{refl, sym, ap, ◌∙◌, arith, subst, get_or, length-append, length-drop}
use Rattle.std.proofs.lemmas.List.{length-replicate}
use Rattle.std.proofs.Math.Seq.{drop-append_seam, take-append_seam}
use Rattle.dl_num.specs.declared.fixed.Order.TheVariants.{Little}
use Rattle.dl_num.proofs.FixedLaws.{fixed_reads_back}
use Rattle.dl_index.specs.Layout.{field, version_in, length_in, base_in, count_in, files_in, texts_in, text_bytes_in}
use Rattle.dl_index.specs.Layout.{width_in, build_id_len_in}
use Rattle.dl_index.specs.IsIndex.{summed_header}
use Rattle.dl_crc.specs.Crc32.{crc_32}
use Rattle.dl_pack.specs.IndexOf.{header_front, header_back, header_with, whole_of}
use Rattle.dl_pack.specs.Fits.{SumsFit}
use Rattle.dl_pack.proofs.WholeLemmas.{header_len}

-- the numbers of a header
pub record Head : Type 0 where
  pub flags : ℕ
  pub len : ℕ
  pub base : ℕ
  pub count : ℕ
  pub files : ℕ
  pub texts : ℕ
  pub text_bytes : ℕ
  pub starts : ℕ
  pub numbers : ℕ
  pub lines : ℕ
  pub columns : ℕ
  pub discriminators : ℕ
  pub sum : ℕ
  pub own : ℕ

abbrev pub front_by : Head → List ℕ
front_by h =
    header_front h.flags (h.len ∷ h.base ∷ h.count ∷ h.files ∷ h.texts ∷ h.text_bytes ∷ [])
    (h.starts ∷ h.numbers ∷ h.lines ∷ h.columns ∷ h.discriminators ∷ []) h.sum

abbrev pub whole_by : Head → (build_id body : List ℕ) → List ℕ
whole_by h build_id body = header_with (front_by h) build_id h.own ++ body

-- they have room in their fields
pub record HasRoom (h : Head) : Type 0 where
  pub len : h.len < 2 ^ 64
  pub base : h.base < 2 ^ 64
  pub count : h.count < 2 ^ 64
  pub files : h.files < 2 ^ 64
  pub texts : h.texts < 2 ^ 64
  pub text_bytes : h.text_bytes < 2 ^ 64
  pub sum : h.sum < 2 ^ 32
  pub own : h.own < 2 ^ 32

pub record Says (b : List ℕ) (h : Head) (build_id body : List ℕ) : Type 0 where
  pub magic : take 8 b ≡ codes "dlineidx"
  pub version : version_in b ≡ 1
  pub len : length_in b ≡ h.len
  pub base : base_in b ≡ h.base
  pub count : count_in b ≡ h.count
  pub files : files_in b ≡ h.files
  pub texts : texts_in b ≡ h.texts
  pub text_bytes : text_bytes_in b ≡ h.text_bytes
  pub starts : width_in b 0 ≡ h.starts
  pub numbers : width_in b 1 ≡ h.numbers
  pub lines : width_in b 2 ≡ h.lines
  pub columns : width_in b 3 ≡ h.columns
  pub discriminators : width_in b 4 ≡ h.discriminators
  pub sum : field 72 4 b ≡ h.sum
  pub own : field 76 4 b ≡ h.own
  pub short : build_id_len_in b ≤ 32
  pub summed : summed_header b ≡ header_with (front_by h) build_id 0
  pub rest : drop 128 b ≡ body
  pub whole : length b ≡ 128 + length body

back_len : (build_id : List ℕ) → length build_id ≤ 32 → length (header_back build_id) ≡ 48
back_len build_id short =
    let rest : ℕ = 44 - length build_id in
    let e : length (build_id ++ replicate rest 0) ≡ length build_id + rest =
    length-append build_id (replicate rest 0) ∙ ap (λ n. length build_id + n) (length-replicate rest 0) in
    omega (arith, e)

len_by : (h : Head) (build_id : List ℕ) → length build_id ≤ 32
    → length (header_with (front_by h) build_id h.own) ≡ 128
len_by h build_id short =
    header_len h.flags h.len h.base h.count h.files h.texts h.text_bytes h.sum h.own
    (h.starts ∷ h.numbers ∷ h.lines ∷ h.columns ∷ h.discriminators ∷ []) build_id refl short

pub body_said : (h : Head) (build_id body : List ℕ) → length build_id ≤ 32 → drop 128 (whole_by h build_id body) ≡ body
body_said h build_id body short =
    ap (λ n. drop n (whole_by h build_id body)) (sym (len_by h build_id short))
    ∙ drop-append_seam (header_with (front_by h) build_id h.own) body

back_by : (build_id body : List ℕ) → length build_id ≤ 32 → take 48 (header_back build_id ++ body) ≡ header_back build_id
back_by build_id body short =
    ap (λ n. take n (header_back build_id ++ body)) (sym (back_len build_id short))
    ∙ take-append_seam (header_back build_id) body

pub summed_said : (h : Head) (build_id body : List ℕ) → length build_id ≤ 32
    → summed_header (whole_by h build_id body) ≡ header_with (front_by h) build_id 0
summed_said h build_id body short =
    ap (λ back. (take 76 (whole_by h build_id body) ++ (0 ∷ 0 ∷ 0 ∷ 0 ∷ [])) ++ back) (back_by build_id body short)

pub whole_said : (h : Head) (build_id body : List ℕ) → length build_id ≤ 32
    → length (whole_by h build_id body) ≡ 128 + length body
whole_said h build_id body short =
    length-append (header_with (front_by h) build_id h.own) body
    ∙ ap (λ n. n + length body) (len_by h build_id short)

pub said : (h : Head) (build_id body : List ℕ) → HasRoom h → length build_id ≤ 32
    → Says (whole_by h build_id body) h build_id body
said h build_id body room short = record {
  magic = refl;
  version = refl;
  len = fixed_reads_back Little 8 h.len room.len;
  base = fixed_reads_back Little 8 h.base room.base;
  count = fixed_reads_back Little 8 h.count room.count;
  files = fixed_reads_back Little 8 h.files room.files;
  texts = fixed_reads_back Little 8 h.texts room.texts;
  text_bytes = fixed_reads_back Little 8 h.text_bytes room.text_bytes;
  starts = refl;
  numbers = refl;
  lines = refl;
  columns = refl;
  discriminators = refl;
  sum = fixed_reads_back Little 4 h.sum room.sum;
  own = fixed_reads_back Little 4 h.own room.own;
  short = omega arith;
  summed = summed_said h build_id body short;
  rest = body_said h build_id body short;
  whole = whole_said h build_id body short;
}

five_cells : (w : List ℕ) → length w ≡ 5
    → get_or w 0 0 ∷ get_or w 1 0 ∷ get_or w 2 0 ∷ get_or w 3 0 ∷ get_or w 4 0 ∷ [] ≡ w
five_cells [] e = absurd (omega arith)
five_cells (a ∷ []) e = absurd (omega arith)
five_cells (a ∷ b ∷ []) e = absurd (omega arith)
five_cells (a ∷ b ∷ c ∷ []) e = absurd (omega arith)
five_cells (a ∷ b ∷ c ∷ d ∷ []) e = absurd (omega arith)
five_cells (a ∷ b ∷ c ∷ d ∷ f ∷ []) e = refl
five_cells (a ∷ b ∷ c ∷ d ∷ f ∷ g ∷ w) e = absurd (omega arith)

sums_by : (h : Head) (build_id body : List ℕ) → length build_id ≤ 32 → 128 + length body < 2 ^ 64
    → crc_32 (header_with (front_by h) build_id 0) < 2 ^ 32 → crc_32 body < 2 ^ 32
    → SumsFit (whole_by h build_id body)
sums_by h build_id body short len header sum = record {
  len = omega (arith, whole_said h build_id body short);
  header = subst (λ bytes. crc_32 bytes < 2 ^ 32) (sym (summed_said h build_id body short)) header;
  body = subst (λ bytes. crc_32 bytes < 2 ^ 32) (sym (body_said h build_id body short)) sum;
}

pub sums_whole : (flags base count files texts text_bytes : ℕ) (widths build_id body : List ℕ) → length widths ≡ 5
    → length build_id ≤ 32 → 128 + length body < 2 ^ 64 → crc_32 body < 2 ^ 32
    → crc_32 (header_with (header_front flags ((128 + length body) ∷ base ∷ count ∷ files ∷ texts ∷ text_bytes ∷ []) widths (crc_32 body)) build_id 0) < 2 ^ 32
    → SumsFit (whole_of flags base count files texts text_bytes widths build_id body)
sums_whole flags base count files texts text_bytes widths build_id body five short len sum =
    let front : List ℕ → List ℕ = λ w.
    header_front flags ((128 + length body) ∷ base ∷ count ∷ files ∷ texts ∷ text_bytes ∷ []) w (crc_32 body) in
    let cells : List ℕ =
    get_or widths 0 0 ∷ get_or widths 1 0 ∷ get_or widths 2 0 ∷ get_or widths 3 0 ∷ get_or widths 4 0 ∷ [] in
    let h : Head = record {
      flags = flags;
      len = 128 + length body;
      base = base;
      count = count;
      files = files;
      texts = texts;
      text_bytes = text_bytes;
      starts = get_or widths 0 0;
      numbers = get_or widths 1 0;
      lines = get_or widths 2 0;
      columns = get_or widths 3 0;
      discriminators = get_or widths 4 0;
      sum = crc_32 body;
      own = crc_32 (header_with (front cells) build_id 0);
    } in
    subst
    (λ w. crc_32 (header_with (front w) build_id 0) < 2 ^ 32
    → SumsFit (whole_of flags base count files texts text_bytes w build_id body))
    (five_cells widths five) (λ header. sums_by h build_id body short len header sum)

-- the sums of bytes in whose place the header was put
pub filled_sums : (len : ℕ) (items after : List ℕ) (flags base count files texts text_bytes sum : ℕ)
    (widths build_id : List ℕ) → len ≡ length items → len < 2 ^ 64 → 128 ≤ length items → length widths ≡ 5
    → length build_id ≤ 32 → sum ≡ crc_32 (drop 128 items) → sum < 2 ^ 32
    → crc_32 (header_with (header_front flags (len ∷ base ∷ count ∷ files ∷ texts ∷ text_bytes ∷ []) widths sum) build_id 0) < 2 ^ 32
    → after ≡ whole_of flags base count files texts text_bytes widths build_id (drop 128 items) → SumsFit after
filled_sums len items after flags base count files texts text_bytes sum widths build_id same small room five short sum_is sum_small header is =
    let body : List ℕ = drop 128 items in
    let len_is : len ≡ 128 + length body = omega (arith, length-drop 128 items) in
    let all : 128 + length body < 2 ^ 64 = omega arith in
    subst SumsFit (sym is)
    (sums_whole flags base count files texts text_bytes widths build_id body five short all
    (subst (λ n. n < 2 ^ 32) sum_is sum_small)
    (subst (λ s. crc_32 (header_with (header_front flags ((128 + length body) ∷ base ∷ count ∷ files ∷ texts ∷ text_bytes ∷ []) widths s) build_id 0) < 2 ^ 32) sum_is
    (subst (λ n. crc_32 (header_with (header_front flags (n ∷ base ∷ count ∷ files ∷ texts ∷ text_bytes ∷ []) widths sum) build_id 0) < 2 ^ 32) len_is header)))
