-- What the bytes of an index keep.
use Rattle.std.proofs.Common.{◌≡◌, ℕ, ◌+◌, ◌*◌, ◌-◌, ◌/◌, ◌%◌, ◌<◌, ◌^◌, Bool, List, [], length, map, get_or}
use Rattle.std.proofs.Common.{ap, ap₂, ◌∙◌, arith}
use Rattle.std.specs.Prelude.{slice_index}
use Rattle.std.specs.List.{concat}
use Rattle.std.proofs.lemmas.List.{length-map}
use Rattle.dl_index.specs.Columns.{number_at}
use Rattle.dl_index.specs.Layout.{field, base_in, count_in, files_in, texts_in, text_bytes_in, width_in, part, sizes}
use Rattle.dl_index.specs.Layout.{start_in, file_in, line_in, column_in, discriminator_in, unit_in, text_number_in}
use Rattle.dl_index.specs.Layout.{text_place_in, text_len_in}
use Rattle.dl_stretch.specs.declared.stretch.Stretch.{Stretch}
use Rattle.dl_pack.specs.declared.names.FileTexts.{FileTexts}
use Rattle.dl_pack.specs.declared.columns.Column.{Column}
use Rattle.dl_pack.specs.declared.columns.Column.TheVariants as columns
use Rattle.dl_pack.specs.Columns.{column_of, number_of, told_number, greatest, width_by, part_by, told_bit}
use Rattle.dl_pack.specs.Tables.{text_number, texts_at, total_len}
use Rattle.dl_pack.specs.IndexOf.{base_of, parts_by, body_by}
use Rattle.dl_pack.specs.Fits.{GivenFits}
use Rattle.dl_pack.proofs.HeadLemmas.{Says}
use Rattle.dl_pack.proofs.PartLemmas.{head_of, sizes_are, part_is}
use Rattle.dl_pack.proofs.ReadLemmas.{no_stretch, column_read, bit_read, file_in_order, unit_read, text_read}
use Rattle.dl_pack.proofs.TextLemmas.{place_of, text_within, place_read, len_read}

pub record Keeps (b files_first texts_first : List ℕ) (stretches : List Stretch) (all_files : List FileTexts) (all_texts : List (List ℕ))
    : Type 0 where
  pub base : base_in b ≡ base_of stretches
  pub count : count_in b ≡ length stretches
  pub files : files_in b ≡ length files_first
  pub texts : texts_in b ≡ length texts_first
  pub text_bytes : text_bytes_in b ≡ total_len (texts_at all_texts texts_first)
  -- of stretch k
  pub start : (k : ℕ) → k < length stretches → start_in b k ≡ (get_or stretches k no_stretch).start - base_of stretches
  pub file : (k : ℕ) → k < length stretches
      → file_in b k ≡ told_number files_first columns.File (get_or stretches k no_stretch).told
  pub line : (k : ℕ) → k < length stretches
      → line_in b k ≡ told_number files_first columns.Line (get_or stretches k no_stretch).told
  pub column : (k : ℕ) → k < length stretches
      → column_in b k ≡ told_number files_first columns.Column (get_or stretches k no_stretch).told
  pub discriminator : (k : ℕ) → k < length stretches
      → discriminator_in b k ≡ told_number files_first columns.Discriminator (get_or stretches k no_stretch).told
  pub bit : (k : ℕ) → k < length stretches
      → slice_index (part b 5) (k / 8) / 2 ^ (k % 8) % 2 ≡ told_bit (get_or stretches k no_stretch).told
  -- of file f
  pub unit : (f : ℕ) → f < length files_first → unit_in b f ≡ (file_in_order all_files files_first f).unit
  pub text : (f i : ℕ) → f < length files_first → i < 3
      → text_number_in b f i ≡ text_number texts_first (get_or (file_in_order all_files files_first f).texts i 0)
  -- of text t
  pub place : (t : ℕ) → t < length texts_first → text_place_in b t ≡ place_of (texts_at all_texts texts_first) t
  pub len : (t : ℕ) → t < length texts_first
      → text_len_in b t ≡ length (get_or (texts_at all_texts texts_first) t [])
  pub bytes : part b 8 ≡ concat (texts_at all_texts texts_first)

column_kept : (base : ℕ) (order : List ℕ) (stretches : List Stretch) (kind : Column) (b : List ℕ) (i : ℕ)
    → width_in b i ≡ width_by base order stretches kind → part b i ≡ part_by base order stretches kind
    → greatest (column_of base order kind stretches) < 2 ^ 64 → (k : ℕ) → k < length stretches
    → number_at (width_in b i) (part b i) k ≡ number_of base order kind (get_or stretches k no_stretch)
column_kept base order stretches kind b i width bytes small k lt =
    ap₂ (λ w p. number_at w p k) width bytes ∙ column_read base order stretches kind k lt small

-- the bytes of an index keep what it is made of
pub index_keeps : (all : Bool) (build_id files_first texts_first : List ℕ) (stretches : List Stretch) (files : List FileTexts)
    (texts : List (List ℕ)) (b : List ℕ) → GivenFits files_first texts_first stretches files texts
    → Says b (head_of all build_id files_first texts_first stretches files texts) build_id
    (body_by (base_of stretches) files_first texts_first stretches files texts)
    → Keeps b files_first texts_first stretches files texts
index_keeps all build_id files_first texts_first stretches files texts b fits says =
    let base : ℕ = base_of stretches in
    let parts : List (List ℕ) = parts_by base files_first texts_first stretches files texts in
    let sized : sizes b ≡ map length parts = sizes_are all build_id files_first texts_first stretches files texts b says in
    let told : List (List ℕ) = texts_at texts texts_first in
    let told_len : length told ≡ length texts_first = length-map texts_first (λ place. get_or texts place []) in
    record {
      base = says.base;
      count = says.count;
      files = says.files;
      texts = says.texts;
      text_bytes = says.text_bytes;
      start =
          column_kept base files_first stretches columns.Start b 0 says.starts (part_is b parts 0 sized says.rest)
          (fits.numbers 0 columns.Start (omega arith));
      file =
          column_kept base files_first stretches columns.File b 1 says.numbers (part_is b parts 1 sized says.rest)
          (fits.numbers 1 columns.Start (omega arith));
      line =
          column_kept base files_first stretches columns.Line b 2 says.lines (part_is b parts 2 sized says.rest)
          (fits.numbers 2 columns.Start (omega arith));
      column =
          column_kept base files_first stretches columns.Column b 3 says.columns (part_is b parts 3 sized says.rest)
          (fits.numbers 3 columns.Start (omega arith));
      discriminator =
          column_kept base files_first stretches columns.Discriminator b 4 says.discriminators
          (part_is b parts 4 sized says.rest) (fits.numbers 4 columns.Start (omega arith));
      bit = λ k lt.
          ap (λ p. slice_index p (k / 8) / 2 ^ (k % 8) % 2) (part_is b parts 5 sized says.rest)
          ∙ bit_read stretches k lt;
      unit = λ f lt.
          ap (field (f * 24) 8) (part_is b parts 6 sized says.rest)
          ∙ unit_read files files_first texts_first f lt (fits.known f 0 lt).unit;
      text = λ f i lt less.
          ap (field (f * 24 + 8 + i * 4) 4) (part_is b parts 6 sized says.rest)
          ∙ text_read files files_first texts_first f i lt less fits.texts_few;
      place = λ t lt.
          let within : t < length told = omega (arith, told_len) in
          ap (field (t * 16) 8) (part_is b parts 7 sized says.rest)
          ∙ place_read told t within (omega (arith, text_within told t within, fits.total));
      len = λ t lt.
          let within : t < length told = omega (arith, told_len) in
          ap (field (t * 16 + 8) 8) (part_is b parts 7 sized says.rest)
          ∙ len_read told t within (omega (arith, text_within told t within, fits.total));
      bytes = part_is b parts 8 sized says.rest;
    }
