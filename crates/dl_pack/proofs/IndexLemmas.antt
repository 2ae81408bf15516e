-- The bytes of an index are well-formed.
use Rattle.std.proofs.Common.{◌≡◌, ℕ, ◌+◌, ◌<◌, ◌≤◌, Bool, true, List, [], length, map, get_or}
use Rattle.std.proofs.Common.{Option, None, Some, sym, ap, ◌∙◌, arith}
use Rattle.std.specs.Prelude.{sum}
use Rattle.std.proofs.lemmas.List.{length-map}
use Rattle.dl_num.specs.Fixed.{is_number_size}
use Rattle.dl_crc.specs.Crc32.{crc_32}
use Rattle.dl_index.specs.Layout.{width_in, rounded, start_in, base_in}
use Rattle.dl_index.specs.IsIndex.{IsPlaced, IsHeaded, BodyAgrees, IsOrdered, FilesAreThere, HasTexts, IsIndex}
use Rattle.dl_stretch.specs.declared.told.Told.{Told}
use Rattle.dl_stretch.specs.declared.stretch.Stretch.{Stretch}
use Rattle.dl_stretch.specs.Laws.{AtAddresses}
use Rattle.dl_pack.specs.declared.names.FileTexts.{FileTexts}
use Rattle.dl_pack.specs.declared.columns.Column.{Column}
use Rattle.dl_pack.specs.declared.columns.Column.TheVariants as columns
use Rattle.dl_pack.specs.Columns.{told_number, column_of, greatest, width_by}
use Rattle.dl_pack.specs.Tables.{texts_at}
use Rattle.dl_pack.specs.IndexOf.{base_of, parts_by, body_by, index_by}
use Rattle.dl_pack.specs.Telling.{StretchesRise}
use Rattle.dl_pack.specs.Fits.{SumsFit, GivenFits}
use Rattle.dl_pack.proofs.HeadLemmas.{Says}
use Rattle.dl_pack.proofs.PartLemmas.{head_of, sizes_are, index_says}
use Rattle.dl_pack.proofs.CutLemmas.{parts_len}
use Rattle.dl_pack.proofs.WidthLemmas.{least_size_is}
use Rattle.dl_pack.proofs.FoundLemmas.{number_upto}
use Rattle.dl_pack.proofs.ReadLemmas.{no_stretch, file_in_order, text_upto}
use Rattle.dl_pack.proofs.TextLemmas.{text_within}
use Rattle.dl_pack.proofs.KeptLemmas.{Keeps, index_keeps}
use Rattle.dl_pack.proofs.RiseLemmas.{start_at, start_above, base_upto, base_first}

width_is : (base : ℕ) (order : List ℕ) (stretches : List Stretch) (kind : Column) (n : ℕ)
    → n ≡ width_by base order stretches kind → is_number_size n ≡ true
width_is base order stretches kind n e =
    ap is_number_size e ∙ least_size_is (greatest (column_of base order kind stretches))

module _ (all : Bool) (build_id files_first texts_first : List ℕ) (stretches : List Stretch) (files : List FileTexts)
    (texts : List (List ℕ)) (b : List ℕ) where
  abbrev IsSaid : Type 0
  IsSaid =
      Says b (head_of all build_id files_first texts_first stretches files texts) build_id
      (body_by (base_of stretches) files_first texts_first stretches files texts)

  placed : IsSaid → IsPlaced b
  placed says =
      let parts : List (List ℕ) = parts_by (base_of stretches) files_first texts_first stretches files texts in
      record {
        widths =
            rw (
              width_is (base_of stretches) files_first stretches columns.Start (width_in b 0) says.starts,
              width_is (base_of stretches) files_first stretches columns.File (width_in b 1) says.numbers,
              width_is (base_of stretches) files_first stretches columns.Line (width_in b 2) says.lines,
              width_is (base_of stretches) files_first stretches columns.Column (width_in b 3) says.columns,
              width_is (base_of stretches) files_first stretches columns.Discriminator (width_in b 4) says.discriminators,
            );
        build_id = says.short;
        end =
            ap (λ s. 128 + sum (map rounded s)) (sizes_are all build_id files_first texts_first stretches files texts b says)
            ∙ ap (λ n. 128 + n) (parts_len parts) ∙ sym says.whole;
      }

  -- its header agrees with its bytes
  pub is_headed : IsSaid → IsHeaded b
  is_headed says = record {
    whole = record {
      header = record { magic = says.magic; len = omega (arith, says.whole); version = says.version };
      len = says.len ∙ sym says.whole;
    };
    placed = placed says;
    sum = says.own ∙ ap crc_32 (sym says.summed);
  }

  pub body_agrees : IsSaid → BodyAgrees b
  body_agrees says = says.sum ∙ ap crc_32 (sym says.rest)

file_upto : (order : List ℕ) (told : Option Told) → told_number order columns.File told ≤ length order
file_upto order None = omega arith
file_upto order (Some t) = number_upto order t.file

module _ (files_first texts_first : List ℕ) (stretches : List Stretch) (files : List FileTexts) (texts : List (List ℕ))
    (b : List ℕ) (keeps : Keeps b files_first texts_first stretches files texts) where
  -- the start of stretch k
  pub start_kept : StretchesRise stretches → (k : ℕ) → k < length stretches
      → base_in b + start_in b k ≡ start_at stretches k
  start_kept rise k lt = omega (arith, keeps.base, keeps.start k lt, base_upto stretches k rise lt)

  pub is_ordered : StretchesRise stretches → AtAddresses stretches → IsOrdered b
  is_ordered rise at = record {
    first = λ some.
        (let lt : 0 < length stretches = omega (arith, keeps.count) in
        omega (arith, keeps.start 0 lt, base_first stretches));
    rise = λ j k less within.
        (let lt : k < length stretches = omega (arith, keeps.count) in
        let before : j < length stretches = omega arith in
        omega (arith, start_kept rise j before, start_kept rise k lt, start_above stretches j k rise less lt));
    top = λ k within.
        (let lt : k < length stretches = omega (arith, keeps.count) in
        omega (arith, start_kept rise k lt, at k no_stretch lt));
  }

  pub files_are_there : FilesAreThere b
  files_are_there k within =
      let lt : k < length stretches = omega (arith, keeps.count) in
      omega (arith, keeps.file k lt, keeps.files, file_upto files_first (get_or stretches k no_stretch).told)

  pub has_texts : HasTexts b
  has_texts = record {
    numbers = λ f i within less.
        (let lt : f < length files_first = omega (arith, keeps.files) in
        omega (arith, keeps.text f i lt less, keeps.texts, text_upto texts_first (get_or (file_in_order files files_first f).texts i 0)));
    within = λ t within.
        (let lt : t < length texts_first = omega (arith, keeps.texts) in
        let told_len : length (texts_at texts texts_first) ≡ length texts_first =
        length-map texts_first (λ place. get_or texts place []) in
        omega (arith, keeps.place t lt, keeps.len t lt, keeps.text_bytes, text_within (texts_at texts texts_first) t (omega (arith, told_len))));
  }

-- the bytes of an index are well-formed
pub is_index : (all : Bool) (build_id files_first texts_first : List ℕ) (stretches : List Stretch) (files : List FileTexts)
    (texts : List (List ℕ)) → length build_id ≤ 32 → GivenFits files_first texts_first stretches files texts
    → SumsFit (index_by all build_id files_first texts_first stretches files texts) → StretchesRise stretches
    → IsIndex (index_by all build_id files_first texts_first stretches files texts)
is_index all build_id files_first texts_first stretches files texts short fits sums rise =
    let b : List ℕ = index_by all build_id files_first texts_first stretches files texts in
    let says = index_says all build_id files_first texts_first stretches files texts short fits sums in
    let keeps : Keeps b files_first texts_first stretches files texts =
    index_keeps all build_id files_first texts_first stretches files texts b fits says in
    record {
      headed = is_headed all build_id files_first texts_first stretches files texts b says;
      sum = body_agrees all build_id files_first texts_first stretches files texts b says;
      ordered = is_ordered files_first texts_first stretches files texts b keeps rise fits.starts;
      files = files_are_there files_first texts_first stretches files texts b keeps;
      texts = has_texts files_first texts_first stretches files texts b keeps;
    }
