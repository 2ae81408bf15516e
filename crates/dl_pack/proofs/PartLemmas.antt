-- The parts of an index, by the sizes that its header says.
use Rattle.std.proofs.Common.{◌≡◌, ℕ, ◌+◌, ◌*◌, ◌/◌, ◌<◌, ◌≤◌, ◌^◌, Bool, List, [], ◌∷◌, length, drop, map, get_or}
use Rattle.std.proofs.Common.{refl, sym, ap, ap₂, subst, ◌∙◌, arith}
use Rattle.std.specs.Prelude.{if◌then◌else◌, slice_index_or}
use Rattle.std.specs.List.{flat_map}
use Rattle.std.proofs.lemmas.List.{length-map}
use Rattle.std.proofs.lemmas.List.FromFn.{length-map-range_with_len}
use Rattle.dl_num.specs.Fixed.{little_bytes}
use Rattle.dl_crc.specs.Crc32.{crc_32}
use Rattle.dl_index.specs.Layout.{sizes, cut_of, part}
use Rattle.dl_stretch.specs.declared.stretch.Stretch.{Stretch}
use Rattle.dl_stretch.specs.Laws.{AtAddresses}
use Rattle.dl_pack.specs.declared.names.FileTexts.{FileTexts}
use Rattle.dl_pack.specs.declared.columns.Column.{Column}
use Rattle.dl_pack.specs.declared.columns.Column.TheVariants as column
use Rattle.dl_pack.specs.Columns.{padded, column_of, number_of, width_by, part_by, byte_at}
use Rattle.dl_pack.specs.Tables.{no_file, file_bytes, texts_at, total_len}
use Rattle.dl_pack.specs.IndexOf.{header_with, base_of, parts_by, body_by, index_by}
use Rattle.dl_pack.specs.Fits.{SumsFit, GivenFits}
use Rattle.dl_pack.proofs.HeadLemmas.{Head, front_by, Says, said, body_said, summed_said, whole_said}
use Rattle.dl_pack.proofs.ItemLemmas.{items_len, size_is}
use Rattle.dl_pack.proofs.CutLemmas.{cut_parts}
use Rattle.dl_pack.proofs.TextLemmas.{texts_len, entries_len}

-- the numbers of the header, with a sum of its own
abbrev head_with : (all : Bool) → (files_first texts_first : List ℕ) → List Stretch → List FileTexts → List (List ℕ) → ℕ → Head
head_with all files_first texts_first stretches files texts own = record {
  flags = if all then 1 else 0;
  len = 128 + length (body_by (base_of stretches) files_first texts_first stretches files texts);
  base = base_of stretches;
  count = length stretches;
  files = length files_first;
  texts = length texts_first;
  text_bytes = total_len (texts_at texts texts_first);
  starts = width_by (base_of stretches) files_first stretches column.Start;
  numbers = width_by (base_of stretches) files_first stretches column.File;
  lines = width_by (base_of stretches) files_first stretches column.Line;
  columns = width_by (base_of stretches) files_first stretches column.Column;
  discriminators = width_by (base_of stretches) files_first stretches column.Discriminator;
  sum = crc_32 (body_by (base_of stretches) files_first texts_first stretches files texts);
  own = own;
}

abbrev pub head_of : (all : Bool) → (build_id files_first texts_first : List ℕ) → List Stretch → List FileTexts
    → List (List ℕ) → Head
head_of all build_id files_first texts_first stretches files texts =
    head_with all files_first texts_first stretches files texts
    (crc_32 (header_with (front_by (head_with all files_first texts_first stretches files texts 0)) build_id 0))

base_fits : (stretches : List Stretch) → AtAddresses stretches → base_of stretches < 2 ^ 64
base_fits [] at = omega arith
base_fits (s ∷ stretches) at = at 0 s (omega arith)

-- the header of an index says its numbers
pub index_says : (all : Bool) (build_id files_first texts_first : List ℕ) (stretches : List Stretch) (files : List FileTexts)
    (texts : List (List ℕ)) → length build_id ≤ 32 → GivenFits files_first texts_first stretches files texts
    → SumsFit (index_by all build_id files_first texts_first stretches files texts)
    → Says (index_by all build_id files_first texts_first stretches files texts)
    (head_of all build_id files_first texts_first stretches files texts) build_id
    (body_by (base_of stretches) files_first texts_first stretches files texts)
index_says all build_id files_first texts_first stretches files texts short fits sums =
    let h : Head = head_of all build_id files_first texts_first stretches files texts in
    let body : List ℕ = body_by (base_of stretches) files_first texts_first stretches files texts in
    said h build_id body
    (record {
      len = omega (arith, sums.len, whole_said h build_id body short);
      base = base_fits stretches fits.starts;
      count = fits.count;
      files = omega (arith, fits.files_few);
      texts = omega (arith, fits.texts_few);
      text_bytes = fits.total;
      sum = subst (λ bytes. crc_32 bytes < 2 ^ 32) (body_said h build_id body short) sums.body;
      own = subst (λ bytes. crc_32 bytes < 2 ^ 32) (summed_said h build_id body short) sums.header;
    })
    short

sizes_by : (b : List ℕ) (h : Head) (build_id body : List ℕ) → Says b h build_id body → sizes b
    ≡ h.count * h.starts ∷ h.count * h.numbers ∷ h.count * h.lines ∷ h.count * h.columns ∷ h.count * h.discriminators
    ∷ (h.count + 7) / 8 ∷ h.files * 24 ∷ h.texts * 16 ∷ h.text_bytes ∷ []
sizes_by b h build_id body says =
    rw (says.count, says.files, says.texts, says.text_bytes, says.starts, says.numbers, says.lines, says.columns, says.discriminators)

column_len : (base : ℕ) (order : List ℕ) (stretches : List Stretch) (kind : Column)
    → length stretches * width_by base order stretches kind ≡ length (part_by base order stretches kind)
column_len base order stretches kind =
    let width : ℕ = width_by base order stretches kind in
    ap (λ n. n * width) (sym (length-map stretches (number_of base order kind)))
    ∙ sym (items_len (little_bytes width) width (size_is width) (column_of base order kind stretches))

next : {n m : ℕ} {ns ms : List ℕ} → n ≡ m → ns ≡ ms → n ∷ ns ≡ m ∷ ms
next e es = ap₂ (λ n ns. n ∷ ns) e es

-- these are the lengths of the parts
lengths_are : (base : ℕ) (files_first texts_first : List ℕ) (stretches : List Stretch) (files : List FileTexts)
    (texts : List (List ℕ)) → length stretches * width_by base files_first stretches column.Start
    ∷ length stretches * width_by base files_first stretches column.File
    ∷ length stretches * width_by base files_first stretches column.Line
    ∷ length stretches * width_by base files_first stretches column.Column
    ∷ length stretches * width_by base files_first stretches column.Discriminator
    ∷ (length stretches + 7) / 8 ∷ length files_first * 24 ∷ length texts_first * 16
    ∷ total_len (texts_at texts texts_first) ∷ []
    ≡ map length (parts_by base files_first texts_first stretches files texts)
lengths_are base files_first texts_first stretches files texts =
    next (column_len base files_first stretches column.Start)
    (next (column_len base files_first stretches column.File)
    (next (column_len base files_first stretches column.Line)
    (next (column_len base files_first stretches column.Column)
    (next (column_len base files_first stretches column.Discriminator)
    (next (sym (length-map-range_with_len (byte_at stretches) 0 ((length stretches + 7) / 8)))
    (next (sym (items_len (λ place. file_bytes texts_first (get_or files place no_file)) 24 (λ place. refl) files_first))
    (next (ap (λ n. n * 16) (sym (length-map texts_first (λ place. get_or texts place []))) ∙ sym (entries_len 0 (texts_at texts texts_first)))
    (ap (λ n. n ∷ []) (sym (texts_len (texts_at texts texts_first)))))))))))

pub sizes_are : (all : Bool) (build_id files_first texts_first : List ℕ) (stretches : List Stretch) (files : List FileTexts)
    (texts : List (List ℕ)) (b : List ℕ) → Says b (head_of all build_id files_first texts_first stretches files texts) build_id
    (body_by (base_of stretches) files_first texts_first stretches files texts)
    → sizes b ≡ map length (parts_by (base_of stretches) files_first texts_first stretches files texts)
sizes_are all build_id files_first texts_first stretches files texts b says =
    sizes_by b (head_of all build_id files_first texts_first stretches files texts) build_id
    (body_by (base_of stretches) files_first texts_first stretches files texts) says
    ∙ lengths_are (base_of stretches) files_first texts_first stretches files texts

-- part k of the bytes is that part
pub part_is : (b : List ℕ) (parts : List (List ℕ)) (k : ℕ) → sizes b ≡ map length parts
    → drop 128 b ≡ flat_map padded parts → part b k ≡ slice_index_or parts k []
unfolding part
part_is b parts k are rest =
    ap₂ (λ s bytes. slice_index_or (cut_of s bytes) k []) are rest ∙ ap (λ p. slice_index_or p k []) (cut_parts parts)
