-- Files and texts that are mentioned have numbers, and the index of stretches tells them.
use Rattle.std.proofs.Common.{◌≡◌, ℕ, ◌<◌, ◌≤◌, Bool, List, [], length, map, get_or, sym, ap, subst, ◌∙◌}
use Rattle.std.specs.List.{All, flat_map}
use Rattle.dl_index.specs.IsIndex.{IsIndex}
use Rattle.dl_index.specs.Telling.{stretches_in}
use Rattle.dl_stretch.specs.declared.stretch.Stretch.{Stretch}
use Rattle.dl_pack.specs.declared.names.FileTexts.{FileTexts}
use Rattle.dl_pack.specs.Named.{named}
use Rattle.dl_pack.specs.Numbering.{number_in}
use Rattle.dl_pack.specs.Tables.{no_file}
use Rattle.dl_pack.specs.IndexOf.{files_told, file_order, file_places, text_order, index_of}
use Rattle.dl_pack.specs.Telling.{StretchesRise, named_stretch}
use Rattle.dl_pack.specs.Fits.{SumsFit, GivenFits}
use Rattle.dl_pack.proofs.FoundLemmas.{all_added}
use Rattle.dl_pack.proofs.PartLemmas.{index_says}
use Rattle.dl_pack.proofs.IndexLemmas.{is_index}
use Rattle.dl_pack.proofs.KeptLemmas.{index_keeps}
use Rattle.dl_pack.proofs.TellLemmas.{AreNumbered, flat_all, stretches_kept}

all_numbered : (stretches : List Stretch) (files : List FileTexts) → All (λ file. file < length files) (files_told stretches)
    → AreNumbered (file_order stretches) (text_order files (file_order stretches)) stretches files
all_numbered stretches files there =
    let order : List ℕ = file_order stretches in
    record {
      told = all_added [] (files_told stretches);
      there = there;
      named = λ f lt.
          flat_all (λ text. 1 ≤ number_in (text_order files order) text) (λ place. file_places (get_or files place no_file))
          order f 0 lt
          (all_added [] (flat_map (λ place. file_places (get_or files place no_file)) order));
    }

-- the index of stretches tells them
pub index_tells : (all : Bool) (build_id : List ℕ) (stretches : List Stretch) (files : List FileTexts)
    (texts : List (List ℕ)) → length build_id ≤ 32 → All (λ file. file < length files) (files_told stretches)
    → GivenFits (file_order stretches) (text_order files (file_order stretches)) stretches files texts
    → SumsFit (index_of all build_id stretches files texts) → StretchesRise stretches
    → stretches_in (index_of all build_id stretches files texts)
    ≡ map (named_stretch (map (named texts) files)) stretches
index_tells all build_id stretches files texts short there fits sums rise =
    let files_first : List ℕ = file_order stretches in
    let texts_first : List ℕ = text_order files files_first in
    let b : List ℕ = index_of all build_id stretches files texts in
    stretches_kept files_first texts_first stretches files texts b
    (index_keeps all build_id files_first texts_first stretches files texts b fits
    (index_says all build_id files_first texts_first stretches files texts short fits sums))
    (all_numbered stretches files there) fits.known rise

module _ (all : Bool) (build_id order : List ℕ) (stretches : List Stretch) (files : List FileTexts)
    (texts : List (List ℕ)) (bytes : List ℕ) (ordered : order ≡ file_order stretches)
    (made : bytes ≡ index_of all build_id stretches files texts) (short : length build_id ≤ 32)
    (fits : GivenFits order (text_order files order) stretches files texts) (sums : SumsFit bytes) where
  fits_ordered : GivenFits (file_order stretches) (text_order files (file_order stretches)) stretches files texts
  fits_ordered = subst (λ order. GivenFits order (text_order files order) stretches files texts) ordered fits

  sums_made : SumsFit (index_of all build_id stretches files texts)
  sums_made = subst SumsFit made sums

  -- bytes that are such an index are well-formed
  pub made_opens : StretchesRise stretches → IsIndex bytes
  made_opens rise =
      subst IsIndex (sym made)
      (is_index all build_id (file_order stretches) (text_order files (file_order stretches)) stretches files texts short
      fits_ordered sums_made rise)

  -- and tell the stretches
  pub made_tells : All (λ file. file < length files) (files_told stretches) → StretchesRise stretches
      → stretches_in bytes ≡ map (named_stretch (map (named texts) files)) stretches
  made_tells there rise =
      ap stretches_in made ∙ index_tells all build_id stretches files texts short there fits_ordered sums_made rise
