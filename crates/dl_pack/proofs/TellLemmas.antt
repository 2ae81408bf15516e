-- The bytes of an index tell what it was made of.
use Rattle.std.proofs.Common.{◌≡◌, ℕ, zero, suc, ◌+◌, ◌-◌, ◌<◌, ◌≤◌, ◌==◌, ◌&&◌, Bool, true, false, List, [], ◌∷◌, ◌++◌, length, take, drop, map, get_or}
use Rattle.std.proofs.Common.{Option, None, Some, refl, sym, ap, ap₂, subst, ◌∙◌, arith, append_assoc, inl}
use Rattle.std.specs.Prelude.{if◌then◌else◌, nat_le}
use Rattle.std.specs.List.{All, flat_map}
use Rattle.std.specs.Option.{option_map, option_and_then, option_to_list}
use Rattle.std.proofs.lemmas.Bool.{ne_eqb, le-leb}
use Rattle.std.proofs.lemmas.List.{get_or-map, length-map}
use Rattle.std.proofs.lemmas.List.Elements.{All-nil, All-cons, All-head, All-tail}
use Rattle.std.proofs.lemmas.List.FromFn.{fill_by_all}
use Rattle.std.proofs.lemmas.Option.{slice_get-map, slice_get-get_or}
use Rattle.dl_index.specs.Layout.{count_in, texts_in, text_bytes_in, file_in}
use Rattle.dl_index.specs.Layout.{text_number_in, text_place_in, text_len_in}
use Rattle.dl_index.specs.Telling.{lies_within, text_bytes, text_in, told_in, stretch_in, stretches_in}
use Rattle.dl_index.specs.Telling as index
use Rattle.dl_index.specs.Stretches as index_stretches
use Rattle.dl_index.proofs.TellLemmas.{texts_by, tells_nothing, tells_these}
use Rattle.dl_stretch.specs.declared.told.Told.{Told}
use Rattle.dl_stretch.specs.declared.stretch.Stretch.{Stretch}
use Rattle.dl_pack.specs.declared.names.FileTexts.{FileTexts}
use Rattle.dl_pack.specs.declared.columns.Column.TheVariants as columns
use Rattle.dl_pack.specs.Named.{Named, named, text_of, parts_of}
use Rattle.dl_pack.specs.Numbering.{number_in}
use Rattle.dl_pack.specs.Columns.{told_number, told_bit}
use Rattle.dl_pack.specs.Tables.{no_file, text_number, texts_at}
use Rattle.dl_pack.specs.IndexOf.{files_told, files_of_stretch, told_files, text_place, file_places}
use Rattle.dl_pack.specs.Telling.{StretchesRise, told_as, named_told, named_stretch}
use Rattle.dl_pack.specs.Fits.{AreKnown}
use Rattle.dl_pack.proofs.NameLemmas.{within_at}
use Rattle.dl_pack.proofs.FoundLemmas.{Stands, number_stands}
use Rattle.dl_pack.proofs.ReadLemmas.{no_stretch, file_in_order}
use Rattle.dl_pack.proofs.TextLemmas.{text_within, text_at}
use Rattle.dl_pack.proofs.KeptLemmas.{Keeps}
use Rattle.dl_pack.proofs.IndexLemmas.{start_kept}

-- ---- what holds of all items of lists one after the other

module _ (P : ℕ → Type 0) where
  front_all : (xs ys : List ℕ) → All P (xs ++ ys) → All P xs
  front_all [] ys all = All-nil P
  front_all (x ∷ xs) ys all =
      All-cons P x xs (All-head P x (xs ++ ys) all) (front_all xs ys (All-tail P x (xs ++ ys) all))

  back_all : (xs ys : List ℕ) → All P (xs ++ ys) → All P ys
  back_all [] ys all = all
  back_all (x ∷ xs) ys all = back_all xs ys (All-tail P x (xs ++ ys) all)

  pub flat_all : {A : Type 0} (f : A → List ℕ) (xs : List A) (k : ℕ) (d : A) → k < length xs → All P (flat_map f xs)
      → All P (f (get_or xs k d))
  flat_all f [] k d lt all = absurd (omega arith)
  flat_all f (x ∷ xs) zero d lt all = front_all (f x) (flat_map f xs) all
  flat_all f (x ∷ xs) (suc k) d lt all = flat_all f xs k d (omega arith) (back_all (f x) (flat_map f xs) all)

  -- the file that stretch k tells
  file_told : (stretches : List Stretch) (k : ℕ) (t : Told) → k < length stretches → All P (files_told stretches)
      → (get_or stretches k no_stretch).told ≡ Some t → P t.file
  file_told stretches k t lt all e =
      subst (λ told. All P (told_files told)) e (flat_all files_of_stretch stretches k no_stretch lt all) 0 0 (omega arith)

  -- the texts of a file
  place_told : (n t : ℕ) → All P (text_place n) → n ≡ suc t → P t
  place_told n t all e = subst (λ n. All P (text_place n)) e all 0 0 (omega arith)

  places_told : (f : FileTexts) (i t : ℕ) → All P (file_places f) → i < 3 → get_or f.texts i 0 ≡ suc t → P t
  places_told f zero t all less e =
      place_told (get_or f.texts 0 0) t
      (front_all (text_place (get_or f.texts 0 0)) (text_place (get_or f.texts 1 0) ++ text_place (get_or f.texts 2 0)) all) e
  places_told f (suc zero) t all less e =
      place_told (get_or f.texts 1 0) t
      (front_all (text_place (get_or f.texts 1 0)) (text_place (get_or f.texts 2 0))
      (back_all (text_place (get_or f.texts 0 0)) (text_place (get_or f.texts 1 0) ++ text_place (get_or f.texts 2 0)) all)) e
  places_told f (suc (suc zero)) t all less e =
      place_told (get_or f.texts 2 0) t
      (back_all (text_place (get_or f.texts 1 0)) (text_place (get_or f.texts 2 0))
      (back_all (text_place (get_or f.texts 0 0)) (text_place (get_or f.texts 1 0) ++ text_place (get_or f.texts 2 0)) all)) e
  places_told f (suc (suc (suc i))) t all less e = absurd (omega arith)

chosen : {A : Type 0} (a b c : Bool) (x y z : A) → a ≡ false → b ≡ true → c ≡ true
    → (if a then x else if b && c then y else z) ≡ y
chosen a b c x y z is_false is_true is_true' = rw (is_false, is_true, is_true') refl

bit_back : (b : Bool) → ((if b then 1 else 0) == 1) ≡ b
bit_back true = refl
bit_back false = refl

-- texts and files that are mentioned have numbers
pub record AreNumbered (files_first texts_first : List ℕ) (stretches : List Stretch) (files : List FileTexts) : Type 0 where
  pub told : All (λ file. 1 ≤ number_in files_first file) (files_told stretches)
  pub there : All (λ file. file < length files) (files_told stretches)
  pub named : (f : ℕ) → f < length files_first
      → All (λ text. 1 ≤ number_in texts_first text) (file_places (file_in_order files files_first f))

module _ (files_first texts_first : List ℕ) (stretches : List Stretch) (files : List FileTexts) (texts : List (List ℕ))
    (b : List ℕ) (keeps : Keeps b files_first texts_first stretches files texts) where
  -- text t of the index
  bytes_kept : (t : ℕ) → t < length texts_first → text_bytes b t ≡ get_or texts (get_or texts_first t 0) []
  bytes_kept t lt =
      let told : List (List ℕ) = texts_at texts texts_first in
      let told_len : length told ≡ length texts_first = length-map texts_first (λ place. get_or texts place []) in
      ap₂ (λ n bytes. take n bytes) (keeps.len t lt) (ap₂ (λ p bytes. drop p bytes) (keeps.place t lt) keeps.bytes)
      ∙ text_at told t (omega (arith, told_len)) ∙ get_or-map (λ place. get_or texts place []) texts_first t 0 [] lt

  lies_kept : (t : ℕ) → t < length texts_first → lies_within b t ≡ true
  lies_kept t lt =
      let told : List (List ℕ) = texts_at texts texts_first in
      let told_len : length told ≡ length texts_first = length-map texts_first (λ place. get_or texts place []) in
      le-leb (text_place_in b t + text_len_in b t) (text_bytes_in b)
      (omega (arith, keeps.place t lt, keeps.len t lt, keeps.text_bytes, text_within told t (omega (arith, told_len))))

  text_number_kept : (n t : ℕ) → n ≡ suc t → t < length texts_first
      → text_in b n ≡ Some (get_or texts (get_or texts_first t 0) [] ∷ [])
  text_number_kept n t e lt =
      let less : n - 1 ≡ t = omega arith in
      chosen (n == 0) (nat_le n (texts_in b)) (lies_within b (n - 1)) (Some []) (Some (text_bytes b (n - 1) ∷ [])) None
      (ne_eqb n 0 (λ z. omega arith)) (le-leb n (texts_in b) (omega (arith, keeps.texts)))
      (ap (lies_within b) less ∙ lies_kept t lt)
      ∙ ap (λ text. Some (text ∷ [])) (ap (text_bytes b) less ∙ bytes_kept t lt)

  text_kept : (n : ℕ) → n ≤ length texts → ((t : ℕ) → n ≡ suc t → 1 ≤ number_in texts_first t)
      → text_in b (text_number texts_first n) ≡ Some (text_of texts n)
  text_kept zero upto numbered = refl
  text_kept (suc t) upto numbered =
      let number : ℕ = number_in texts_first t in
      let some : 1 ≤ number = numbered t refl in
      let e : number ≡ suc (number - 1) = omega arith in
      let stands : Stands texts_first t (number - 1) = number_stands texts_first t (number - 1) e in
      text_number_kept number (number - 1) e stands.within
      ∙ ap (λ place. Some (get_or texts place [] ∷ [])) stands.at
      ∙ ap (λ o. Some (option_to_list o)) (sym (slice_get-get_or texts t [] (omega arith)))

  module _ (numbered : AreNumbered files_first texts_first stretches files)
      (known : AreKnown files (length texts) files_first) where
    text_of_file : (f i : ℕ) → f < length files_first → i < 3
        → Some (text_of texts (get_or (file_in_order files files_first f).texts i 0)) ≡ text_in b (text_number_in b f i)
    text_of_file f i lt less =
        let file : FileTexts = file_in_order files files_first f in
        let n : ℕ = get_or file.texts i 0 in
        sym
        (ap (text_in b) (keeps.text f i lt less)
        ∙ text_kept n (within_at (length texts) file.texts i (known f 0 lt).texts)
        (λ t e. places_told (λ t. 1 ≤ number_in texts_first t) file i t (numbered.named f lt) less e))

    texts_of_file : (f : ℕ) → f < length files_first
        → Some (parts_of texts (file_in_order files files_first f).texts) ≡ index.texts_of b f
    texts_of_file f lt =
        let numbers : List ℕ = (file_in_order files files_first f).texts in
        let first : List (List ℕ) = text_of texts (get_or numbers 0 0) in
        let second : List (List ℕ) = text_of texts (get_or numbers 1 0) in
        let third : List (List ℕ) = text_of texts (get_or numbers 2 0) in
        ap Some (sym (append_assoc first second third))
        ∙ texts_by b f (Some first) (Some second) (Some third)
        (text_of_file f 0 lt (omega arith))
        (text_of_file f 1 lt (omega arith))
        (text_of_file f 2 lt (omega arith))

    -- the file that a stretch tells, as it is named
    abbrev file_named : Told → Named
    file_named t = named texts (get_or files t.file no_file)

    number_told : (k : ℕ) (t : Told) → k < length stretches → (get_or stretches k no_stretch).told ≡ Some t
        → Stands files_first t.file (number_in files_first t.file - 1) × (file_in b k ≡ suc (number_in files_first t.file - 1))
    number_told k t lt e =
        let number : ℕ = number_in files_first t.file in
        let some : 1 ≤ number = file_told (λ f. 1 ≤ number_in files_first f) stretches k t lt numbered.told e in
        let is : number ≡ suc (number - 1) = omega arith in
        (number_stands files_first t.file (number - 1) is, keeps.file k lt ∙ ap (told_number files_first columns.File) e ∙ is)

    stretch_tells : (k : ℕ) (t : Told) → k < length stretches → (get_or stretches k no_stretch).told ≡ Some t
        → Some (told_as t (file_named t)) ≡ told_in b k
    stretch_tells k t lt e =
        let f : ℕ = number_in files_first t.file - 1 in
        let stands : Stands files_first t.file f = (number_told k t lt e).0 in
        let number : file_in b k ≡ suc f = (number_told k t lt e).1 in
        let same : file_in_order files files_first f ≡ get_or files t.file no_file =
        ap (λ place. get_or files place no_file) stands.at in
        tells_these b k f (told_as t (file_named t)) (omega (arith, number)) (omega (arith, number, keeps.files, stands.within))
        (omega (arith, number)) (ap (λ g. Some (parts_of texts g.texts)) (sym same) ∙ texts_of_file f stands.within)
        (ap (λ g. g.unit) (sym same) ∙ sym (keeps.unit f stands.within))
        (sym (keeps.line k lt ∙ ap (told_number files_first columns.Line) e))
        (sym (keeps.column k lt ∙ ap (told_number files_first columns.Column) e))
        (sym (keeps.discriminator k lt ∙ ap (told_number files_first columns.Discriminator) e))
        (sym (ap (λ n. n == 1) (keeps.bit k lt ∙ ap told_bit e) ∙ bit_back t.is_stmt))

    told_kept : (k : ℕ) (told : Option Told) → k < length stretches → (get_or stretches k no_stretch).told ≡ told
        → told_in b k ≡ option_and_then (named_told (map (named texts) files)) told
    told_kept k None lt e = tells_nothing b k (inl (keeps.file k lt ∙ ap (told_number files_first columns.File) e))
    told_kept k (Some t) lt e =
        let there : t.file < length files = file_told (λ f. f < length files) stretches k t lt numbered.there e in
        sym (stretch_tells k t lt e)
        ∙ ap (option_map (told_as t))
        (sym (slice_get-map (named texts) files t.file ∙ ap (option_map (named texts)) (slice_get-get_or files t.file no_file there)))

    stretch_kept : (k : ℕ) → StretchesRise stretches → k < length stretches
        → stretch_in b k ≡ named_stretch (map (named texts) files) (get_or stretches k no_stretch)
    stretch_kept k rise lt =
        let s : Stretch = get_or stretches k no_stretch in
        ap₂ (λ (a : ℕ) (t : Option index_stretches.Told). record { start = a; told = t })
        (start_kept files_first texts_first stretches files texts b keeps rise k lt) (told_kept k s.told lt refl)

    -- the stretches that the bytes have
    pub stretches_kept : StretchesRise stretches
        → stretches_in b ≡ map (named_stretch (map (named texts) files)) stretches
    stretches_kept rise =
        let given : List index_stretches.Stretch = map (named_stretch (map (named texts) files)) stretches in
        let none : index_stretches.Stretch = named_stretch (map (named texts) files) no_stretch in
        sym
        (fill_by_all (stretch_in b) given (count_in b) none
        (length-map stretches (named_stretch (map (named texts) files)) ∙ sym keeps.count)
        (λ k within.
        (let lt : k < length stretches = omega (arith, keeps.count) in
        get_or-map (named_stretch (map (named texts) files)) stretches k no_stretch none lt ∙ sym (stretch_kept k rise lt))))
