-- Stretches, of which files are named, and the index that is made of them.
use Rattle.std.proofs.Common.{◌≡◌, ℕ, ◌<◌, ◌^◌, Bool, true, false, List, [], ◌∷◌, ◌++◌, length, map, Option, Some, None}
use Rattle.std.proofs.Common.{refl, sym, ap, ap₂, ◌∙◌, subst}
use Rattle.std.specs.Prelude.{slice_get, get_or, unwrap_or, nat_le, is_none, if◌then◌else◌}
use Rattle.std.specs.List.{All, AllByRecursion}
use Rattle.std.specs.Option.{option_and_then, option_map, option_or}
use Rattle.std.proofs.lemmas.List.Elements.{All-head, All-tail}
use Rattle.std.proofs.lemmas.Option.{slice_get-get_or}
use Rattle.dl_index.specs.Stretches as index
use Rattle.dl_index.specs.IsIndex.{IsIndex}
use Rattle.dl_index.specs.Telling.{stretches_in}
use Rattle.dl_stretch.specs.declared.told.Told.{Told}
use Rattle.dl_stretch.specs.declared.stretch.Stretch.{Stretch}
use Rattle.dl_stretch.specs.Stretches as kept
use Rattle.dl_stretch.specs.Stretches.{AreStretches, Neighbours, last_begun}
use Rattle.dl_stretch.proofs.LastBegun.{if_begun, last_begun-cons}
use Rattle.dl_pack.specs.declared.names.FileTexts.{FileTexts}
use Rattle.dl_pack.specs.IndexOf.{files_told, index_of, told_files}
use Rattle.dl_pack.specs.Named.{Named, Once}
use Rattle.dl_pack.specs.Telling.{StretchesRise, named_stretch, named_told, told_as}
use Rattle.dl_making.specs.IsIndexOf.{Apart, IsIndexOf, is_gap_first}

pub some_same : {A : Type 0} (a b : A) → Some a ≡ Some b → a ≡ b
some_same a b is = ap (λ o. unwrap_or o a) is

pub none_some : {A : Type 0} (a : A) → None ≡ Some a → ⊥
none_some a is = cc

-- ---- each stretch begins above the one before it

pub rise : (stretches : List Stretch) → Neighbours kept.Apart stretches → StretchesRise stretches
rise [] apart = tt
rise (s ∷ []) apart = tt
rise (s ∷ t ∷ stretches) apart = (apart.0.0, rise (t ∷ stretches) apart.1)

-- ---- what stretches tell, by the names of files

module _ (files : List Named) where
  told_or : (o p : Option Stretch)
      → option_map (named_stretch files) (option_or o p)
      ≡ option_or (option_map (named_stretch files) o) (option_map (named_stretch files) p)
  told_or None p = refl
  told_or (Some s) p = refl

  begun_named : (b : Bool) (s : Stretch)
      → option_map (named_stretch files) (if b then Some s else None) ≡ (if b then Some (named_stretch files s) else None)
  begun_named true s = refl
  begun_named false s = refl

  last_named : (stretches : List Stretch) (a : ℕ)
      → last_begun (λ (s : index.Stretch). s.start) (map (named_stretch files) stretches) a
      ≡ option_map (named_stretch files) (last_begun (λ (s : Stretch). s.start) stretches a)
  last_named [] a = refl
  last_named (s ∷ stretches) a =
      last_begun-cons (λ (s : index.Stretch). s.start) (named_stretch files s) (map (named_stretch files) stretches) a
      ∙ ap₂ option_or (last_named stretches a) (sym (begun_named (nat_le s.start a) s))
      ∙ sym (told_or (last_begun (λ (s : Stretch). s.start) stretches a) (if_begun (λ (s : Stretch). s.start) s a))
      ∙ ap (option_map (named_stretch files)) (sym (last_begun-cons (λ (s : Stretch). s.start) s stretches a))

  told_named : (o : Option Stretch)
      → option_and_then (λ (s : index.Stretch). s.told) (option_map (named_stretch files) o)
      ≡ option_and_then (named_told files) (option_and_then (λ (s : Stretch). s.told) o)
  told_named None = refl
  told_named (Some s) = refl

  pub told_at_named : (stretches : List Stretch) (a : ℕ)
      → index.told_at (map (named_stretch files) stretches) a
      ≡ option_and_then (named_told files) (kept.told_at stretches a)
  told_at_named stretches a =
      ap (option_and_then (λ (s : index.Stretch). s.told)) (last_named stretches a)
      ∙ told_named (last_begun (λ (s : Stretch). s.start) stretches a)

  -- what is told is named
  pub named_is : (told : Option Told) (wanted : Option index.Told)
      → option_map (named_told files) told ≡ option_map Some wanted → option_and_then (named_told files) told ≡ wanted
  named_is None None is = refl
  named_is None (Some u) is = absurd (none_some (Some u) is)
  named_is (Some t) None is = absurd (none_some (named_told files t) (sym is))
  named_is (Some t) (Some u) is = some_same (named_told files t) (Some u) is

  -- ---- stretches that differ in what they tell differ in what is named

  abbrev Within : Option Told → Type 0
  Within told = (t : Told) → told ≡ Some t → t.file < length files

  abbrev WithinAll : List Stretch → Type 0
  WithinAll stretches = AllByRecursion (λ (s : Stretch). Within s.told) stretches

  within_first : (o : Option Told) (others : List ℕ) → All (λ f. f < length files) (told_files o ++ others)
      → Within o × All (λ f. f < length files) others
  within_first None others all = ((λ t e. absurd (none_some t e)), all)
  within_first (Some t) others all = (
    (λ u e. subst (λ (v : Told). v.file < length files) (some_same t u e) (All-head (λ f. f < length files) t.file others all)),
    All-tail (λ f. f < length files) t.file others all,
  )

  pub within_each : (stretches : List Stretch) → All (λ f. f < length files) (files_told stretches) → WithinAll stretches
  within_each [] all = tt
  within_each (s ∷ stretches) all =
      let both = within_first s.told (files_told stretches) all in (both.0, within_each stretches both.1)

  abbrev file_at : Told → Named
  file_at t = get_or files t.file (record { unit = 0; parts = [] })

  named_some : (t : Told) → t.file < length files
      → (slice_get files t.file ≡ Some (file_at t)) × (named_told files t ≡ Some (told_as t (file_at t)))
  named_some t lt =
      let at : slice_get files t.file ≡ Some (file_at t) =
      slice_get-get_or files t.file (record { unit = 0; parts = [] }) lt in
      (at, ap (option_map (told_as t)) at)

  same_told : (t u : Told) → t.file ≡ u.file → t.line ≡ u.line → t.column ≡ u.column → t.discriminator ≡ u.discriminator
      → t.is_stmt ≡ u.is_stmt → t ≡ u
  same_told t u file line column discriminator stmt =
      ap₂ (λ f l. record { file = f; line = l; column = t.column; discriminator = t.discriminator; is_stmt = t.is_stmt })
      file line
      ∙ ap₂ (λ c d. record { file = u.file; line = u.line; column = c; discriminator = d; is_stmt = t.is_stmt })
      column discriminator
      ∙ ap (λ s. record { file = u.file; line = u.line; column = u.column; discriminator = u.discriminator; is_stmt = s }) stmt

  module _ (once : Once files) where
    same_named : (t u : Told) → t.file < length files → u.file < length files → named_told files t ≡ named_told files u
        → t ≡ u
    same_named t u lt less is =
        let f = named_some t lt in
        let g = named_some u less in
        let same : told_as t (file_at t) ≡ told_as u (file_at u) =
        some_same (told_as t (file_at t)) (told_as u (file_at u)) (sym f.1 ∙ is ∙ g.1) in
        let file : file_at t ≡ file_at u =
        ap₂ (λ unit parts. record { unit = unit; parts = parts }) (ap (λ (v : index.Told). v.unit) same)
        (ap (λ (v : index.Told). v.parts) same) in
        same_told t u (once t.file u.file (file_at t) f.0 (g.0 ∙ ap Some (sym file)))
        (ap (λ (v : index.Told). v.line) same) (ap (λ (v : index.Told). v.column) same)
        (ap (λ (v : index.Told). v.discriminator) same) (ap (λ (v : index.Told). v.is_stmt) same)

    same_told_of : (o p : Option Told) → Within o → Within p
        → option_and_then (named_told files) o ≡ option_and_then (named_told files) p → o ≡ p
    same_told_of None None within bound is = refl
    same_told_of None (Some u) within bound is = absurd (none_some _ (is ∙ (named_some u (bound u refl)).1))
    same_told_of (Some t) None within bound is = absurd (none_some _ (sym is ∙ (named_some t (within t refl)).1))
    same_told_of (Some t) (Some u) within bound is = ap Some (same_named t u (within t refl) (bound u refl) is)

    pub apart_named : (stretches : List Stretch) → WithinAll stretches → Neighbours kept.Apart stretches
        → Neighbours Apart (map (named_stretch files) stretches)
    apart_named [] within apart = tt
    apart_named (s ∷ []) within apart = tt
    apart_named (s ∷ t ∷ stretches) within apart = (
      (apart.0.0, λ is. apart.0.1 (same_told_of s.told t.told within.0 within.1.0 is)),
      apart_named (t ∷ stretches) within.1 apart.1,
    )

  first_named : (o : Option Told) → Within o → is_none o ≡ false → is_none (option_and_then (named_told files) o) ≡ false
  first_named None within is = absurd cc
  first_named (Some t) within is = ap is_none (named_some t (within t refl)).1

  pub no_gap_first : (stretches : List Stretch) → WithinAll stretches → kept.is_gap_first stretches ≡ false
      → is_gap_first (map (named_stretch files) stretches) ≡ false
  no_gap_first [] within is = refl
  no_gap_first (s ∷ stretches) within is = first_named s.told within.0 is

-- the index of stretches that tell what f does
pub is_index_of : (all : Bool) (build_id : List ℕ) (f : ℕ → Option index.Told) (told : ℕ → Option Told) (b : List ℕ)
    (stretches : List Stretch) (files : List FileTexts) (texts : List (List ℕ)) (names : List Named)
    → AreStretches told stretches → Once names → All (λ file. file < length names) (files_told stretches)
    → ((a : ℕ) → a < 2 ^ 64 → option_map (named_told names) (told a) ≡ option_map Some (f a))
    → IsIndex b → stretches_in b ≡ map (named_stretch names) stretches → b ≡ index_of all build_id stretches files texts
    → IsIndexOf all build_id f b
is_index_of all build_id f told b stretches files texts names are once within right is_index listed written =
    let each = within_each names stretches within in
    record {
      is_index = is_index;
      right = λ a lt. ap (λ l. index.told_at l a) listed ∙ told_at_named names stretches a
          ∙ ap (option_and_then (named_told names)) (are.right a lt) ∙ named_is names (told a) (f a) (right a lt);
      apart = subst (Neighbours Apart) (sym listed) (apart_named names once stretches each are.apart);
      first = ap is_gap_first listed ∙ no_gap_first names stretches each are.first;
      stretches = stretches;
      files = files;
      texts = texts;
      written = written;
    }
