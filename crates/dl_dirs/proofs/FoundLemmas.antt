-- The directories that are found, and where their texts stand.
use Rattle.std.proofs.Common.{◌≡◌, ℕ, zero, suc, Bool, true, false, List, [], ◌∷◌, slice_get, Option, Some, None}
use Rattle.std.proofs.Common.{refl, sym, ap, ◌∙◌}
use Rattle.std.specs.Prelude.{◌||◌, option_map}
use Rattle.std.specs.BTreeMap.{get}
use Rattle.std.specs.List.{list_any}
use Rattle.std.specs.Option.{option_and_then, option_map_or}
use Rattle.std.specs.Ordering.{nat_cmp}
use Rattle.dl_num.specs.declared.fixed.Order.{Order}
use Rattle.dl_info.specs.Entries.{EntryData, TextData}
use Rattle.dl_dirs.specs.declared.places.Kept.{Kept}
use Rattle.dl_dirs.specs.declared.places.Place.{Place}
use Rattle.dl_dirs.specs.declared.places.Place.TheVariants as at
use Rattle.dl_dirs.specs.declared.places.Places.{Places}
use Rattle.dl_dirs.specs.declared.places.Section.{Section}
use Rattle.dl_dirs.specs.declared.places.Section.TheVariants as section
use Rattle.dl_dirs.specs.Holding.{Holds, directory_kept, is_in, kept_at, kept_entry, place_text, text_kept}
use Rattle.dl_dirs.specs.Texts.{TextsData, directory_text}
use Rattle.dl_dirs.specs.Units.{Stands, has_index, has_line_str, has_str, saying}
use Rattle.dl_dirs.proofs.HoldLemmas.{entry_in, none_some, some_same}

-- ---- texts that are found

pub directory_found : (order : Order) (t : TextsData) (es : List EntryData) (p : Places) → Holds p es → p.order ≡ order
    → (n : ℕ) → directory_kept t p n ≡ option_and_then (directory_text order t) (saying n es)
directory_found order t es p h ordered n =
    by (kept_at p n) ∙ (ap (option_and_then (directory_text p.order t)) (h.value n)
    ∙ ap (λ o. option_and_then (directory_text o t) (saying n es)) ordered) where
      by : (k : Option Kept) → option_and_then (text_kept p.order t p.bytes.items) k
          ≡ option_and_then (directory_text p.order t) (option_map (kept_entry p.bytes.items) k)
      by None = refl
      by (Some k) = refl

-- ---- where texts stand

pub some_passes : {A : Type 0} (test : A → Bool) (xs : List A) → list_any test xs ≡ true
    → (i : ℕ) × (x : A) × (slice_get xs i ≡ Some x) × (test x ≡ true)
some_passes test [] any = absurd cc
some_passes {A} test (x ∷ xs) any = by (test x) refl (some_passes test xs) where
  by : (t : Bool) → test x ≡ t
      → (list_any test xs ≡ true → (i : ℕ) × (y : A) × (slice_get xs i ≡ Some y) × (test y ≡ true))
      → (i : ℕ) × (y : A) × (slice_get (x ∷ xs) i ≡ Some y) × (test y ≡ true)
  by true is later = (zero, x, refl, is)
  by false is later =
      let there = later (sym (ap (λ t. t || list_any test xs) is) ∙ any) in
      (suc there.0, there.1, there.2, there.3)

pub passes_some : {A : Type 0} (test : A → Bool) (xs : List A) (i : ℕ) (x : A) → slice_get xs i ≡ Some x
    → test x ≡ true → list_any test xs ≡ true
passes_some test [] i x at is = absurd (none_some at)
passes_some test (y ∷ xs) zero x at is = ap (λ t. t || list_any test xs) (ap test (some_same y x at) ∙ is)
passes_some test (y ∷ xs) (suc i) x at is = by (test y) (passes_some test xs i x at is) where
  by : (t : Bool) → list_any test xs ≡ true → (t || list_any test xs) ≡ true
  by true later = refl
  by false later = later

pub str_same : (b : List ℕ) (q : Place) → has_str (place_text b q) ≡ is_in section.Str q
str_same b (at.Here e) = refl
str_same b (at.Str n) = refl
str_same b (at.LineStr n) = refl
str_same b (at.Index n) = refl

pub line_str_same : (b : List ℕ) (q : Place) → has_line_str (place_text b q) ≡ is_in section.LineStr q
line_str_same b (at.Here e) = refl
line_str_same b (at.Str n) = refl
line_str_same b (at.LineStr n) = refl
line_str_same b (at.Index n) = refl

pub index_same : (b : List ℕ) (q : Place) → has_index (place_text b q) ≡ is_in section.StrOffsets q
index_same b (at.Here e) = refl
index_same b (at.Str n) = refl
index_same b (at.LineStr n) = refl
index_same b (at.Index n) = refl

module _ (p : Places) (es : List EntryData) (test : Place → Bool) (has : TextData → Bool)
    (same : (b : List ℕ) (q : Place) → has (place_text b q) ≡ test q) (h : Holds p es) where
  pub stands : list_any (λ (k : Kept). test k.place) p.entries.items ≡ true → Stands has es
  stands any =
      let s = some_passes (λ (k : Kept). test k.place) p.entries.items any in
      let k = s.1 in (
        k.offset,
        kept_entry p.bytes.items k,
        sym (h.value k.offset)
            ∙ (ap (entry_in p.bytes.items p.entries.items) (h.kept s.0 k s.2).0
            ∙ ap (option_map (kept_entry p.bytes.items)) s.2),
        same p.bytes.items k.place ∙ s.3,
      )

  pub stood : Stands has es → list_any (λ (k : Kept). test k.place) p.entries.items ≡ true
  stood s = by (get nat_cmp p.numbers s.0) refl where
    of : (i : ℕ) (k : Option Kept) → slice_get p.entries.items i ≡ k
        → option_map (kept_entry p.bytes.items) k ≡ Some s.1
        → list_any (λ (k : Kept). test k.place) p.entries.items ≡ true
    of i None is at = absurd (none_some at)
    of i (Some k) is at =
        let entry = some_same (kept_entry p.bytes.items k) s.1 at in
        passes_some (λ (k : Kept). test k.place) p.entries.items i k is
        (sym (same p.bytes.items k.place) ∙ (ap (λ (e : EntryData). option_map_or has e.comp_dir false) entry ∙ s.3))

    by : (number : Option ℕ) → get nat_cmp p.numbers s.0 ≡ number
        → list_any (λ (k : Kept). test k.place) p.entries.items ≡ true
    by None is =
        absurd (none_some (sym (ap (entry_in p.bytes.items p.entries.items) is) ∙ (h.value s.0 ∙ s.2)))
    by (Some i) is =
        of i (slice_get p.entries.items i) refl
        (sym (ap (entry_in p.bytes.items p.entries.items) is) ∙ (h.value s.0 ∙ s.2))

-- a test of what is kept
pub is_wanted : (p : Places) (es : List EntryData) (part : Section) (has : TextData → Bool)
    → ((b : List ℕ) (q : Place) → has (place_text b q) ≡ is_in part q) → Holds p es → (kept : List Kept) (r : Bool)
    → kept ≡ p.entries.items → r ≡ list_any (λ (k : Kept). is_in part k.place) kept
    → (r ≡ true → Stands has es) × (Stands has es → r ≡ true)
is_wanted p es part has same h kept r are tested =
    let any : r ≡ list_any (λ (k : Kept). is_in part k.place) p.entries.items =
    tested ∙ ap (list_any (λ (k : Kept). is_in part k.place)) are in (
      λ is. stands p es (is_in part) has same h (sym any ∙ is),
      λ s. any ∙ stood p es (is_in part) has same h s,
    )
