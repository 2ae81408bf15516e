-- The numbers of the files of a unit, as they are looked up.
use Rattle.std.proofs.Common.{◌≡◌, ◌≢◌, ◌⊎◌, inl, inr, ℕ, zero, suc, ◌+◌, ◌-◌, ◌<◌, ◌≤◌, ◌^◌, min, List, [], ◌∷◌, ◌++◌, length, map, take}
use Rattle.std.proofs.Common.{Option, Some, None, arith, refl, sym, ap, ◌∙◌, subst}
use Rattle.std.specs.Prelude.{get_or, slice_get, slice_index_or, slice_set, unwrap_or}
use Rattle.std.specs.Option.{option_and_then, option_copied, option_map_or}
use Rattle.std.specs.List.{All, Contains}
use Rattle.std.proofs.lemmas.List.Elements.{All-contains, All-map, All-more, All-weaker}
use Rattle.std.proofs.lemmas.Bool.{cases_lt, cases_order}
use Rattle.std.proofs.lemmas.List.{length-set, get_or-set_other, take_all}
use Rattle.std.proofs.lemmas.Grind.{get_or-set_at}
use Rattle.std.proofs.lemmas.Option.{get_or_from_slice_get, slice_get-get_or, slice_get_past, unwrap_or-slice_get}
use Rattle.dl_field.specs.HeaderData.{HeaderData}
use Rattle.dl_head.specs.Numbers.{first_number}
use Rattle.dl_print.specs.ValueText.{Strings, strings_of}
use Rattle.dl_path.specs.PathTexts.{entry_parts, file_parts, texts_under}
use Rattle.dl_pack.specs.Named.{Named, Grows}
use Rattle.dl_stretch.specs.declared.run.Run.{Run}
use Rattle.dl_stretch.specs.Held.{held}
use Rattle.dl_stretch.specs.ToldUnits.{file_of}
use Rattle.dl_addr.specs.Texts.{files_end}
use Rattle.dl_addr.proofs.TextLemmas.{numbered_past}
use Rattle.dl_making.specs.declared.files.UnitFiles.{UnitFiles}
use Rattle.dl_making.specs.Numbers.{AreSeen, IsNumbered, place_of}
use Rattle.dl_making.specs.UnitFile.{file_in}

pub still_there : {A : Type 0} (old new : List A) (n : ℕ) (x : A) → Grows old new → slice_get old n ≡ Some x
    → slice_get new n ≡ Some x
still_there old new n x grows is = ap (λ l. slice_get l n) grows.1 ∙ there old grows.0 n x is where
  none_some : {A : Type 0} (x : A) → None ≡ Some x → ⊥
  none_some x e = cc

  there : {A : Type 0} (old more : List A) (n : ℕ) (x : A) → slice_get old n ≡ Some x → slice_get (old ++ more) n ≡ Some x
  there [] more n x is = absurd (none_some x is)
  there (y ∷ old) more zero x is = is
  there (y ∷ old) more (suc n) x is = there old more n x is

-- within a list it doesn't matter what stands past its end
pub any_default : (xs : List ℕ) (i d : ℕ) → i < length xs → get_or xs i d ≡ get_or xs i 0
any_default xs i d lt = get_or_from_slice_get xs i (get_or xs i 0) d (slice_get-get_or xs i 0 lt)

pub grows_trans : {A : Type 0} (a b c : List A) → Grows a b → Grows b c → Grows a c
grows_trans a b c first second = (
  first.0 ++ second.0,
  second.1 ∙ ap (λ l. l ++ second.0) first.1 ∙ Rattle.std.proofs.Common.append_assoc a first.0 second.0,
)

module _ (u : UnitFiles) (old new : List Named) (numbers : List ℕ) where
  -- a number that was looked up, and is not the one that stands for none
  pub numbered_seen : (file entry : ℕ) → 0 < length numbers → entry ≡ place_of numbers file
      → (get_or numbers entry 0 ≡ 0x7fffffffffffffff → ⊥) → AreSeen u old numbers → IsNumbered u old numbers file
  numbered_seen file entry some is not_none seen =
      elim (seen (place_of numbers file) (omega arith)) [
        | inl none ↦ absurd (not_none (ap (λ e. get_or numbers e 0) is ∙ none))
        | inr right ↦ record { right = right }
      ]

  -- one number more is looked up
  module _ (entry n : ℕ) (lt : entry < length numbers) (grows : Grows old new)
      (right : slice_get new n ≡ Some (file_in u entry)) where
    number_at : (k : ℕ) → k < length numbers → (k ≡ entry) ⊎ (get_or (slice_set numbers entry n) k 0 ≡ get_or numbers k 0)
    number_at k within = elim (cases_order k entry) [
      | inl is ↦ inl is
      | inr (inl less) ↦ inr (get_or-set_other numbers entry k n 0 (λ e. omega (arith, e)))
      | inr (inr less) ↦ inr (get_or-set_other numbers entry k n 0 (λ e. omega (arith, e)))
    ]

    here : (k : ℕ) → k ≡ entry → slice_get new (get_or (slice_set numbers entry n) k 0) ≡ Some (file_in u k)
    here k is =
        ap (slice_get new) (get_or-set_at numbers entry k n 0 is lt) ∙ right ∙ ap (λ e. Some (file_in u e)) (sym is)

    pub seen_set : AreSeen u old numbers → AreSeen u new (slice_set numbers entry n)
    seen_set seen k less =
        let within : k < length numbers = subst (λ m. k < m) (length-set numbers entry n) less in
        elim (number_at k within) [
          | inl is ↦ inr (here k is)
          | inr same ↦ elim (seen k within) [
            | inl none ↦ inl (same ∙ none)
            | inr is ↦ inr (ap (slice_get new) same
                ∙ still_there old new (get_or numbers k 0) (file_in u k) grows is)
          ]
        ]

    place_same : (file : ℕ) → place_of (slice_set numbers entry n) file ≡ place_of numbers file
    place_same file = ap (λ m. min file (m - 1)) (length-set numbers entry n)

    right_at : (file k : ℕ) → k ≡ place_of numbers file
        → slice_get new (get_or (slice_set numbers entry n) k 0) ≡ Some (file_in u k)
        → IsNumbered u new (slice_set numbers entry n) file
    right_at file k is there = record {
      right = subst (λ e. slice_get new (get_or (slice_set numbers entry n) e 0) ≡ Some (file_in u e))
          (is ∙ sym (place_same file)) there;
    }

    pub numbered_set : (file : ℕ) → entry ≡ place_of numbers file
        → IsNumbered u new (slice_set numbers entry n) file
    numbered_set file is = right_at file entry is (here entry refl)

    pub others_set : (other : ℕ) → IsNumbered u old numbers other → IsNumbered u new (slice_set numbers entry n) other
    others_set other is =
        let k = place_of numbers other in
        elim (number_at k (omega (arith, lt))) [
          | inl same ↦ right_at other k refl (here k same)
          | inr same ↦ right_at other k refl (ap (slice_get new) same
              ∙ still_there old new (get_or numbers k 0) (file_in u k) grows is.right)
        ]

-- ---- files past those of the table

parts_clamped : (s : Strings) (header : Option HeaderData) (file end : ℕ) → end < 2 ^ 63
    → end ≡ option_map_or files_end header 0 → file_parts s header (min file end) ≡ file_parts s header file
parts_clamped s None file end few is = refl
parts_clamped s (Some h) file end few is =
    let first = first_number h.params in
    let n = first + length h.files.entries in
    elim (cases_lt file end) [
      | inl lt ↦ (let e : min file end ≡ file = omega (arith, lt) in ap (file_parts s (Some h)) e)
      | inr le ↦ ap (option_and_then (entry_parts s h)) (numbered_past first h.files (min file end) (omega (arith, le, few, is))
          ∙ sym (numbered_past first h.files file (omega (arith, le, few, is))))
    ]

pub file_clamped : (u : UnitFiles) (file end : ℕ) → end < 2 ^ 63
    → end ≡ option_map_or files_end (option_copied u.header) 0 → file_in u (min file end) ≡ file_in u file
file_clamped u file end few is =
    ap (λ parts. record { unit = u.offset; parts = option_map_or (texts_under (option_copied u.directory)) parts [] })
    (parts_clamped (strings_of u.strings.now) (option_copied u.header) file end few is)

-- the number of a file in the list, and past its end the last one
number_placed : (numbers : List ℕ) (file : ℕ) → 0 < length numbers
    → slice_index_or numbers file (get_or numbers (length numbers - 1) 0) ≡ get_or numbers (place_of numbers file) 0
number_placed numbers file some =
    let last = get_or numbers (length numbers - 1) 0 in
    elim (cases_lt file (length numbers)) [
      | inl lt ↦ (let e : place_of numbers file ≡ file = omega (arith, lt) in
          get_or_from_slice_get numbers file (get_or numbers file 0) last (slice_get-get_or numbers file 0 lt)
          ∙ ap (λ k. get_or numbers k 0) (sym e))
      | inr le ↦ (let e : place_of numbers file ≡ length numbers - 1 = omega (arith, le) in
          sym (unwrap_or-slice_get numbers file last) ∙ ap (λ o. unwrap_or o last) (slice_get_past numbers file le)
          ∙ ap (λ k. get_or numbers k 0) (sym e))
    ]

pub numbered_right : (u : UnitFiles) (files : List Named) (numbers : List ℕ) (end other file : ℕ)
    → length numbers ≡ end + 1 → length numbers < 2 ^ 63 → other ≡ get_or numbers end other
    → end ≡ option_map_or files_end (option_copied u.header) 0
    → IsNumbered u files numbers (held file) → slice_get files (slice_index_or numbers file other) ≡ Some (file_in u file)
numbered_right u files numbers end other file len few other_is end_is is =
    let last : length numbers - 1 ≡ end = omega (arith, len) in
    let place : place_of numbers file ≡ place_of numbers (held file) = omega (arith, few) in
    ap (λ o. slice_get files (slice_index_or numbers file o)) (other_is
    ∙ any_default numbers end other (omega (arith, len))
    ∙ ap (λ k. get_or numbers k 0) (sym last))
    ∙ ap (slice_get files) (number_placed numbers file (omega (arith, len)))
    ∙ ap (λ k. slice_get files (get_or numbers k 0)) place
    ∙ is.right
    ∙ ap (λ k. Some (file_in u k)) (sym place)
    ∙ ap (λ k. Some (file_in u (min file k))) last
    ∙ ap Some (file_clamped u file end (omega (arith, len, few)) end_is)

-- ---- runs, one after the other

module _ (u : UnitFiles) (old new : List Named) (numbers after : List ℕ) (runs : List Run) where
  abbrev numbered_in : List Named → List ℕ → Run → Type 0
  numbered_in files list run = IsNumbered u files list (file_of run)

  pub numbered_more : (i file : ℕ) (d : Run) → i < length runs → file ≡ file_of (get_or runs i d)
      → All (numbered_in old numbers) (take i runs)
      → ((other : ℕ) → IsNumbered u old numbers other → IsNumbered u new after other)
      → IsNumbered u new after file → All (numbered_in new after) (take (i + 1) runs)
  numbered_more i file d lt is before others one =
      All-more (numbered_in new after) runs i d lt
      (All-weaker (numbered_in old numbers) (numbered_in new after) (λ r numbered. others (file_of r) numbered) (take i runs) before)
      (subst (IsNumbered u new after) is one)

pub numbered_all : (u : UnitFiles) (files : List Named) (numbers : List ℕ) (end other : ℕ) (runs : List Run) (i file : ℕ)
    → length numbers ≡ end + 1 → length numbers < 2 ^ 63 → other ≡ get_or numbers end other
    → end ≡ option_map_or files_end (option_copied u.header) 0
    → length runs ≤ i → All (λ (run : Run). IsNumbered u files numbers (file_of run)) (take i runs)
    → Contains (map file_of runs) (held file)
    → slice_get files (slice_index_or numbers file other) ≡ Some (file_in u file)
numbered_all u files numbers end other runs i file len few other_is end_is le all named =
    numbered_right u files numbers end other file len few other_is end_is
    (All-contains (IsNumbered u files numbers) (map file_of runs) (held file)
    (All-map (IsNumbered u files numbers) file_of runs
    (subst (All (λ (run : Run). IsNumbered u files numbers (file_of run))) (take_all i runs le) all)) named)
