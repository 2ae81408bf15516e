-- As many line tables have numbers as entries are kept.
use Rattle.std.proofs.Common.{◌≡◌, ◌⊎◌, inl, inr, ℕ, ◌<◌, Bool, true, false, cond, List, [], ◌∷◌, length, map, slice_get, get_or}
use Rattle.std.proofs.Common.{Option, Some, None, refl, sym, ap, ◌∙◌, arith}
use Rattle.std.specs.Prelude.{◌==◌, ◌&&◌, option_map}
use Rattle.std.specs.BTreeMap.{IsOrdered, btree_map_len, get, keys}
use Rattle.std.specs.List.{IsDistinct, find, list_any}
use Rattle.std.specs.Option.{is_some}
use Rattle.std.specs.Ordering.{eq_by_cmp, nat_cmp}
use Rattle.std.proofs.lemmas.Bool.{cases_Bool, true≢false}
use Rattle.std.proofs.lemmas.Bool.Decides.{Decides-eqb}
use Rattle.std.proofs.lemmas.Cmp.{eq_by_cmp_equiv, nat_cmp_total}
use Rattle.std.proofs.lemmas.List.{length-map}
use Rattle.std.proofs.lemmas.Map.Entries.{length-keys_of}
use Rattle.std.proofs.lemmas.Map.Keys.{IsDistinct-from_apart, IsDistinct-from_sorted}
use Rattle.std.proofs.lemmas.Map.Made.{is_some-lookup, length-le_from_is_member}
use Rattle.std.proofs.lemmas.Option.{slice_get-get_or, slice_get-map}
use Rattle.dl_info.specs.Entries.{EntryData}
use Rattle.dl_info.proofs.MapLemmas.{query}
use Rattle.dl_dirs.specs.declared.places.Kept.{Kept}
use Rattle.dl_dirs.specs.declared.places.Places.{Places}
use Rattle.dl_dirs.specs.Holding.{Holds, kept_entry}
use Rattle.dl_dirs.specs.Units.{saying, says}
use Rattle.dl_dirs.proofs.FoundLemmas.{passes_some, some_passes}
use Rattle.dl_dirs.proofs.HoldLemmas.{entry_in, has_get, some_same}

find_passes : {A : Type 0} (test : A → Bool) (xs : List A) (x : A) → find test xs ≡ Some x → test x ≡ true
find_passes test [] x is = absurd cc
find_passes {A} test (y ∷ xs) x is = by (test y) refl (find_passes test xs x) is where
  by : (t : Bool) → test y ≡ t → (find test xs ≡ Some x → test x ≡ true) → cond t (Some y) (find test xs) ≡ Some x → test x ≡ true
  by true at later is = ap test (sym (some_same y x is)) ∙ at
  by false at later is = later is

first_true : (a b : Bool) → (a && b) ≡ true → a ≡ true
first_true true b is = refl
first_true false b is = is

-- keys are the same
abbrev same : ℕ → ℕ → Bool
same = eq_by_cmp nat_cmp

alike : (q n : ℕ) → same q n ≡ true → q ≡ n
alike q n is = (Decides-eqb q n).0 (sym (query q n) ∙ is)

itself : (q n : ℕ) → q ≡ n → same q n ≡ true
itself q n is = query q n ∙ (Decides-eqb q n).1 is

module _ (p : Places) (es : List EntryData) (h : Holds p es) where
  abbrev offsets : List ℕ
  offsets = map (λ (k : Kept). k.offset) p.entries.items

  -- an offset that is kept
  record At (i o : ℕ) : Type 0 where
    pub kept : Kept
    pub is : slice_get p.entries.items i ≡ Some kept
    pub same : kept.offset ≡ o

  kept_there : (i o : ℕ) → slice_get offsets i ≡ Some o → At i o
  kept_there i o is = by (slice_get p.entries.items i) refl where
    by : (k : Option Kept) → slice_get p.entries.items i ≡ k → At i o
    by None at = absurd (let no : ◌≡◌ {A = Option ℕ} None (Some o) =
        sym (slice_get-map (λ (k : Kept). k.offset) p.entries.items i ∙ ap (option_map (λ (k : Kept). k.offset)) at) ∙ is in cc)
    by (Some k) at = record {
      kept = k;
      is = at;
      same = some_same k.offset o
          (sym (slice_get-map (λ (k : Kept). k.offset) p.entries.items i ∙ ap (option_map (λ (k : Kept). k.offset)) at) ∙ is);
    }

  numbered : (i o : ℕ) → At i o → get nat_cmp p.numbers o ≡ Some i
  numbered i o a = sym (ap (get nat_cmp p.numbers) a.same) ∙ (h.kept i a.kept a.is).0

  -- each number is that of an entry
  has_entry : (q : ℕ) → list_any (same q) (keys p.numbers) ≡ true → list_any (same q) offsets ≡ true
  has_entry q any = by (get nat_cmp p.numbers q) refl (is_some-lookup (same q) p.numbers.entries ∙ any) where
    of : (i : ℕ) (k : Option Kept) → get nat_cmp p.numbers q ≡ Some i → slice_get p.entries.items i ≡ k
        → list_any (same q) offsets ≡ true
    of i None is at = absurd (has_get p.entries.items i (h.numbered q i is) at)
    of i (Some k) is at =
        let said : saying q es ≡ Some (kept_entry p.bytes.items k) =
        sym (h.value q) ∙ (ap (entry_in p.bytes.items p.entries.items) is ∙ ap (option_map (kept_entry p.bytes.items)) at) in
        let passes = find_passes (says q) es (kept_entry p.bytes.items k) said in
        let offset : k.offset ≡ q = (Decides-eqb k.offset q).0 (first_true (k.offset == q) true passes) in
        passes_some (same q) offsets i k.offset
        (slice_get-map (λ (k : Kept). k.offset) p.entries.items i ∙ ap (option_map (λ (k : Kept). k.offset)) at)
        (itself q k.offset (sym offset))

    by : (o : Option ℕ) → get nat_cmp p.numbers q ≡ o → is_some (get nat_cmp p.numbers q) ≡ true
        → list_any (same q) offsets ≡ true
    by None is known = absurd (true≢false (sym known ∙ ap is_some is))
    by (Some i) is known = of i (slice_get p.entries.items i) is refl

  -- and each entry has one
  has_number : (q : ℕ) → list_any (same q) offsets ≡ true → list_any (same q) (keys p.numbers) ≡ true
  has_number q any =
      let s = some_passes (same q) offsets any in
      let is = numbered s.0 q (let a = kept_there s.0 s.1 s.2 in
      record { kept = a.kept; is = a.is; same = a.same ∙ sym (alike q s.1 s.3) }) in
      sym (is_some-lookup (same q) p.numbers.entries) ∙ ap is_some is

  apart : IsDistinct same offsets
  apart = IsDistinct-from_apart same offsets λ i j d less within. by i j d less within (cases_Bool (same (get_or offsets i d) (get_or offsets j d)))
    where
      by : (i j d : ℕ) → i < j → j < length offsets
          → (same (get_or offsets i d) (get_or offsets j d) ≡ true) ⊎ (same (get_or offsets i d) (get_or offsets j d) ≡ false)
          → same (get_or offsets i d) (get_or offsets j d) ≡ false
      by i j d less within (inr differ) = differ
      by i j d less within (inl is) = absurd (
          let a = numbered i (get_or offsets i d) (kept_there i (get_or offsets i d) (slice_get-get_or offsets i d (omega (arith, less, within)))) in
          let b = numbered j (get_or offsets j d) (kept_there j (get_or offsets j d) (slice_get-get_or offsets j d within)) in
          let one : i ≡ j = some_same i j (sym a ∙ (ap (get nat_cmp p.numbers) (alike (get_or offsets i d) (get_or offsets j d) is) ∙ b)) in
          omega (arith, one, less))

  pub counted : IsOrdered nat_cmp p.numbers → btree_map_len p.numbers ≡ length p.entries.items
  counted ordered =
      let laws = eq_by_cmp_equiv nat_cmp_total in
      let few = length-le_from_is_member laws (keys p.numbers) offsets (IsDistinct-from_sorted nat_cmp (keys p.numbers) ordered) has_entry in
      let many = length-le_from_is_member laws offsets (keys p.numbers) apart has_number in
      omega (arith, few, many, length-keys_of p.numbers.entries, length-map p.entries.items (λ (k : Kept). k.offset))
