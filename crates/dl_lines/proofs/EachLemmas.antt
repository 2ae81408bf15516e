-- Searches that are told the same one after the other.
use Rattle.std.proofs.Common.{◌≡◌, ◌⊎◌, inl, inr, ℕ, ◌+◌, ◌<◌, ◌≤◌, List, [], ◌∷◌, ◌++◌, length, get_or, slice_set, refl, sym, ap, ◌∙◌, subst, arith}
use Rattle.std.proofs.Common.{Bool, true, false, nat_lt}
use Rattle.std.proofs.lemmas.Bool.Decides.{nat_tests}
use Rattle.std.proofs.lemmas.List.{get_or_append_left, get_or_default, get_or-set_same, get_or-set_other, length-set}
use Rattle.dl_lines.specs.declared.question.Wanted.{Wanted}
use Rattle.dl_lines.specs.declared.search.Search.{Search}
use Rattle.dl_lines.specs.Searching.{AllBecome, FirstBecome, IsNew}

pub below_or_not : (a b : ℕ) → (a < b) ⊎ (b ≤ a)
below_or_not a b = by (nat_lt a b) refl where
  by : (is : Bool) → nat_lt a b ≡ is → (a < b) ⊎ (b ≤ a)
  by true e = inl (grind (arith, nat_tests, e))
  by false e = inr (grind (arith, nat_tests, e))

module _ (P : Search → Search → Type 0) where
  pub none_yet : (searches : List Search) → FirstBecome P 0 searches searches
  none_yet searches = record {
    count = refl;
    each = λ i d lt none. absurd (omega (arith, none));
    others = λ i d lt le. refl;
  }

  pub one_more : (n : ℕ) (old mid : List Search) (t : Search) → n < length mid → FirstBecome P n old mid
      → ((s : Search) → s ≡ get_or mid n s → P s t)
      → FirstBecome P (n + 1) old (slice_set mid n t)
  one_more n old mid t lt f told = record {
    count = length-set mid n t ∙ f.count;
    each = λ i d within below. each i d within below;
    others = λ i d within le. get_or-set_other mid n i t d (λ e. omega (arith, e, le)) ∙ f.others i d within (omega (arith, le));
  } where
    each : (i : ℕ) (d : Search) → i < length old → i < n + 1 → P (get_or old i d) (get_or (slice_set mid n t) i d)
    each i d within below = by (below_or_not i n) where
      by : (i < n) ⊎ (n ≤ i) → P (get_or old i d) (get_or (slice_set mid n t) i d)
      by (inl before) =
          subst (P (get_or old i d)) (sym (get_or-set_other mid n i t d (λ e. omega (arith, e, before))))
          (f.each i d within before)
      by (inr from) =
          let same : i ≡ n = omega (arith, from, below) in
          let is : get_or mid n d ≡ get_or old i d =
          ap (λ (k : ℕ). get_or mid k d) (sym same) ∙ f.others i d within (omega (arith, same)) in
          let here : get_or (slice_set mid n t) i d ≡ t =
          ap (λ (k : ℕ). get_or (slice_set mid n t) k d) same ∙ get_or-set_same mid n t d lt in
          subst (P (get_or old i d)) (sym here) (subst (λ (s : Search). P s t) is
          (told (get_or mid n d) (get_or_default mid n d (get_or mid n d) lt)))

  pub all_told : (n : ℕ) (old new : List Search) → length new ≤ n → FirstBecome P n old new → AllBecome P old new
  all_told n old new le f = record {
    count = f.count;
    each = λ i d lt. f.each i d lt (omega (arith, lt, le, f.count));
  }

-- one search more is made
pub made_more : (items : List Search) (x : Search) (wanted : List Wanted) (exact : Bool) (n : ℕ) → length items ≡ n
    → ((i : ℕ) (d : Search) (w : Wanted) → i < n → IsNew (get_or items i d) (get_or wanted i w) exact)
    → ((w : Wanted) → IsNew x (get_or wanted n w) exact)
    → (i : ℕ) (d : Search) (w : Wanted) → i < n + 1
    → IsNew (get_or (items ++ x ∷ []) i d) (get_or wanted i w) exact
made_more items x wanted exact n count before this i d w lt = by (below_or_not i n) where
  by : (i < n) ⊎ (n ≤ i) → IsNew (get_or (items ++ x ∷ []) i d) (get_or wanted i w) exact
  by (inl below) =
      subst (λ (s : Search). IsNew s (get_or wanted i w) exact)
      (sym (get_or_append_left items (x ∷ []) d i (omega (arith, below, count)))) (before i d w below)
  by (inr le) =
      let same : i ≡ n = omega (arith, le, lt) in
      let here : i ≡ length items = omega (arith, same, count) in
      subst (λ (s : Search). IsNew s (get_or wanted i w) exact)
      (sym (ap (λ (k : ℕ). get_or (items ++ x ∷ []) k d) here ∙ last items))
      (subst (λ (k : ℕ). IsNew x (get_or wanted k w) exact) (sym same) (this w)) where
        last : (l : List Search) → get_or (l ++ x ∷ []) (length l) d ≡ x
        last [] = refl
        last (y ∷ l) = last l
