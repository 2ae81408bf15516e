-- The first path of a list.
use Rattle.std.proofs.Common.{◌≡◌, ◌∙◌, ◌+◌, ◌<◌, ◌≤◌, ◌==◌, ℕ, Bool, true, false, not, cond, length, filter}
use Rattle.std.proofs.Common.{List, [], ◌∷◌, ◌++◌, sym, ap, arith, ⊎_elim, append-nil}
use Rattle.std.proofs.lemmas.Bool.{cases_lt}
use Rattle.std.proofs.lemmas.List.{drop_all, take_all}
use Rattle.std.proofs.lemmas.List.Elements.{filter-append}
use Rattle.std.proofs.lemmas.List.Splits.{slice_split_first, slice_split_none}
use Rattle.std.proofs.lemmas.List.Sums.{fails_before_first}
use Rattle.std.specs.List.{after_first, before_first, position_or_len, slice_split}
use Rattle.dl_several.specs.Lists.{paths_in}

abbrev isn't_empty : List ℕ → Bool
isn't_empty path = not (length path == 0)

module _ (end : ℕ) (bytes : List ℕ) where
  abbrev ends : ℕ → Bool
  ends byte = byte == end

  abbrev left : List (List ℕ)
  left = paths_in end (after_first ends bytes)

  -- the first piece, where it isn't empty
  abbrev first : List (List ℕ)
  first = filter isn't_empty (before_first ends bytes ∷ [])

  cut_at_end : position_or_len ends bytes < length bytes → paths_in end bytes ≡ first ++ left
  cut_at_end within =
      ap (filter isn't_empty) (slice_split_first ends bytes 0 within)
      ∙ filter-append isn't_empty (before_first ends bytes ∷ []) (slice_split ends (after_first ends bytes))

  whole_first : length bytes ≤ position_or_len ends bytes → paths_in end bytes ≡ first ++ left
  whole_first past =
      let one = slice_split_none ends bytes (λ k d l. fails_before_first ends bytes k d (omega (arith, l, past))) in
      let whole = take_all (position_or_len ends bytes) bytes past in
      let none = drop_all (position_or_len ends bytes + 1) bytes (omega (arith, past)) in
      rw (whole, none) (ap (filter isn't_empty) one ∙ sym (append-nil (filter isn't_empty (bytes ∷ []))))

  cut : paths_in end bytes ≡ first ++ left
  cut = ⊎_elim cut_at_end whole_first (cases_lt (position_or_len ends bytes) (length bytes))

  -- the first piece is a path
  pub path_cut : (length (before_first ends bytes) == 0) ≡ false → paths_in end bytes ≡ before_first ends bytes ∷ left
  path_cut is = cut ∙ ap (λ b. cond (not b) (before_first ends bytes ∷ []) [] ++ left) is

  -- it is none
  pub no_path_cut : (length (before_first ends bytes) == 0) ≡ true → paths_in end bytes ≡ left
  no_path_cut is = cut ∙ ap (λ b. cond (not b) (before_first ends bytes ∷ []) [] ++ left) is
