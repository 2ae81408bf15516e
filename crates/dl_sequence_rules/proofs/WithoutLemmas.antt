-- Sequences without those that share no place with another one have the same overlaps.
use Rattle.std.proofs.Common.{◌≡◌, ◌∙◌, ℕ, zero, suc, ◌+◌, ◌<◌, ◌≤◌, Bool, true, false, List, [], ◌∷◌, ◌++◌, length, take, Option, Some, None}
use Rattle.std.proofs.Common.{refl, sym, ap, ap₂, arith}
use Rattle.std.specs.Prelude.{◌&&◌, ◌||◌, cond, is_some, slice_index_or}
use Rattle.std.specs.List.{find, list_any}
use Rattle.std.specs.Option.{option_or}
use Rattle.std.proofs.lemmas.Bool.{and_parts, both_ways, false_from_ne_true}
use Rattle.std.proofs.lemmas.List.{append-nil, length_push, take_more}
use Rattle.std.proofs.lemmas.List.Folds.{find-append}
use Rattle.dl_look.specs.declared.place.Place.{Place}
use Rattle.dl_findings.specs.declared.finding.Finding.{Finding}
use Rattle.dl_sequence_rules.specs.declared.ended.Ended.{Ended}
use Rattle.dl_sequence_rules.specs.Alone.{AreAlone, ended_at, no_ended}
use Rattle.dl_sequence_rules.specs.Covering.{covers_place}
use Rattle.dl_sequence_rules.specs.Overlaps.{both_cover, first_of_both, overlap_found, overlap_found_at, overlap_with}
use Rattle.dl_sequence_rules.specs.SequenceFindings.{overlaps_after}
use Rattle.dl_sequence_rules.proofs.BothLemmas.{first_of_both_is, none_of_both_is}
use Rattle.dl_sequence_rules.proofs.PlaceLemmas.{both_at_most, not_below-at_most}
use Rattle.dl_sequence_rules.proofs.SequenceLemmas.{overlaps-push}

any_is_found : (p : Ended → Bool) (sequences : List Ended) → list_any p sequences ≡ is_some (find p sequences)
any_is_found p [] = refl
any_is_found p (s ∷ sequences) =
    let rest = any_is_found p sequences in
    elim (p s) as (λ b. (b || list_any p sequences) ≡ is_some (cond b (Some s) (find p sequences))) [ true ↦ refl | false ↦ rest ]

-- at each place that the sequence covers the same sequence of both lists is found
module _ (kept earlier : List Ended) (s : Ended)
    (same : (y : Place) → covers_place y s ≡ true → find (covers_place y) kept ≡ find (covers_place y) earlier) where
  any_same : (y : Place) → covers_place y s ≡ true → list_any (covers_place y) kept ≡ list_any (covers_place y) earlier
  any_same y covers =
      any_is_found (covers_place y) kept ∙ ap is_some (same y covers) ∙ sym (any_is_found (covers_place y) earlier)

  both_same : (y : Place) → both_cover kept s y ≡ both_cover earlier s y
  both_same y =
      elim (covers_place y s) as (λ b. covers_place y s ≡ b
      → (b && list_any (covers_place y) kept) ≡ (b && list_any (covers_place y) earlier)) [
        | true ↦ λ covers. any_same y covers
        | false ↦ λ e. refl
      ] refl

  first_same : (o p : Option Place) → first_of_both kept s ≡ o → first_of_both earlier s ≡ p → o ≡ p
  first_same None None e f = refl
  first_same None (Some x) e f =
      absurd (both_ways (both_cover kept s x) (none_of_both_is kept s e x)
      (both_same x ∙ (first_of_both_is earlier s x f).both))
  first_same (Some x) None e f =
      absurd (both_ways (both_cover earlier s x) (none_of_both_is earlier s f x)
      (sym (both_same x) ∙ (first_of_both_is kept s x e).both))
  first_same (Some x) (Some y) e f =
      let low = first_of_both_is kept s x e in
      let lowest = first_of_both_is earlier s y f in
      ap (λ (z : Place). Some z)
      (both_at_most x y
      (not_below-at_most y x (low.first y (both_same y ∙ lowest.both)))
      (not_below-at_most x y (lowest.first x (sym (both_same x) ∙ low.both))))

  told_same : (o : Option Place) → first_of_both kept s ≡ o → overlap_found_at kept s o ≡ overlap_found_at earlier s o
  told_same None e = refl
  told_same (Some x) e =
      ap (overlap_with s x)
      (same x (and_parts (covers_place x s) (list_any (covers_place x) kept) (first_of_both_is kept s x e).both).0)

  overlap_same : overlap_found kept s ≡ overlap_found earlier s
  overlap_same =
      told_same (first_of_both kept s) refl
      ∙ ap (overlap_found_at earlier s) (first_same (first_of_both kept s) (first_of_both earlier s) refl refl)

none_before : (s : Ended) (o : Option Place) → overlap_found_at [] s o ≡ []
none_before s None = refl
none_before s (Some x) = refl

no_overlap_found : (earlier : List Ended) (s : Ended)
    → ((y : Place) → covers_place y s ≡ true → find (covers_place y) earlier ≡ None) → overlap_found earlier s ≡ []
no_overlap_found earlier s none =
    sym (overlap_same [] earlier s (λ y covers. sym (none y covers))) ∙ none_before s (first_of_both [] s)

none_found : (p : Ended → Bool) (sequences : List Ended) (n : ℕ)
    → ((j : ℕ) → j < n → j < length sequences → p (ended_at sequences j) ≡ false) → find p (take n sequences) ≡ None
none_found p [] zero none = refl
none_found p [] (suc n) none = refl
none_found p (s ∷ sequences) zero none = refl
none_found p (s ∷ sequences) (suc n) none =
    ap (λ b. cond b (Some s) (find p (take n sequences))) (none 0 (omega arith) (omega arith))
    ∙ none_found p sequences n (λ j less lt. none (suc j) (omega arith) (omega arith))

or_none : (o : Option Ended) → option_or o None ≡ o
or_none None = refl
or_none (Some s) = refl

-- the first n sequences without those that are marked
pub record IsWithout (sequences : List Ended) (marks : List Bool) (n : ℕ) (kept : List Ended) : Type 0 where
  pub few : length kept ≤ n
  pub same : overlaps_after [] kept ≡ overlaps_after [] (take n sequences)
  pub found : (y : Place)
      → ((j : ℕ) → j < n → slice_index_or marks j false ≡ true → covers_place y (ended_at sequences j) ≡ false)
      → find (covers_place y) kept ≡ find (covers_place y) (take n sequences)

pub without_none : (sequences : List Ended) (marks : List Bool) → IsWithout sequences marks 0 []
without_none [] marks = record { few = omega arith; same = refl; found = λ y none. refl }
without_none (s ∷ sequences) marks = record { few = omega arith; same = refl; found = λ y none. refl }

module _ (sequences : List Ended) (marks : List Bool) (n : ℕ) (kept : List Ended)
    (so_far : IsWithout sequences marks n kept) (are : AreAlone sequences marks) (lt : n < length sequences) where
  abbrev earlier : List Ended
  earlier = take n sequences

  abbrev s : Ended
  s = ended_at sequences n

  one_more : take (n + 1) sequences ≡ earlier ++ s ∷ []
  one_more = take_more sequences n no_ended lt

  told_more : overlaps_after [] (take (n + 1) sequences) ≡ overlaps_after [] earlier ++ overlap_found earlier s
  told_more = ap (overlaps_after []) one_more ∙ overlaps-push [] earlier s

  -- it isn't marked
  pub without_kept : IsWithout sequences marks (n + 1) (kept ++ s ∷ [])
  without_kept =
      let few = so_far.few in
      let one = length_push kept s in
      record {
        few = omega arith;
        same =
            overlaps-push [] kept s
            ∙ ap₂ (λ (l m : List Finding). l ++ m) so_far.same
            (overlap_same kept earlier s (λ y covers. so_far.found y (λ j less marked.
            false_from_ne_true (covers_place y (ended_at sequences j)) (λ (both : covers_place y (ended_at sequences j) ≡ true).
            both_ways (covers_place y s) (are.alone j marked n lt (omega arith) y both) covers))))
            ∙ sym told_more;
        found =
            λ y none. find-append (covers_place y) kept (s ∷ [])
            ∙ ap (λ (o : Option Ended). option_or o (find (covers_place y) (s ∷ []))) (so_far.found y (λ j less. none j (omega arith)))
            ∙ sym (find-append (covers_place y) earlier (s ∷ []))
            ∙ ap (find (covers_place y)) (sym one_more);
      }

  module _ (marked : slice_index_or marks n false ≡ true) where
    no_overlap : overlap_found earlier s ≡ []
    no_overlap =
        no_overlap_found earlier s (λ y covers. none_found (covers_place y) sequences n
        (λ j less within. are.alone n marked j within (omega arith) y covers))

    pub without_marked : IsWithout sequences marks (n + 1) kept
    without_marked =
        let few = so_far.few in
        record {
          few = omega arith;
          same =
              so_far.same ∙ sym (append-nil (overlaps_after [] earlier))
              ∙ ap (λ (l : List Finding). overlaps_after [] earlier ++ l) (sym no_overlap) ∙ sym told_more;
          found =
              λ y none. so_far.found y (λ j less. none j (omega arith))
              ∙ sym (or_none (find (covers_place y) earlier))
              ∙ ap (λ (b : Bool). option_or (find (covers_place y) earlier) (cond b (Some s) None)) (sym (none n (omega arith) marked))
              ∙ sym (find-append (covers_place y) earlier (s ∷ []))
              ∙ ap (find (covers_place y)) (sym one_more);
        }
