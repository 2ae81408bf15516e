-- The units of other versions, what is told of them, and what is kept of that.
use Rattle.dl_sections.proofs.Names.{◌++◌, ◌+◌, ◌∙◌, ◌∷◌, ◌≡◌, ◌≤◌, ◌⊎◌, [], All-push, ap, append-nil, AreTold, arith}
use Rattle.dl_sections.proofs.Names.{Bool, cond, Contains, Contains-append_left, Contains-push, Dialect, end_visits, ends}
use Rattle.dl_sections.proofs.Names.{ends_open, Err, false, flat_map-append, foreign_in, header_of, HeaderData, inl, inr}
use Rattle.dl_sections.proofs.Names.{is_some, IsGreatest, IsLeast, IsPassedOver, length, length-append, List, map, max}
use Rattle.dl_sections.proofs.Names.{min, None, of_end, of_item, Ok, open_visit, Option, option_to_list, other_versions}
use Rattle.dl_sections.proofs.Names.{OtherVersions, PassedOver, PassesOver, Ran, refl, RunFault, Some, Spans}
use Rattle.dl_sections.proofs.Names.{sum_by-cons, Summary, summary_of, true, unit_rows, unit_visits, units_visits}
use Rattle.dl_sections.proofs.Names.{version_story, version_told, VersionRange, versions_told, Visit, visits, Write, ℕ}
use Rattle.dl_sections.proofs.Names.fault
use Rattle.dl_rows.specs.Items.{Item, unit_items}
use Rattle.dl_sections.proofs.CopyingVisits.{Foreign, Own, Neither, one_of, not_foreign, foreign_visits, own_visits}
use Rattle.dl_sections.proofs.CopyingVisits.{no_visits}

-- ---- one number more

module _ (numbers : List ℕ) (n old : ℕ) where
  is_in_more : (new : ℕ) → (new ≡ n) ⊎ (new ≡ old) → Contains numbers old → Contains (numbers ++ n ∷ []) new
  is_in_more new (inl e) has = rw e (Contains-push numbers n)
  is_in_more new (inr e) has = rw e (Contains-append_left numbers (n ∷ []) old has)

  pub least_of_more : IsLeast old numbers → IsLeast (min n old) (numbers ++ n ∷ [])
  least_of_more (has, least) = (
    is_in_more (min n old) (grind arith) has,
    All-push (λ k. min n old ≤ k) numbers n (λ k d lt. let own = least k d lt in omega (arith, own)) (omega arith),
  )

  pub greatest_of_more : IsGreatest old numbers → IsGreatest (max n old) (numbers ++ n ∷ [])
  greatest_of_more (has, greatest) = (
    is_in_more (max n old) (grind arith) has,
    All-push (λ k. k ≤ max n old) numbers n (λ k d lt. let own = greatest k d lt in omega (arith, own)) (omega arith),
  )

-- ---- the versions that visits tell

pub told-push : (before : List Visit) (visit : Visit)
    → versions_told (before ++ visit ∷ []) ≡ versions_told before ++ version_told visit
told-push before visit = rw (flat_map-append version_told before (visit ∷ []), append-nil) refl

pub items_tell_none : (items : List Item) → versions_told (map of_item items) ≡ []
items_tell_none [] = refl
items_tell_none (item ∷ items) = items_tell_none items

end_tells_none : (is_open : Bool) (h : Option HeaderData)
    → versions_told (open_visit is_open ++ of_end h ∷ []) ≡ []
end_tells_none true h = refl
end_tells_none false h = refl

unit_tells : (dialect : Dialect) (n : ℕ) (u : List ℕ)
    → versions_told (unit_visits dialect n u) ≡ option_to_list (foreign_in dialect u)
unit_tells dialect n u =
    rw (
      flat_map-append version_told (visits dialect n u) (end_visits dialect u),
      end_tells_none (ends_open (unit_rows dialect u)) (header_of dialect u),
      append-nil,
    ) (by (one_of dialect n u)) where
      by : Foreign dialect n u ⊎ (Own dialect n u ⊎ Neither dialect n u)
          → versions_told (visits dialect n u) ≡ option_to_list (foreign_in dialect u)
      by (inl v) = rw (foreign_visits dialect n u v, v.1) refl
      by (inr (inl own)) =
          rw (own_visits dialect n u own, not_foreign dialect n u own) (items_tell_none (unit_items dialect u))
      by (inr (inr neither)) = rw (no_visits dialect n u neither, neither.0) refl

units_tell : (dialect : Dialect) (n : ℕ) (units : List (List ℕ))
    → versions_told (units_visits dialect n units) ≡ other_versions dialect units
units_tell dialect n [] = refl
units_tell dialect n (u ∷ units) =
    rw (
      flat_map-append version_told (unit_visits dialect n u) (units_visits dialect (n + length u) units),
      unit_tells dialect n u,
      units_tell dialect (n + length u) units,
    ) refl

-- ---- how many there are

versions_counted : (dialect : Dialect) (units : List (List ℕ))
    → (summary_of dialect units).skipped ≡ length (other_versions dialect units)
versions_counted dialect [] = refl
versions_counted dialect (u ∷ units) =
    let of_one : cond (is_some (foreign_in dialect u)) 1 0 ≡ length (option_to_list (foreign_in dialect u)) =
    elim (foreign_in dialect u) as (λ v. cond (is_some v) 1 0 ≡ length (option_to_list v)) [
      | None ↦ refl
      | Some v ↦ refl
    ] in
    omega (
      arith,
      of_one,
      versions_counted dialect units,
      sum_by-cons (λ (b : List ℕ). cond (is_some (foreign_in dialect b)) 1 0) u units,
      length-append (option_to_list (foreign_in dialect u)) (other_versions dialect units),
    )

-- ---- the answer

told : (units : ℕ) (versions : List ℕ) (range : Option VersionRange) (passed : Option PassedOver)
    → Spans versions range → units ≡ length versions → IsPassedOver units range passed → AreTold versions passed
told units versions None passed spans many is = rw is spans
told units versions (Some range) passed spans many is = rw is (many, spans.0, spans.1)

module _ (dialect : Dialect) (limit : ℕ) (bytes : List ℕ) (left : Option (List ℕ)) (first new : OtherVersions)
    (start now : Option (List ℕ)) where
  pub counted : (summary : Summary) (passed : Option PassedOver)
      → Ran version_story dialect limit bytes left first new start now (Ok summary)
      → IsPassedOver summary.skipped new.range passed → PassesOver dialect limit bytes left (Ok passed)
  counted summary passed (inl (units, ends, settled)) is =
      let many = ap (λ (s : Summary). s.skipped) ends.5 ∙ versions_counted dialect units in
      let spans = rw (append-nil, units_tell dialect 0 units) at settled.tells.1 in
      (units, summary, ends, told summary.skipped (other_versions dialect units) new.range passed spans many is)
  counted summary passed (inr done) is = absurd done.4.tells

  pub failed : (f : RunFault) → Ran version_story dialect limit bytes left first new start now (Err f)
      → PassesOver dialect limit bytes left (Err f)
  failed (fault.Write out) ran = absurd (omega (arith, ran.4.3.0))
  failed f (units, b, back, inl (ends, settled)) = (units, b, back, ends)
  failed f (units, b, back, inr (has, sound, stops)) = absurd stops.reason
