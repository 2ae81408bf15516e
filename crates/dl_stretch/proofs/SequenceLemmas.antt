-- The runs of the current sequence, row by row.
use Rattle.std.proofs.Common.{◌≡◌, ◌<◌, Bool, true, false, ◌&&◌, List, [], ◌∷◌, ◌++◌, reverse, length, Option, Some}
use Rattle.std.proofs.Common.{None, ◌≤◌, arith, refl, sym, ap, ap₂, subst, ◌∙◌}
use Rattle.std.specs.Prelude.{if◌then◌else◌, is_none}
use Rattle.std.specs.List.{find}
use Rattle.std.specs.Option.{option_map, option_or}
use Rattle.std.proofs.Math.Logic.{∥∥₁_elim}
use Rattle.std.proofs.Props.{props}
use Rattle.std.proofs.lemmas.Bool.{false≢true, and_from, and_left}
use Rattle.std.proofs.lemmas.Bool.Decides.{nat_tests}
use Rattle.std.proofs.lemmas.List.{reverse-append}
use Rattle.std.proofs.lemmas.List.Elements.{All-nil}
use Rattle.std.proofs.lemmas.List.Folds.{find-append}
use Rattle.dl_rows.specs.declared.row.Row.{Row}
use Rattle.dl_look.specs.declared.place.Place.{Place}
use Rattle.dl_look.specs.Answer.{place_of, is_at_most, is_below, is_rising, first_place, last_place, covers, last_upto}
use Rattle.dl_look.proofs.MoreRows.{last_place-push, is_rising-push}
use Rattle.dl_look.proofs.PlaceOrder.{not_between, not_below-at_most}
use Rattle.dl_stretch.specs.declared.run.Run.{Run}
use Rattle.dl_stretch.specs.declared.sequence.RowStage.TheVariants.{Between, Passed, Rising}
use Rattle.dl_stretch.specs.Runs.{place_at, first_address}
use Rattle.dl_stretch.specs.RowRuns.{AreRunsOf}
use Rattle.dl_stretch.specs.Sequences.{Keeps, AreKept, TellFrom, TellsFirst}
use Rattle.dl_stretch.proofs.RunLemmas.{rise_to, row_told}

pub first-more : (rows : List Row) (r : Row) → 0 < length rows → first_place (rows ++ r ∷ []) ≡ first_place rows
first-more [] r some = absurd (omega arith)
first-more (q ∷ rows) r some = refl

rising-more : (rows : List Row) (r : Row) → 0 < length rows
    → is_rising (rows ++ r ∷ []) ≡ (is_rising rows && is_at_most (last_place rows) (place_of r))
rising-more [] r some = absurd (omega arith)
rising-more (q ∷ rows) r some = is_rising-push q rows r

longer : (rows : List Row) (r : Row) → 0 < length (rows ++ r ∷ [])
longer [] r = omega arith
longer (q ∷ rows) r = omega arith

pub none_are : AreRunsOf [] []
none_are = record { right = λ a lt. refl; rise = tt; upto = All-nil (λ (x : Run). x.start ≤ first_address (last_place [])) }

least : (p : Place) → is_below p (last_place []) ≡ false
least p = grind (arith, nat_tests)

-- what one row more makes of the runs
abbrev pub Pushed : List Run → List Run → Row → Type 0
Pushed old new r = (rows : List Row) → AreRunsOf rows old → is_at_most (last_place rows) (place_of r) ≡ true
    → AreRunsOf (rows ++ r ∷ []) new

module _ (old new : List Run) (rows : List Row) (r : Row) (pushed : Pushed old new r) (p : Place) (at : p ≡ place_of r) where
  pub keeps_first : Keeps Between old rows → Keeps (Rising p p) new (rows ++ r ∷ [])
  keeps_first k =
      rw at (rw k.0 (refl, omega arith, refl, refl, pushed [] (subst (λ l. AreRunsOf [] l) (sym k.1) none_are) (not_below-at_most (place_of r) (last_place []) (least (place_of r)))))

  pub keeps_next : (first last : Place) → Keeps (Rising first last) old rows → is_at_most last p ≡ true
      → Keeps (Rising first p) new (rows ++ r ∷ [])
  keeps_next first last k le =
      let after = ap₂ is_at_most (sym k.3) (sym at) ∙ le in (
        rising-more rows r k.1 ∙ and_from (is_rising rows) (is_at_most (last_place rows) (place_of r)) k.0 after,
        longer rows r,
        k.2 ∙ sym (first-more rows r k.1),
        at ∙ sym (last_place-push rows r),
        pushed rows k.4 after,
      )

module _ (old : List Run) (rows : List Row) (r : Row) (p : Place) (at : p ≡ place_of r) where
  falls : (first last : Place) → Keeps (Rising first last) old rows → is_at_most last p ≡ false
      → is_rising (rows ++ r ∷ []) ≡ false
  falls first last k over =
      rising-more rows r k.1 ∙ ap₂ (λ a b. a && b) k.0 (ap₂ is_at_most (sym k.3) (sym at) ∙ over)

  pub keeps_falls : (first last : Place) → Keeps (Rising first last) old rows → is_at_most last p ≡ false
      → Keeps Passed old (rows ++ r ∷ [])
  keeps_falls first last k over = falls first last k over

  pub ends_falling : (first last : Place) → Keeps (Rising first last) old rows → is_at_most last p ≡ false
      → TellsFirst None old rows r
  ends_falling first last k over = λ x. and_left (is_rising (rows ++ r ∷ [])) (covers x (rows ++ r ∷ [])) (falls first last k over)

  pub ends_rising : (first last : Place) → Keeps (Rising first last) old rows → is_at_most last p ≡ true
      → TellsFirst (Some first) old rows r
  ends_rising first last k le = (
    rising-more rows r k.1 ∙ and_from (is_rising rows) (is_at_most (last_place rows) (place_of r)) k.0
        (ap₂ is_at_most (sym k.3) (sym at) ∙ le),
    k.1,
    k.2,
    k.4,
  )

passed_on : (rows : List Row) (r : Row) → is_rising rows ≡ false → is_rising (rows ++ r ∷ []) ≡ false
passed_on [] r h = absurd (false≢true (sym h))
passed_on (q ∷ rows) r h =
    is_rising-push q rows r ∙ and_left (is_rising (q ∷ rows)) (is_at_most (last_place (q ∷ rows)) (place_of r)) h

pub keeps_passed : (old : List Run) (rows : List Row) (r : Row) → Keeps Passed old rows → Keeps Passed old (rows ++ r ∷ [])
keeps_passed old rows r k = passed_on rows r k

pub ends_passed : (old : List Run) (rows : List Row) (r : Row) → Keeps Passed old rows → TellsFirst None old rows r
ends_passed old rows r k = λ x. and_left (is_rising (rows ++ r ∷ [])) (covers x (rows ++ r ∷ [])) (passed_on rows r k)

pub ends_between : (old : List Run) (rows : List Row) (r : Row) → Keeps Between old rows → TellsFirst None old rows r
ends_between old rows r k = λ x. ap (λ l. is_rising (l ++ r ∷ []) && covers x (l ++ r ∷ [])) k.0 ∙ not_between (place_of r) x

-- ---- from the first row on

last_upto-cons : (x : Place) (r : Row) (s : List Row)
    → last_upto x (r ∷ s) ≡ option_or (last_upto x s) (if is_at_most (place_of r) x then Some r else None)
last_upto-cons x r s =
    ap (find (λ r. is_at_most (place_of r) x)) (reverse-append (r ∷ []) s)
    ∙ find-append (λ r. is_at_most (place_of r) x) (reverse s) (r ∷ [])

or-some : (o : Option Row) (r : Row) → is_none (option_or o (Some r)) ≡ false
or-some None r = refl
or-some (Some q) r = refl

some_upto : (x : Place) (rows : List Row) → 0 < length rows → is_at_most (first_place rows) x ≡ true
    → is_none (last_upto x rows) ≡ false
some_upto x [] some h = absurd (omega arith)
some_upto x (r ∷ rows) some h =
    ap is_none (last_upto-cons x r rows
    ∙ ap (λ (b : Bool). option_or (last_upto x rows) (if b then Some r else None)) h)
    ∙ or-some (last_upto x rows) r

none-map : (o : Option Row) → is_none (option_map row_told o) ≡ is_none o
none-map None = refl
none-map (Some r) = refl

pub tell_from : (first last : Place) (runs : List Run) → AreKept (Rising first last) runs → TellFrom first runs
tell_from first last runs (rows, k) = record {
  rise = rise_to runs k.4.rise;
  full = λ a lt h. ap is_none (k.4.right a lt) ∙ none-map (last_upto (place_at a) rows)
      ∙ some_upto (place_at a) rows k.1 (ap (λ p. is_at_most p (place_at a)) (sym k.2) ∙ h);
}

pub tells_from : (first last : Place) (runs : List Run) → ∥ AreKept (Rising first last) runs ∥₁ → TellFrom first runs
tells_from first last runs kept = ∥∥₁_elim kept (hlevel props) (tell_from first last runs)
