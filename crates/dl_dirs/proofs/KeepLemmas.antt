-- No more is kept of a walk than the bytes that it has taken.
use Rattle.std.proofs.Common.{◌≡◌, ℕ, ◌+◌, ◌≤◌, List, ◌++◌, length, min, Result, Ok, Err, refl, sym, subst, ◌∙◌, arith}
use Rattle.std.specs.Prelude.{OnErr}
use Rattle.dl_memory.specs.Refusals.{IsRefused}
use Rattle.dl_num.specs.declared.fixed.Order.{Order}
use Rattle.dl_info.specs.declared.head.UnitLength.{UnitLength}
use Rattle.dl_info.specs.declared.unit.Answer.{Answer}
use Rattle.dl_info.specs.Entries.{EntryData}
use Rattle.dl_info.specs.Units.{unit_length}
use Rattle.dl_dirs.specs.declared.places.Places.{Places}
use Rattle.dl_dirs.specs.declared.walk.InfoStage.{InfoStage}
use Rattle.dl_dirs.specs.declared.walk.InfoStage.TheVariants as state
use Rattle.dl_dirs.specs.declared.walk.Walk.{Walk}
use Rattle.dl_dirs.specs.Holding.{Fits, Holds}
use Rattle.dl_dirs.specs.Standing.{Keeps, KeepsWith, begun, passed}
use Rattle.dl_dirs.proofs.SizeLemmas.{Sized}

-- ---- refusals

-- memory was refused for a list of n items, or for one of no more
pub on_err : {A E : Type 0} (r : Result A E) (P : Type 0) → P → OnErr r P
on_err (Ok x) P p = tt
on_err (Err e) P p = p

module _ (refuses : ℕ → Type 0) (n most : ℕ) (within : n ≤ most) where
  pub fewer : IsRefused refuses n → IsRefused refuses most
  fewer (k, few, refused) = (k, omega (arith, few, within), refused)

  pub fewer_err : {A E : Type 0} (r : Result A E) → OnErr r (IsRefused refuses n) → OnErr r (IsRefused refuses most)
  fewer_err (Ok x) refused = tt
  fewer_err (Err e) refused = fewer refused

  pub list_err : {A E : Type 0} (r : Result A E) → OnErr r (refuses n) → OnErr r (IsRefused refuses most)
  list_err (Ok x) refused = tt
  list_err (Err e) refused = (n, within, refused)

-- ---- places

pub fits_more : (p : Places) (n m : ℕ) → n ≤ m → Fits p n → Fits p m
fits_more p n m le f = record { entries = omega (arith, le, f.entries); bytes = omega (arith, le, f.bytes) }

-- with the entry of a unit that is passed over
pub fits_passed : (p : Places) (over : ℕ) (order first : Order) (front : List ℕ) (e : EntryData) (answer : Answer UnitLength)
    (s : Sized first front e) → order ≡ first → answer ≡ unit_length order front
    → Fits p (over + min s.l.size (length front)) → Fits p (over + passed answer front)
fits_passed p over order first front e answer s same is fits =
    let told = is ∙ (subst (λ o. unit_length order front ≡ unit_length o front) same refl ∙ s.length_is) in
    subst (λ u. Fits p (over + passed u front)) (sym told) fits

-- ---- walks

pub keeps_more : (places : Places) (front : List ℕ) (taken later : ℕ) → taken ≤ later → KeepsWith places front taken
    → KeepsWith places front later
keeps_more places front taken later le k =
    record { es = k.es; holds = k.holds; over = k.over; fits = k.fits; within = omega (arith, le, k.within) }

-- the first bytes of a unit are kept
pub begun_keeps : (walk : Walk) (awaited taken : ℕ) → walk.state ≡ state.Begun awaited → Keeps walk taken
    → KeepsWith walk.places walk.front.items taken
begun_keeps walk awaited taken is k =
    subst (λ (s : InfoStage). KeepsWith walk.places (begun s walk.front.items) taken) is k

-- a unit was read from its first bytes u
module _ (old new : Places) (u : List ℕ) (answer : Answer UnitLength) (more : List EntryData)
    (few : (over : ℕ) → Fits old over → Fits new (over + passed answer u))
    (holds : (es : List EntryData) → Holds old es → Holds new (es ++ more)) where
  pub keeps_read : (before front : List ℕ) (taken later : ℕ)
      → taken + passed answer u + length front ≤ later + length before → KeepsWith old before taken
      → KeepsWith new front later
  keeps_read before front taken later le k = record {
    es = k.es ++ more;
    holds = holds k.es k.holds;
    over = k.over + passed answer u;
    fits = few k.over k.fits;
    within = omega (arith, le, k.within);
  }
