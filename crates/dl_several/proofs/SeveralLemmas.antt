-- One path more.
use Rattle.std.proofs.Common.{◌≡◌, ℕ, List, [], ◌∷◌, ◌++◌, max, refl, arith, subst}
use Rattle.dl_several.specs.Checks.{IsWorst, Steps, worst}

worst-more : (statuses : List ℕ) (status : ℕ) → worst (statuses ++ status ∷ []) ≡ max (worst statuses) status
worst-more [] status = omega arith
worst-more (first ∷ statuses) status = omega (arith, worst-more statuses status)

module _ {T : Type 0} (goes : T → List ℕ → ℕ → T → Type 0) where
  steps_more : (paths : List (List ℕ)) (path : List ℕ) (statuses : List ℕ) (status : ℕ) (old between new : T)
      → Steps goes paths statuses old between → goes between path status new
      → Steps goes (paths ++ path ∷ []) (statuses ++ status ∷ []) old new
  steps_more [] path [] status old between new done goes_on =
      (new, subst (λ t. goes t path status new) done goes_on, refl)
  steps_more [] path (other ∷ statuses) status old between new done goes_on = absurd done
  steps_more (first ∷ paths) path [] status old between new done goes_on = absurd done
  steps_more (first ∷ paths) path (other ∷ statuses) status old between new done goes_on =
      let (told, one, later) = done in (
        told,
        one,
        steps_more paths path statuses status told between new later goes_on,
      )

  -- one more behind them
  pub worst_more : (paths : List (List ℕ)) (path : List ℕ) (so_far status : ℕ) (old between new : T)
      → IsWorst goes paths so_far old between → goes between path status new
      → IsWorst goes (paths ++ path ∷ []) (max so_far status) old new
  worst_more paths path so_far status old between new (statuses, done, is) goes_on = (
    statuses ++ status ∷ [],
    steps_more paths path statuses status old between new done goes_on,
    omega (arith, is, worst-more statuses status),
  )

  -- one more before them
  pub worst_before : (paths : List (List ℕ)) (path : List ℕ) (first others : ℕ) (old between new : T)
      → goes old path first between → IsWorst goes paths others between new
      → IsWorst goes (path ∷ paths) (max first others) old new
  worst_before paths path first others old between new one (statuses, done, is) = (
    first ∷ statuses,
    (between, one, done),
    omega (arith, is),
  )
