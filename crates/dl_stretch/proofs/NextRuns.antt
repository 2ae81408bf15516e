-- Runs that become stretches.
use Rattle.std.proofs.Common.{◌≡◌, ℕ, zero, suc, ◌+◌, ◌<◌, ◌≤◌, Bool, List, length, get_or, min, Option, Some, None}
use Rattle.std.proofs.Common.{arith, ap, inl, inr}
use Rattle.std.specs.Prelude.{if◌then◌else◌}
use Rattle.std.specs.Option.{option_map}
use Rattle.std.proofs.lemmas.Bool.{cases_lt, cases_eq, lt-ltb, le-ltb}
use Rattle.dl_stretch.specs.declared.told.Told.{Told}
use Rattle.dl_stretch.specs.declared.run.Run.{Run}
use Rattle.dl_stretch.specs.Held.{told_by}
use Rattle.dl_stretch.specs.Runs.{run_told_at}
use Rattle.dl_stretch.specs.RowRuns.{RunsRise}
use Rattle.dl_stretch.specs.Made.{no_run, start_at, next_start}
use Rattle.dl_stretch.proofs.LastBegun.{rise_at, none_at, some_at}
use Rattle.dl_stretch.proofs.RunLemmas.{run_start}

pub starts_far : (runs : List Run) → RunsRise runs → (j k : ℕ) → j ≤ k → k < length runs
    → start_at runs j ≤ start_at runs k
starts_far runs r j k le lt = elim (cases_eq j k) [
  | inl e ↦ (let h = ap (λ n. start_at runs n) e in omega (arith, h))
  | inr ne ↦ (let h = rise_at run_start runs r j k no_run (omega arith) lt in omega (arith, h))
]

pub starts_upto : (runs : List Run) (m a : ℕ) → RunsRise runs → m < length runs → start_at runs m ≤ a → (k : ℕ)
    → k < m + 1 → start_at runs k ≤ a
starts_upto runs m a r lt upto k less = let h = starts_far runs r k m (omega arith) lt in omega (arith, h, upto)

-- what the run before the run n tells
abbrev pub told_before : List Run → ℕ → Option Told
told_before runs zero = None
told_before runs (suc n) = Some (told_by (get_or runs n no_run))

pub between : (runs : List Run) (n a : ℕ) → RunsRise runs → n ≤ length runs
    → ((k : ℕ) → k < n → start_at runs k ≤ a) → (n < length runs → a < start_at runs n)
    → run_told_at runs a ≡ told_before runs n
between runs zero a r le upto above =
    ap (option_map told_by) (none_at run_start runs a no_run r above)
between runs (suc n) a r le upto above =
    ap (option_map told_by) (some_at run_start runs a n no_run r (omega arith) (upto n (omega arith)) above)

pub next_within : (runs : List Run) (end n : ℕ) → n < length runs
    → next_start runs end n ≡ min (start_at runs n) end
next_within runs end n lt = ap (λ (b : Bool). if b then min (start_at runs n) end else end) (lt-ltb n (length runs) lt)

pub next_past : (runs : List Run) (end n : ℕ) → length runs ≤ n → next_start runs end n ≡ end
next_past runs end n le = ap (λ (b : Bool). if b then min (start_at runs n) end else end) (le-ltb n (length runs) le)

pub next_upto : (runs : List Run) (end n : ℕ) → next_start runs end n ≤ end
next_upto runs end n = elim (cases_lt n (length runs)) [
  | inl lt ↦ (let e = next_within runs end n lt in omega (arith, e))
  | inr le ↦ (let e = next_past runs end n le in omega (arith, e))
]

-- what begins above first goes on to it and after
pub next_above : (runs : List Run) (first end n : ℕ) → first < end → (n < length runs → first < start_at runs n)
    → first < next_start runs end n
next_above runs first end n less above = elim (cases_lt n (length runs)) [
  | inl lt ↦ (let e = next_within runs end n lt in let h = above lt in omega (arith, e, h, less))
  | inr le ↦ (let e = next_past runs end n le in omega (arith, e, less))
]

-- between first and the run n the run before it tells
module _ (runs : List Run) (first end n : ℕ) (r : RunsRise runs) (le : n ≤ length runs)
    (upto : (k : ℕ) → k < n → start_at runs k ≤ first) where
  pub told_next : (a : ℕ) → first ≤ a → a < next_start runs end n → run_told_at runs a ≡ told_before runs n
  told_next a from lt =
      between runs n a r le (λ k less. (let h = upto k less in omega (arith, h, from)))
      (λ h. (let e = next_within runs end n h in omega (arith, e, lt)))
