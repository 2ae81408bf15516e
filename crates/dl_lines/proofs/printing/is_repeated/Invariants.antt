-- No place from here on has the same.
use Rattle.std.proofs.Common.{◌≡◌, ◌<◌, ◌≤◌, ℕ, false, get_or}
use Rattle.dl_lines.specs.Answers.{is_same}
use Rattle.dl_lines.specs.Printing.{found_places, no_place}
use Rattle.dl_lines.proofs.printing.is_repeated.Given as goal

abbrev pub invariant-loop-at : goal.invariant-loop-at
invariant-loop-at l = record {
  within : l.at ≤ l.number;
  none : (i : ℕ) → l.at ≤ i → i < l.number
      → is_same (get_or (found_places l.search) l.number no_place) (get_or (found_places l.search) i no_place) ≡ false;
}

abbrev pub decreases-loop-at : goal.decreases-loop-at
decreases-loop-at l = l.at
