use Rattle.std.proofs.Common.{◌-◌, ◌≡◌, ℕ, ◌<◌, ◌≤◌, length, true, false}
use Rattle.dl_look.specs.Answer.{is_at_most}
use Rattle.dl_look.specs.Cuts.{cut_place}
use Rattle.dl_look.proofs.cuts.cuts_upto.Given as goal

abbrev pub invariant-loop-low : goal.invariant-loop-low
invariant-loop-low l =
    record {
      apart : l.low ≤ l.high;
      within : l.high ≤ length l.cuts;
      upto : (k : ℕ) → k < l.low → is_at_most (cut_place l.cuts k) l.place ≡ true;
      above : (k : ℕ) → l.high ≤ k → k < length l.cuts → is_at_most (cut_place l.cuts k) l.place ≡ false;
    }

abbrev pub decreases-loop-low : goal.decreases-loop-low
decreases-loop-low l = l.high - l.low
