-- The number that the digits so far say.
use Rattle.std.proofs.Common.{◌≡◌, ◌-◌, ◌≤◌, true, length, take}
use Rattle.std.specs.List.{list_all}
use Rattle.dl_lines.specs.Words.{is_digit, number_after}
use Rattle.dl_lines.proofs.word.number_in.Given as goal

abbrev pub invariant-loop-at : goal.invariant-loop-at
invariant-loop-at l = record {
  within : l.at ≤ length l.digits;
  digits : list_all is_digit (take l.at l.digits) ≡ true;
  number : l.number ≡ number_after 0 (take l.at l.digits);
}

abbrev pub decreases-loop-at : goal.decreases-loop-at
decreases-loop-at l = length l.digits - l.at
