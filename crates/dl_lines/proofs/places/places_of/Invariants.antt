-- The places so far are told.
use Rattle.std.proofs.Common.{◌≡◌, ◌-◌, ◌≤◌, [], length, map, take}
use Rattle.dl_lines.specs.Answers.{told_once}
use Rattle.dl_lines.specs.FoundPlaces.{place_told}
use Rattle.dl_lines.specs.Printing.{found_places}
use Rattle.dl_lines.proofs.places.places_of.Given as goal

abbrev pub invariant-loop-number : goal.invariant-loop-number
invariant-loop-number g l = record {
  within : l.number ≤ length l.search.kept.places.items;
  told : l.told.items ≡ map place_told (told_once [] (take l.number (found_places l.search)));
  few : length l.told.items ≤ l.number;
}

abbrev pub decreases-loop-number : goal.decreases-loop-number
decreases-loop-number g l = length l.search.kept.places.items - l.number
