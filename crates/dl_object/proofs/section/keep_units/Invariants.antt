use Rattle.std.proofs.Common.{◌≡◌, ◌≤◌, ◌-◌, length}
use Rattle.dl_object.proofs.SectionLemmas.{UnitsReplaced}
use Rattle.dl_object.proofs.section.keep_units.Given as goal

abbrev pub invariant-loop-head : goal.invariant-loop-head
invariant-loop-head l =
    record {
      len : length l.bytes ≡ length l.fn.bytes;
      within : l.at ≤ length l.bytes;
      so_far : UnitsReplaced l.dialect l.wanted.places.now l.wanted.section l.fn.bytes l.bytes l.at;
    }

abbrev pub decreases-loop-head : goal.decreases-loop-head
decreases-loop-head l = length l.bytes - l.at
