-- The ranges so far.
use Rattle.std.proofs.Common.{◌≡◌, map, take}
use Rattle.dl_building.specs.SectionBuilding.{address_range}
use Rattle.dl_building.proofs.section.address_ranges.Given as goal

abbrev pub invariant-loop-range : goal.invariant-loop-range
invariant-loop-range g l = record {
  all : l.addresses.items ≡ map address_range (take l.range-index l.ranges);
}
