-- The ranges so far.
use Rattle.std.proofs.Common.{◌≡◌, map, take}
use Rattle.dl_open.specs.Code.{address_range}
use Rattle.dl_open.proofs.code.address_ranges.Given as goal

abbrev pub invariant-loop-range : goal.invariant-loop-range
invariant-loop-range g l = record {
  all : l.addresses.items ≡ map address_range (take l.range-index l.ranges);
}
