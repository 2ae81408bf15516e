-- The places so far.
use Rattle.std.proofs.Common.{◌≡◌, ◌++◌}
use Rattle.dl_reloc.specs.Places.{placed_upto}
use Rattle.dl_reloc.proofs.places.push_places.Given as goal

abbrev pub invariant-loop-index : goal.invariant-loop-index
invariant-loop-index g l =
    l.places.items ≡ l.initial.places.items ++ placed_upto l.target l.form l.entries l.table l.wide l.index
