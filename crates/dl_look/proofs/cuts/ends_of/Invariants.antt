use Rattle.std.proofs.Common.{◌≡◌, take, flat_map}
use Rattle.dl_look.specs.Cuts.{ends_of_span}
use Rattle.dl_look.proofs.cuts.ends_of.Given as goal

abbrev pub invariant-loop-span : goal.invariant-loop-span
invariant-loop-span g l = l.ends.items ≡ flat_map ends_of_span (take l.span-index l.spans)
