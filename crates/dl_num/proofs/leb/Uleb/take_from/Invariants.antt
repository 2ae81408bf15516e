use Rattle.std.proofs.Common.{ℕ, List, ◌++◌, take}
use Rattle.dl_num.specs.LebReader.{UlebTook}
use Rattle.dl_num.proofs.leb.Uleb.take_from.Given as goal

abbrev pub invariant-loop-i : goal.invariant-loop-i
invariant-loop-i l = (w : List ℕ) → UlebTook l.initial.self w → UlebTook l.self (w ++ take l.i l.bytes)
