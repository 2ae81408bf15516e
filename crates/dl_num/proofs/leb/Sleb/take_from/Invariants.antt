use Rattle.std.proofs.Common.{ℕ, List, ◌++◌, take}
use Rattle.dl_num.specs.LebReader.{SlebTook}
use Rattle.dl_num.proofs.leb.Sleb.take_from.Given as goal

abbrev pub invariant-loop-i : goal.invariant-loop-i
invariant-loop-i l = (w : List ℕ) → SlebTook l.initial.self w → SlebTook l.self (w ++ take l.i l.bytes)
