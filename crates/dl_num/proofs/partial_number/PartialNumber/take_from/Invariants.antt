use Rattle.std.proofs.Common.{◌≡◌, ◌++◌, take}
use Rattle.dl_num.specs.NumberBytes.{number_size, number_bytes}
use Rattle.dl_num.proofs.partial_number.PartialNumber.take_from.Given as goal

abbrev pub invariant-loop-i : goal.invariant-loop-i
invariant-loop-i l =
    (number_size l.number ≡ number_size l.fn.self)
    × (number_bytes l.number ≡ number_bytes l.fn.self ++ take l.i l.bytes)
