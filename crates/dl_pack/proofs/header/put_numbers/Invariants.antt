use Rattle.std.proofs.Common.{◌≡◌, ◌++◌, take}
use Rattle.dl_pack.specs.Columns.{column_bytes}
use Rattle.dl_pack.proofs.header.put_numbers.Given as goal

abbrev pub invariant-loop-number : goal.invariant-loop-number
invariant-loop-number g l = l.out.items ≡ l.fn.out.items ++ column_bytes 8 (take l.number-index l.numbers)
