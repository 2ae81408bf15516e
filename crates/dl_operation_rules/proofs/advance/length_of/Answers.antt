use Rattle.std.proofs.Common.{◌≤◌, ◌^◌, arith}
use Rattle.std.proofs.lemmas.Nat.{mul-le}
use Rattle.dl_operation_rules.proofs.advance.length_of.Goals as goal

pub overflow_mul-result : goal.overflow_mul-result
overflow_mul-result c =
    let short : c.from.result ≤ 255 = omega (arith, c.from.ensures, c.ranges.length.fits) in
    let bounded = mul-le c.from.result c.args.instructions 255 (2 ^ 65) short c.requires in
    omega (arith, bounded)

pub returns-clause-most : goal.returns-clause-most
returns-clause-most c =
    let short : c.from.result ≤ 255 = omega (arith, c.from.ensures, c.ranges.length.fits) in
    let bounded = mul-le c.from.result c.args.instructions 255 (2 ^ 65) short c.requires in
    omega (arith, bounded)
