use Rattle.std.proofs.Common.{arith}
use Rattle.hex.proofs.HexLemmas.{length-encode_with}
use Rattle.hex.specs.Hex.{lower_digits}
use Rattle.dl_follow.proofs.place.put_digits.Goals as goal

pub returns-then-bytes : goal.returns-then-bytes
returns-then-bytes c =
    omega (arith, length-encode_with lower_digits c.args.bytes.now, c.if-bytes.true)
