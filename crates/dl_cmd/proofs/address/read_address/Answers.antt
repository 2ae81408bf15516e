use Rattle.std.proofs.Common.{ap, ◌∙◌}
use Rattle.std.proofs.Math.ListN.{drop_of_length-le}
use Rattle.dl_cmd.specs.AddressText.{address_of}
use Rattle.dl_cmd.proofs.AddressLemmas.{text_says}
use Rattle.dl_cmd.proofs.address.read_address.Goals as goal

pub returns : goal.returns
returns c =
    let none = drop_of_length-le c.as_bytes-byte-items.result.now c.loop-byte-test.false in
    c.address.ensures
    ∙ ap address_of (rw none at c.loop-byte.invariant)
    ∙ text_says c.args.hex c.args.text.now
