-- What was read and the bytes that are left are the whole text.
use Rattle.std.proofs.Common.{◌≡◌, drop}
use Rattle.dl_cmd.proofs.AddressLemmas.{all_after}
use Rattle.dl_cmd.specs.declared.address.AddressText.TheVariants.{Empty}
use Rattle.dl_cmd.proofs.address.read_address.Given as goal

abbrev pub invariant-loop-byte : goal.invariant-loop-byte
invariant-loop-byte l =
    all_after l.hex l.read (drop l.byte-index l.byte-items) ≡ all_after l.hex Empty l.fn.text
