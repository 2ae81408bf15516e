use Rattle.std.proofs.Common.{◌≡◌, drop}
use Rattle.dl_archive.specs.Archive.{number_after, number_of}
use Rattle.dl_archive.proofs.field.number_of.Given as goal

abbrev pub invariant-loop-byte : goal.invariant-loop-byte
invariant-loop-byte l = number_of l.digits ≡ number_after l.number (drop l.byte-index l.digits)
