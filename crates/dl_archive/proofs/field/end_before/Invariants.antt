use Rattle.std.proofs.Common.{◌≡◌, ◌≤◌, length}
use Rattle.dl_archive.specs.Archive.{end_before}
use Rattle.dl_archive.proofs.field.end_before.Given as goal

abbrev pub invariant-loop-len : goal.invariant-loop-len
invariant-loop-len l =
    (l.len ≤ length l.bytes) × (end_before l.value l.bytes (length l.bytes) ≡ end_before l.value l.bytes l.len)

abbrev pub decreases-loop-len : goal.decreases-loop-len
decreases-loop-len l = l.len
