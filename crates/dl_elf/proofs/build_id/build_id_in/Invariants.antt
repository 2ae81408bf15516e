use Rattle.std.proofs.Common.{◌≡◌, ◌≤◌, length}
use Rattle.dl_elf.specs.Notes.{build_id_from}
use Rattle.dl_elf.proofs.build_id.build_id_in.Given as goal

abbrev pub invariant-loop-note : goal.invariant-loop-note
invariant-loop-note l = (length l.rest ≤ 4096)
    × (build_id_from (length l.notes) l.order l.notes ≡ build_id_from (length l.rest) l.order l.rest)

abbrev pub decreases-loop-note : goal.decreases-loop-note
decreases-loop-note l = length l.rest
