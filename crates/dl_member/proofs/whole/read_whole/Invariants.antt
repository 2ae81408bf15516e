use Rattle.std.proofs.Common.{◌≡◌, ◌-◌, ◌≤◌, length, take, vec_len, IfSome}
use Rattle.dl_member.proofs.whole.read_whole.Given as goal

abbrev pub invariant-loop-len : goal.invariant-loop-len
invariant-loop-len g l =
    (length l.piece ≡ 4096) × (vec_len l.found ≤ l.limit)
    × IfSome (g.S.ReadAt.all_bytes l.source) (λ f. (l.found.items ≡ take (length l.found.items) f) × (length l.found.items ≤ length f))

abbrev pub decreases-loop-len : goal.decreases-loop-len
decreases-loop-len g l = l.limit - vec_len l.found
