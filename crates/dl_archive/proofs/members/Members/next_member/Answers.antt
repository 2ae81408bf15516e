use Rattle.std.proofs.Common.{arith}
use Rattle.dl_archive.proofs.members.Members.next_member.Goals as goal

pub loop-member-smaller : goal.loop-member-smaller
loop-member-smaller g c = omega (arith, rw c.in-Some-Symbols.is at c.in_ok-member.ensures.moves)
