use Rattle.std.proofs.Common.{◌≡◌, ◌≤◌, ◌-◌, ◌^◌}
use Rattle.dl_elf.specs.Source.{ForBytes}
use Rattle.dl_archive.specs.Told.{archive_of, left}
use Rattle.dl_archive.proofs.members.Members.next_member.Given as goal

abbrev pub invariant-loop-member : goal.invariant-loop-member
invariant-loop-member g l =
    (archive_of l.self ≡ archive_of l.initial.self)
    × (l.initial.self.next ≤ l.self.next)
    × ForBytes (g.S.ReadAt.all_bytes (archive_of l.initial.self)) (λ f. left f l.self ≡ left f l.initial.self)

abbrev pub decreases-loop-member : goal.decreases-loop-member
decreases-loop-member g l = 2 ^ 64 - l.self.next
