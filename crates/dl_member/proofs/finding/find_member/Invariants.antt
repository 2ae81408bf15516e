use Rattle.std.proofs.Common.{◌≡◌, ◌-◌, ◌^◌, Some}
use Rattle.dl_elf.specs.Source.{ForBytes}
use Rattle.dl_archive.specs.Archive.{kind_of, members}
use Rattle.dl_archive.specs.Told.{archive_of, left, next_of}
use Rattle.dl_archive.specs.declared.kind.Kind.{Kind}
use Rattle.dl_member.specs.Finding.{first_named}
use Rattle.dl_member.proofs.finding.find_member.Given as goal

abbrev pub invariant-loop-member : goal.invariant-loop-member
invariant-loop-member g l =
    (archive_of l.members ≡ l.archive)
    × ForBytes (g.S.ReadAt.all_bytes l.archive) (λ f. (kind : Kind) × (kind_of f ≡ Some kind)
    × (first_named f l.name (members kind f).0 ≡ first_named f l.name (left f l.members).0)
    × ((members kind f).1 ≡ (left f l.members).1))

abbrev pub decreases-loop-member : goal.decreases-loop-member
decreases-loop-member g l = 2 ^ 64 - next_of l.members
