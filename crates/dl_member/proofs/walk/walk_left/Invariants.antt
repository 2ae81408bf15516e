-- The members so far were gone through.
use Rattle.std.proofs.Common.{◌≡◌, ◌-◌, ◌^◌, List, []}
use Rattle.dl_archive.specs.Told.{archive_of, left, next_of}
use Rattle.dl_cmd.specs.Job.{request_made}
use Rattle.dl_elf.specs.Source.{ForBytes}
use Rattle.dl_member.specs.Files.{bytes_of_file, fails_of_file}
use Rattle.dl_member.specs.Onward.{Adds, HasGone}
use Rattle.dl_member.specs.declared.step.Step.{Step}
use Rattle.dl_member.proofs.walk.walk_left.Given as goal

abbrev pub invariant-loop-step : goal.invariant-loop-step
invariant-loop-step g l =
    (archive_of l.members ≡ archive_of l.fn.members)
    × (archive_of l.fn.members ≡ l.archive → ((t : g.row.T.Denot) → g.T.DamageSink.hears t t [])
    → ForBytes (g.S.ReadAt.all_bytes l.archive) (λ f. (steps : List Step) × Adds l.fn.counts l.counts steps
    × HasGone (g.M.Memory.refuses l.memory) (g.F.FileSource.held l.files) (g.F.FileSource.fails_with l.files) g.W.Destination.fails
    (request_made l.job) g.T.DamageSink.hears g.T.MemberSink.tells (g.S.ReadAt.fails_with l.archive)
    (bytes_of_file g.S.ReadAt.all_bytes g.F.File.ReadAt.all_bytes) (fails_of_file g.S.ReadAt.fails_with g.F.File.ReadAt.fails_with) f l.path
    (left f l.fn.members) (left f l.members) steps (g.W.Write.contents l.fn.output) (g.W.Write.contents l.output) l.fn.sink l.sink))

abbrev pub decreases-loop-step : goal.decreases-loop-step
decreases-loop-step g l = 2 ^ 64 - next_of l.members
