use Rattle.std.proofs.Common.{length}
use Rattle.dl_follow.specs.Candidates.{candidates}
use Rattle.dl_follow.specs.Left.{left}
use Rattle.dl_follow.specs.Seen.{folders_seen, sought_seen}
use Rattle.dl_follow.proofs.CandidateLemmas.{Follows}
use Rattle.dl_follow.proofs.search.follow.Given as goal

abbrev pub invariant-loop-candidate : goal.invariant-loop-candidate
invariant-loop-candidate g l =
    Follows (g.F.FileSource.held l.files) (g.F.FileSource.fails_with l.files) l.sought.path.now
    (candidates (folders_seen l.fn.folders) (sought_seen l.sought)) (left l.candidates)

abbrev pub decreases-loop-candidate : goal.decreases-loop-candidate
decreases-loop-candidate g l = length (left l.candidates)
