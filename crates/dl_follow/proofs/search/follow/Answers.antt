use Rattle.std.proofs.Common.{sym, subst}
use Rattle.dl_follow.specs.Candidates.{candidates}
use Rattle.dl_follow.specs.Left.{candidate_seen, left}
use Rattle.dl_follow.specs.Seen.{folders_seen, path_taken, sought_seen}
use Rattle.dl_follow.proofs.CandidateLemmas.{Follows, follows_more, follows_none, follows_taken}
use Rattle.dl_follow.proofs.search.follow.Goals as goal

pub loop-candidate-init : goal.loop-candidate-init
loop-candidate-init g c =
    subst (Follows (g.F.FileSource.held c.args.files.now) (g.F.FileSource.fails_with c.args.files.now) c.args.sought.now.path.now
    (candidates (folders_seen c.args.folders.now) (sought_seen c.args.sought.now))) (sym c.new-candidates.ensures) (λ taken is. is)

pub returns-in-Some-file_at-clause-first : goal.returns-in-Some-file_at-clause-first
returns-in-Some-file_at-clause-first g c =
    let held = g.F.FileSource.held c.args.files.now in
    let fails = g.F.FileSource.fails_with c.args.files.now in
    let own = c.args.sought.now.path.now in
    let all = candidates (folders_seen c.args.folders.now) (sought_seen c.args.sought.now) in
    follows_taken held fails own all (candidate_seen c.in-Some.candidate) (left c.next.new.self)
    (path_taken c.in-Some-file_at.taken)
    (subst (Follows held fails own all) c.in-Some.ensures c.loop-candidate.invariant) c.in-Some-file_at.ensures.taken

pub loop-candidate-preserved : goal.loop-candidate-preserved
loop-candidate-preserved g c =
    let held = g.F.FileSource.held c.args.files.now in
    let fails = g.F.FileSource.fails_with c.args.files.now in
    let own = c.args.sought.now.path.now in
    let all = candidates (folders_seen c.args.folders.now) (sought_seen c.args.sought.now) in
    follows_more held fails own all (candidate_seen c.in-Some.candidate) (left c.next.new.self)
    (subst (Follows held fails own all) c.in-Some.ensures c.loop-candidate.invariant)
    c.in_default-file_at.ensures.taken

pub returns-clause-first : goal.returns-clause-first
returns-clause-first g c =
    follows_none (g.F.FileSource.held c.args.files.now) (g.F.FileSource.fails_with c.args.files.now) c.args.sought.now.path.now
    (candidates (folders_seen c.args.folders.now) (sought_seen c.args.sought.now)) (left c.loop-candidate.candidates)
    c.loop-candidate.invariant c.in_default.ensures
