use Rattle.std.proofs.Common.{◌∙◌}
use Rattle.dl_follow.specs.Clues.{clues_seen}
use Rattle.dl_follow.specs.Followed.{followed_seen}
use Rattle.dl_follow.specs.Seen.{folders_seen}
use Rattle.dl_follow.proofs.FollowedLemmas.{followed_by, own_by_fault}
use Rattle.dl_follow.proofs.followed.table_file.Goals as goal

pub returns-in-Ok-Some-clause-followed : goal.returns-in-Ok-Some-clause-followed
returns-in-Ok-Some-clause-followed g c = λ f is short.
    followed_by (g.F.FileSource.held c.args.files.now) (g.F.FileSource.fails_with c.args.files.now) c.args.path.now
    (folders_seen c.args.folders.now) f (clues_seen c.in-Ok-Some.clues) (followed_seen c.by_clues.result)
    (rw c.in-Ok-Some.field-0-is at c.in-Ok-Some.ensures f (c.in-Ok.ensures.bytes ∙ is) short) c.by_clues.ensures.found

pub returns-clause-followed : goal.returns-clause-followed
returns-clause-followed g c = λ f is short.
    own_by_fault _ (g.F.FileSource.fails_with c.args.files.now c.args.path.now) c.in-Ok.ensures.reads f c.in-Err.field-0
    (c.in-Err.ensures f (c.in-Ok.ensures.bytes ∙ is) short)
