use Rattle.std.proofs.Common.{◌≡◌, List, ℕ, Option, Some, None, refl, subst}
use Rattle.std.specs.declared.io.Error.{Error}
use Rattle.dl_follow.specs.Candidates.{FoldersData, IsFirst, SoughtData, candidates}
use Rattle.dl_follow.specs.Clues.{clues_seen, sought_by}
use Rattle.dl_follow.specs.Seen.{folders_seen, path_taken, sought_seen}
use Rattle.dl_follow.specs.declared.candidates.Sought.{Sought}
use Rattle.dl_follow.proofs.followed.by_clues.Goals as goal

-- what is sought is what the clues say
by_sought : (held : List ℕ → Option (List ℕ)) (fails : List ℕ → Error → Type 0) (d : FoldersData) (s : Sought) (path : List ℕ)
    (told : SoughtData) (taken : Option (List ℕ)) → sought_seen s ≡ told → s.path.now ≡ path
    → IsFirst held fails s.path.now (candidates d (sought_seen s)) taken → IsFirst held fails path (candidates d told) taken
by_sought held fails d s path told taken seen same is =
    subst (λ p. IsFirst held fails p (candidates d told) taken) same
    (subst (λ x. IsFirst held fails s.path.now (candidates d x) taken) seen is)

pub returns-in-Some-clause-found : goal.returns-in-Some-clause-found
returns-in-Some-clause-found g c = (
  refl,
  by_sought (g.F.FileSource.held c.args.files.now) (g.F.FileSource.fails_with c.args.files.now) (folders_seen c.args.folders.now)
      c.sought.result c.args.path.now (sought_by c.args.path.now (clues_seen c.args.clues)) (Some (path_taken c.in-Some.taken))
      c.sought.ensures.seen (rw c.sought.ensures.path refl) c.in-Some.ensures.first,
)

pub returns-in-None-clause-found : goal.returns-in-None-clause-found
returns-in-None-clause-found g c = (
  refl,
  by_sought (g.F.FileSource.held c.args.files.now) (g.F.FileSource.fails_with c.args.files.now) (folders_seen c.args.folders.now)
      c.sought.result c.args.path.now (sought_by c.args.path.now (clues_seen c.args.clues)) None
      c.sought.ensures.seen (rw c.sought.ensures.path refl) c.in-None.ensures.first,
)
