-- The file whose line table is read.
use Rattle.std.proofs.Common.{ℕ, List, Option, inl, inr}
use Rattle.std.specs.declared.io.Error.{Error}
use Rattle.dl_elf.specs.declared.fault.ElfFault.{ElfFault}
use Rattle.dl_elf.specs.declared.fault.ElfFault.TheVariants.{Read}
use Rattle.dl_open.specs.BuildIds.{RefusesBuildId}
use Rattle.dl_follow.specs.Candidates.{FoldersData}
use Rattle.dl_follow.specs.Clues.{CluesData, GivesClues}
use Rattle.dl_follow.specs.Followed.{FollowedData, FollowsClues, IsFollowed, IsOwn, lost, other, own}

-- by what the first file says
pub followed_by : (held : List ℕ → Option (List ℕ)) (fails : List ℕ → Error → Type 0) (path : List ℕ) (d : FoldersData)
    (f : List ℕ) (c : CluesData) (file : FollowedData) → GivesClues f c → FollowsClues held fails path d c file
    → IsFollowed held fails path d f file
followed_by held fails path d f c own gives follows = elim follows [ ]
followed_by held fails path d f c (other taken told) gives follows = (c, gives, follows)
followed_by held fails path d f c (lost told) gives follows = (c, gives, follows)

-- a fault of the headers, or a read that failed. fails: the errors of the open file; more: those of its path
pub own_by_fault : (fails more : Error → Type 0) → ((e : Error) → fails e → more e) → (f : List ℕ) (fault : ElfFault)
    → RefusesBuildId fails f fault → IsOwn more f
own_by_fault fails more each f (Read error) is = inr (inr (error, each error is))
own_by_fault fails more each f fault is = inr (inl (fault, is))
