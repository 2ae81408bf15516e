-- What is done with the members of an archive. f: its bytes; path: its path; fails_archive: the errors that reading it may give.
-- held: what the file of a path holds, where that is known; fails: the errors that opening and reading it may give. bytes_of,
-- fails_of: what an open file of a member holds, and the errors that reading it may give. refuses: for how many items memory is
-- refused. writes: a write of the output may fail. start, now: what the output held at first, and holds now. old, new: what hears
-- of stops, and what it has become; hears, tells: what that says of damaged units and of stops.
use Rattle.std.specs.Prelude.{◌≡◌, ◌⊎◌, ◌<◌, ◌+◌, ◌-◌, ◌^◌, ⊤, ℕ, false, List, [], ◌∷◌, ◌++◌, length, codes, max, min}
use Rattle.std.specs.Prelude.{Option, Some, None, is_some, Result, Ok, Err, if◌then◌else◌}
use Rattle.std.specs.Borrow.{Bor}
use Rattle.std.specs.Io.KnownBytes.{Appends, Consumes}
use Rattle.std.specs.declared.io.Error.{Error}
use Rattle.dl_elf.specs.Source.{ForBytes}
use Rattle.dl_elf.specs.declared.file.Range.{Range}
use Rattle.dl_archive.specs.Archive.{MemberData, kind_of, members, name_of}
use Rattle.dl_archive.specs.declared.fault.ArchiveFault.TheVariants.{Damaged, Read}
use Rattle.dl_archive.specs.declared.kind.Kind.{Kind}
use Rattle.dl_cmd.specs.Job.{check, dump, Request, Text}
use Rattle.dl_open.specs.Files.{MayFail}
use Rattle.dl_open.specs.declared.fault.FileFault.TheVariants.{Open}
use Rattle.dl_path.specs.Shown.{shown}
use Rattle.dl_print.specs.Output.{TellsOut}
use Rattle.dl_print.specs.declared.fault.WriteFault.{WriteFault}
use Rattle.dl_sections.specs.declared.around.Damage.{Damage}
use Rattle.dl_sections.specs.declared.around.Survey.{Survey}
use Rattle.dl_program.specs.Blaming.{BlamesWriter}
use Rattle.dl_program.specs.Stops.{stop_status}
use Rattle.dl_program.specs.Work.{Works}
use Rattle.dl_program.specs.declared.stop.Stop.{Stop}
use Rattle.dl_program.specs.declared.stop.Stop.TheVariants.{File}
use Rattle.dl_member.specs.Faults.{walk_fault_status}
use Rattle.dl_member.specs.Files.{CannotOpen, member_bytes, member_fails}
use Rattle.dl_member.specs.NoTable.{HasNoTable}
use Rattle.dl_member.specs.Paths.{member_path, readable}
use Rattle.dl_member.specs.WithMember.{fails_with, held_with}
use Rattle.dl_member.specs.declared.counts.Counts.{Counts}
use Rattle.dl_member.specs.declared.fault.WalkFault.{WalkFault}
use Rattle.dl_member.specs.declared.fault.WalkFault.TheVariants as end
use Rattle.dl_member.specs.declared.step.Step.{Step}
use Rattle.dl_member.specs.declared.step.Step.TheVariants.{Done, PassedOver, Unwritten}

-- ---- one file

-- `dump` or `check` of the file at a path; nothing else is done with members
abbrev pub over : Request → (path : Text) → Option Request
over (dump w) path = Some (dump (record w { file = Some path; big = false; line_str = None; strings = None }))
over (check file big units keep_going) path = Some (check (Some path) false units keep_going)
over other path = None

-- the line before what is printed of a member
abbrev pub member_line : (path : Text) → List ℕ
member_line path = shown path ++ codes ":\n"

-- the status of what was answered: 1 too where a unit is damaged after which the command went on
abbrev pub answer_status : Result Survey Stop → ℕ
answer_status (Ok survey) = if is_some survey.damaged then 1 else 0
answer_status (Err stop) = stop_status stop

-- a stop is told
abbrev pub IsTold : {T : Type 0} → (tells : T → T → Stop → Type 0) (old new : T) → Result Survey Stop → Type 0
IsTold tells old new (Ok survey) = new ≡ old
IsTold tells old new (Err stop) = tells old new stop

-- a file isn't known to have no line table
abbrev pub MayHaveTable : (known : Option (List ℕ)) (fails : Error → Type 0) → Type 0
MayHaveTable known fails = ForBytes known (λ b. MayFail fails ⊎ ¬ HasNoTable b)

-- not all of a line is written; the fault tells how much is, and the writer failed, or so many bytes are out that 128 bits can't
-- count more
abbrev pub LosesLine : (writes : Type 0) (start now : Option (List ℕ)) (line : List ℕ) → WriteFault → Type 0
LosesLine writes start now line fault = TellsOut start now line fault × (fault.out + 2 ^ 64 < 2 ^ 128 → writes)

-- the path that is shown of a member
abbrev pub shown_path : (path name : Text) → Text
shown_path path name = member_path path (readable name)

-- why no file of it is opened: that of a thin archive can't be, or the path is too long that would be shown, so that it is told under
-- that of the archive. place: where its bytes stand in the archive
abbrev pub IsUnopened : (fails : Text → Error → Type 0) (path name : Text) → (place : Option Range) → (own : Text) → Error → Type 0
IsUnopened fails path name place own error =
    ((own ≡ shown_path path name) × (place ≡ None) × CannotOpen fails path name error)
    ⊎ ((own ≡ path) × (8194 < length (shown_path path name)))

-- the line before a member was written, if there is one
abbrev pub IsWritten : Step → Type 0
IsWritten (Unwritten fault) = ⊥
IsWritten other = ⊤

module _ {T : Type 0} (refuses : ℕ → Type 0) (held : Text → Option (List ℕ)) (fails : Text → Error → Type 0) (writes : Type 0)
    (request : Request) (hears : T → T → List Damage → Type 0) (tells : T → T → Stop → Type 0) where
  -- a line with its path is written, and the program does what is asked, of the file of this path. known: its bytes; fails_own: the
  -- errors that reading it may give
  abbrev pub IsDone : (path : Text) (known : Option (List ℕ)) (fails_own : Error → Type 0) (start now : Option (List ℕ)) (old new : T)
      (status : ℕ) → Type 0
  IsDone path known fails_own start now old new status =
      (lined : Option (List ℕ)) × (told : T) × (bytes : List ℕ) × (left : Option (List ℕ)) × (result : Result Survey Stop)
      × Appends start lined (member_line path) × Consumes (Some []) left bytes
      × Works refuses (held_with path known held) (fails_with path fails_own fails) (over request path) bytes left lined now (hears old told) result
      × BlamesWriter writes result × IsTold tells told new result × (status ≡ answer_status result)

  -- what comes of a file: it is passed over, since it has no line table, or that is done, or the line can't be written
  abbrev pub IsStep : (path : Text) (known : Option (List ℕ)) (fails_own : Error → Type 0) (start now : Option (List ℕ)) (old new : T)
      → Step → Type 0
  IsStep path known fails_own start now old new PassedOver = ForBytes known HasNoTable × (now ≡ start) × (new ≡ old)
  IsStep path known fails_own start now old new (Done status) =
      MayHaveTable known fails_own × IsDone path known fails_own start now old new status
  IsStep path known fails_own start now old new (Unwritten fault) =
      MayHaveTable known fails_own × LosesLine writes start now (member_line path) fault × (new ≡ old)

  -- ---- one member. name: its name

  -- it is told that it can't be opened
  abbrev pub TellsUnopened : (path name : Text) → Option Range → (start now : Option (List ℕ)) (old new : T) → Step → Type 0
  TellsUnopened path name place start now old new step =
      (own : Bor Text) × (error : Error) × IsUnopened fails path name place own.now error × tells old new (File own (Open error))
      × (now ≡ start) × (step ≡ Done 3)

  module _ {U : Type 0} (fails_archive : Error → Type 0) (bytes_of : U → Option (List ℕ)) (fails_of : U → Error → Type 0)
      (f : List ℕ) (path : Text) where
    -- what comes of it: that of its file, once it is open
    abbrev pub AtNamed : (name : Text) → Option Range → (start now : Option (List ℕ)) (old new : T) → Step → Type 0
    AtNamed name place start now old new step =
        TellsUnopened path name place start now old new step
        ⊎ ((file : U) × (bytes_of file ≡ member_bytes held f path name place)
        × ((error : Error) → fails_of file error → member_fails fails_archive fails path name place error)
        × IsStep (shown_path path name) (member_bytes held f path name place) (fails_of file) start now old new step)

    abbrev pub AtMember : MemberData → (start now : Option (List ℕ)) (old new : T) → Step → Type 0
    AtMember m = AtNamed (name_of f m) m.place

    -- ---- all members

    -- these steps come of these members, one after the other
    abbrev pub Steps : List MemberData → List Step → (start now : Option (List ℕ)) (old new : T) → Type 0
    Steps [] steps start now old new = (steps ≡ []) × (now ≡ start) × (new ≡ old)
    Steps (m ∷ later) steps start now old new =
        (step : Step) × (others : List Step) × (steps ≡ step ∷ others) × (between : Option (List ℕ)) × (told : T)
        × AtMember m start between old told step × IsWritten step × Steps later others between now told new

    -- how the walk over these members, behind which the archive is damaged or ends, comes to its end: it has gone through all of them,
    -- or the first of them, and then a read failed, or a line can't be written
    abbrev pub Ends : (all : List MemberData) (damage : Option ℕ) → List Step → (start now : Option (List ℕ)) (old new : T)
        → Result ⊤ WalkFault → Type 0
    Ends all damage steps start now old new (Ok x) = (damage ≡ None) × Steps all steps start now old new
    Ends all damage steps start now old new (Err end.NotArchive) = ⊥
    Ends all damage steps start now old new (Err (end.Archive (Damaged at))) = (damage ≡ Some at) × Steps all steps start now old new
    Ends all damage steps start now old new (Err (end.Archive (Read error))) =
        (first : List MemberData) × (others : List MemberData) × (all ≡ first ++ others) × Steps first steps start now old new
        × fails_archive error
    Ends all damage steps start now old new (Err (end.Unwritten fault)) =
        (first : List MemberData) × (m : MemberData) × (others : List MemberData) × (all ≡ first ++ m ∷ others)
        × (between : Option (List ℕ)) × (told : T) × Steps first steps start between old told
        × AtMember m between now told new (Unwritten fault)

    -- the walk doesn't begin: the file is no archive, or its first bytes can't be read
    abbrev pub IsNoArchive : Result ⊤ WalkFault → Type 0
    IsNoArchive (Err end.NotArchive) = kind_of f ≡ None
    IsNoArchive (Err (end.Archive (Read error))) = fails_archive error
    IsNoArchive other = ⊥

    -- what comes of an archive: nothing, or the walk is over its members
    abbrev pub Walks : List Step → (start now : Option (List ℕ)) (old new : T) → Result ⊤ WalkFault → Type 0
    Walks steps start now old new result =
        (IsNoArchive result × (steps ≡ []) × (now ≡ start) × (new ≡ old))
        ⊎ ((kind : Kind) × (kind_of f ≡ Some kind) × Ends (members kind f).0 (members kind f).1 steps start now old new result)

-- ---- their counts

-- the worst status; 0 where nothing was done
abbrev pub worst : List Step → ℕ
worst [] = 0
worst (Done status ∷ steps) = max status (worst steps)
worst (other ∷ steps) = worst steps

-- how many members have no line table
abbrev pub passed_over : List Step → ℕ
passed_over [] = 0
passed_over (PassedOver ∷ steps) = passed_over steps + 1
passed_over (other ∷ steps) = passed_over steps

-- 2^64 - 1 stands for more
abbrev pub AreCounted : Counts → List Step → Type 0
AreCounted counts steps = (counts.worst ≡ worst steps) × (counts.passed_over ≡ min (passed_over steps) (2 ^ 64 - 1))

-- the worst status of the members and of how a walk ended
abbrev pub walk_status : Counts → Result ⊤ WalkFault → ℕ
walk_status counts (Ok x) = counts.worst
walk_status counts (Err fault) = max counts.worst (walk_fault_status fault)
