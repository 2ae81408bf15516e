-- Which reads are blamed, and which writes.
use Rattle.std.proofs.Common.{◌≡◌, ℕ, List, inl, inr, subst, sym, None, Some, Option, Result, Ok, Err}
use Rattle.std.specs.declared.io.Error.{Error}
use Rattle.dl_addr.specs.declared.question.FoundAround.{FoundAround}
use Rattle.dl_addr.specs.declared.question.WhichFound.{WhichFound}
use Rattle.dl_addr.specs.declared.question.WhichFound.TheVariants as found
use Rattle.dl_sources.specs.declared.question.SourcesAround.{SourcesAround}
use Rattle.dl_sources.specs.declared.question.Sums.{Sums}
use Rattle.dl_sources.specs.declared.question.Sums.TheVariants as sums
use Rattle.dl_dump.specs.declared.unit_dumping.UnitAt.{UnitAt}
use Rattle.dl_dump.specs.declared.unit_dumping.UnitAt.TheVariants as unit
use Rattle.dl_elf.specs.declared.name.SectionName.{SectionName}
use Rattle.dl_file.specs.declared.read_fault.ReadFault.{ReadFault}
use Rattle.dl_print.specs.declared.summary.Summary.{Summary}
use Rattle.dl_sections.specs.declared.around.DamagedUnits.{DamagedUnits}
use Rattle.dl_sections.specs.declared.around.Survey.{Survey}
use Rattle.dl_sections.specs.declared.fault.RunFault.{RunFault}
use Rattle.dl_sections.specs.declared.fault.RunFault.TheVariants as fault
use Rattle.dl_sections.specs.Blaming as run
use Rattle.dl_sections.specs.Blaming.{BlamesWriter}
use Rattle.dl_open.specs.Blaming.{IsOfFile}
use Rattle.dl_open.specs.Files.{FilesStop, SectionFileStops}
use Rattle.dl_open.specs.Stops.{StopsAs}
use Rattle.dl_open.specs.declared.stop.FileStop.{FileStop}
use Rattle.dl_open.specs.declared.stop.FileStop.TheVariants as at
use Rattle.dl_cmd.specs.Job.{Request, Text}
use Rattle.dl_sections.proofs.BlameLemmas.{same_answer}
use Rattle.dl_program.specs.declared.stop.Stop.{Stop}
use Rattle.dl_program.specs.declared.stop.Stop.TheVariants.{NotUnderstood, Run}
use Rattle.dl_program.specs.Blaming as stops
use Rattle.dl_program.specs.Blaming.{BlamesOver, IsBlamedOver, IsNoRead}
use Rattle.dl_program.specs.Stops.{over_file}
use Rattle.dl_program.specs.Work.{BlamesInput, stopped}
use Rattle.dl_program.specs.Answers.{all_whole, answered, answered_around, summed, summed_around, unit_shown, unless_damaged}
use Rattle.dl_program.specs.Asked.{SectionWords, file_of, section_of}

-- a failed read that is told is the command's
pub whole_read : (answer : Result Summary RunFault) → all_whole answer ≡ Err fault.Read → answer ≡ Err fault.Read
whole_read (Ok summary) e = absurd cc
whole_read (Err f) e = same_answer f e

pub found_read : (answer : Result WhichFound RunFault) → answered answer ≡ Err fault.Read → answer ≡ Err fault.Read
found_read (Ok found.All) e = absurd cc
found_read (Ok found.NotAll) e = absurd cc
found_read (Err f) e = same_answer f e

pub sums_read : (answer : Result Sums RunFault) → summed answer ≡ Err fault.Read → answer ≡ Err fault.Read
sums_read (Ok sums.Agree) e = absurd cc
sums_read (Ok sums.Differ) e = absurd cc
sums_read (Err f) e = same_answer f e

pub unit_read : (answer : Result UnitAt RunFault) → unit_shown answer ≡ Err fault.Read → answer ≡ Err fault.Read
unit_read (Ok unit.Whole) e = absurd cc
unit_read (Ok unit.NoUnit) e = absurd cc
unit_read (Err f) e = same_answer f e

pub sums_around_read : (answer : Result SourcesAround RunFault) → summed_around answer ≡ Err fault.Read
    → answer ≡ Err fault.Read
sums_around_read (Err f) e = same_answer f e
sums_around_read (Ok around) e = absurd (by around.sums around.damaged e)
  where
    by : (all : Sums) (damaged : Option DamagedUnits)
        → ¬ (unless_damaged damaged (all_whole (summed (Ok all))) ≡ Err fault.Read)
    by all (Some units) e = absurd cc
    by sums.Agree None e = absurd cc
    by sums.Differ None e = absurd cc

pub around_read : (answer : Result FoundAround RunFault) → answered_around answer ≡ Err fault.Read
    → answer ≡ Err fault.Read
around_read (Err f) e = same_answer f e
around_read (Ok around) e = absurd (by around.found around.damaged e)
  where
    by : (all : WhichFound) (damaged : Option DamagedUnits)
        → ¬ (unless_damaged damaged (all_whole (answered (Ok all))) ≡ Err fault.Read)
    by all (Some units) e = absurd cc
    by found.All None e = absurd cc
    by found.NotAll None e = absurd cc

-- a failed write that is told is the command's
pub whole_writer : (fails : Type 0) (answer : Result Summary RunFault) → BlamesWriter fails answer
    → BlamesWriter fails (all_whole answer)
whole_writer fails (Ok summary) blames = tt
whole_writer fails (Err f) blames = blames

pub found_writer : (fails : Type 0) (answer : Result WhichFound RunFault) → BlamesWriter fails answer
    → BlamesWriter fails (answered answer)
found_writer fails (Ok found.All) blames = tt
found_writer fails (Ok found.NotAll) blames = tt
found_writer fails (Err f) blames = blames

pub around_writer : (fails : Type 0) (answer : Result FoundAround RunFault) → BlamesWriter fails answer
    → BlamesWriter fails (answered_around answer)
around_writer fails (Err f) blames = blames
around_writer fails (Ok around) blames = by around.found around.damaged
  where
    by : (all : WhichFound) (damaged : Option DamagedUnits)
        → BlamesWriter fails (unless_damaged damaged (all_whole (answered (Ok all))))
    by all (Some units) = tt
    by found.All None = tt
    by found.NotAll None = tt

pub sums_writer : (fails : Type 0) (answer : Result Sums RunFault) → BlamesWriter fails answer
    → BlamesWriter fails (summed answer)
sums_writer fails (Ok sums.Agree) blames = tt
sums_writer fails (Ok sums.Differ) blames = tt
sums_writer fails (Err f) blames = blames

pub unit_writer : (fails : Type 0) (answer : Result UnitAt RunFault) → BlamesWriter fails answer
    → BlamesWriter fails (unit_shown answer)
unit_writer fails (Ok unit.Whole) blames = tt
unit_writer fails (Ok unit.NoUnit) blames = tt
unit_writer fails (Err f) blames = blames

pub sums_around_writer : (fails : Type 0) (answer : Result SourcesAround RunFault) → BlamesWriter fails answer
    → BlamesWriter fails (summed_around answer)
sums_around_writer fails (Err f) blames = blames
sums_around_writer fails (Ok around) blames = by around.sums around.damaged
  where
    by : (all : Sums) (damaged : Option DamagedUnits)
        → BlamesWriter fails (unless_damaged damaged (all_whole (summed (Ok all))))
    by all (Some units) = tt
    by sums.Agree None = tt
    by sums.Differ None = tt

pub stopped_writer : {A : Type 0} (fails : Type 0) (answer : Result A RunFault) → BlamesWriter fails answer
    → stops.BlamesWriter fails (stopped answer)
stopped_writer fails (Ok answered) blames = tt
stopped_writer fails (Err f) blames = blames

-- a string section that can't be had is no failed write
file_writer : (fails : Type 0) (refuses : ℕ → Type 0) (held : Text → Option (List ℕ)) (others : Text → Error → Type 0)
    (path : Option Text) (f : RunFault) → SectionFileStops refuses held others path f → stops.IsBlamed fails (Run f)
file_writer fails refuses held others None f stops = absurd stops
file_writer fails refuses held others (Some path) (fault.Write out) stops = absurd stops
file_writer fails refuses held others (Some path) other stops = tt

pub files_writer : (fails : Type 0) (refuses : ℕ → Type 0) (held : Text → Option (List ℕ)) (others : Text → Error → Type 0)
    (line_str str : Option Text) (f : RunFault) → FilesStop refuses held others line_str str f → stops.IsBlamed fails (Run f)
files_writer fails refuses held others line_str str f (inl stops) = file_writer fails refuses held others line_str f stops
files_writer fails refuses held others line_str str f (inr (section, is, stops)) =
    file_writer fails refuses held others str f stops

pub same_stop : {A : Type 0} (f : RunFault) → ◌≡◌ {A = Result A Stop} (Err (Run f)) (Err (Run fault.Read)) → f ≡ fault.Read
same_stop f e = cc

pub stopped_read : {A : Type 0} (answer : Result A RunFault) → stopped answer ≡ Err (Run fault.Read) → answer ≡ Err fault.Read
stopped_read (Ok answered) e = absurd cc
stopped_read (Err f) e = let is = same_stop f e in cc

-- ---- the work for a request

-- the request's section is the one that is read
pub blamed_input : (refuses : ℕ → Type 0) (held : Text → Option (List ℕ)) (fails : Text → Error → Type 0) (request : Request)
    (asked : Option Request) (section : SectionWords) (result : Result Survey Stop) → asked ≡ Some request
    → section ≡ section_of request → BlamesInput refuses held fails asked result
    → (result ≡ Err (Run fault.Read)) × ¬ FilesStop refuses held fails section.line_str section.strings fault.Read
blamed_input refuses held fails request asked section result is seen blamed =
    let told = subst (λ (r : Option Request). BlamesInput refuses held fails r result) is blamed in (
      told.0,
      subst (λ (s : SectionWords). ¬ FilesStop refuses held fails s.line_str s.strings fault.Read) (sym seen) told.2,
    )

-- a request that names a file reads nothing of the input
pub file_named : {A : Type 0} (refuses : ℕ → Type 0) (held : Text → Option (List ℕ)) (fails : Text → Error → Type 0)
    (request : Request) (asked : Option Request) (path : Text) (result : Result A Stop) → asked ≡ Some request
    → file_of request ≡ Some path → ¬ BlamesInput refuses held fails asked result
file_named refuses held fails request asked path result is named blamed =
    let none = (subst (λ (r : Option Request). BlamesInput refuses held fails r result) is blamed).1 in absurd cc

pub not_understood : (refuses : ℕ → Type 0) (held : Text → Option (List ℕ)) (fails : Text → Error → Type 0)
    (asked : Option Request) → ¬ BlamesInput {A = Survey} refuses held fails asked (Err NotUnderstood)
not_understood refuses held fails None blamed = blamed
not_understood refuses held fails (Some request) blamed = let is = blamed.0 in absurd cc

-- ---- over a file

-- what a run over a section came to
pub at_blamed : (fails : Type 0) (path : Text) (stream : Option SectionName) (read : Option ReadFault) (f : RunFault)
    (stop : FileStop) → StopsAs path stream read f stop → run.IsBlamed fails f → IsBlamedOver fails stop
at_blamed fails path stream read f (at.File p g) told blames = tt
at_blamed fails path stream read f (at.NoSection p n) told blames = tt
at_blamed fails path stream read f (at.Run g) told blames = by f told blames
  where
    by : (f : RunFault) → StopsAs path stream read f (at.Run g) → run.IsBlamed fails f → IsBlamedOver fails (at.Run g)
    by fault.Read told blames = absurd told.2
    by fault.NoMemory told blames = absurd told
    by other told blames = subst (IsBlamedOver fails) (sym told) blames

-- what stops the work before it
pub of_file_blamed : (fails : Type 0) (stop : FileStop) → IsOfFile stop → IsBlamedOver fails stop
of_file_blamed fails (at.Run fault.SectionTooLong) of = tt
of_file_blamed fails (at.Run other) of = absurd of
of_file_blamed fails (at.File p g) of = tt
of_file_blamed fails (at.NoSection p n) of = tt

-- as the program answers
run_writer : (fails : Type 0) (f : RunFault) → IsBlamedOver fails (at.Run f) → stops.IsBlamed fails (Run f)
run_writer fails fault.Read blames = absurd blames
run_writer fails other blames = blames

pub over_writer : {A : Type 0} (fails : Type 0) (answer : Result A FileStop) → BlamesOver fails answer
    → stops.BlamesWriter fails (over_file answer)
over_writer fails (Ok answered) blames = tt
over_writer fails (Err (at.Run f)) blames = run_writer fails f blames
over_writer fails (Err (at.File p g)) blames = tt
over_writer fails (Err (at.NoSection p n)) blames = tt

pub run_reads : (fails : Type 0) (f : RunFault) → IsBlamedOver fails (at.Run f) → IsNoRead (Run f)
run_reads fails fault.Read blames = blames
run_reads fails other blames = tt

pub over_reads : {A : Type 0} (fails : Type 0) (answer : Result A FileStop) → BlamesOver fails answer
    → stops.ReadsNothing (over_file answer)
over_reads fails (Ok answered) blames = tt
over_reads fails (Err (at.Run f)) blames = run_reads fails f blames
over_reads fails (Err (at.File p g)) blames = tt
over_reads fails (Err (at.NoSection p n)) blames = tt
