-- Which reads are blamed, and which writes, where addresses are looked up.
use Rattle.std.proofs.Common.{◌≡◌, ℕ, Bool, true, false, ap, refl, subst, None, Some, Option, Result, Ok, Err}
use Rattle.std.specs.Borrow.{Bor}
use Rattle.std.specs.Prelude.{IfErr, if◌then◌else◌}
use Rattle.dl_addr.specs.declared.question.WhichFound.{WhichFound}
use Rattle.dl_addr.specs.declared.question.WhichFound.TheVariants as found
use Rattle.dl_asked.specs.declared.asked_lines.OtherLine.{OtherLine}
use Rattle.dl_sections.specs.declared.around.DamagedUnits.{DamagedUnits}
use Rattle.dl_sections.specs.declared.around.Survey.{Survey}
use Rattle.dl_sections.specs.declared.fault.RunFault.{RunFault}
use Rattle.dl_sections.specs.declared.fault.RunFault.TheVariants as fault
use Rattle.dl_dialogue.specs.Faults as answers
use Rattle.dl_dialogue.specs.declared.dialogue.Answered.{Answered}
use Rattle.dl_dialogue.specs.declared.fault.AnswerFault.{AnswerFault}
use Rattle.dl_dialogue.specs.declared.fault.AnswerFault.TheVariants as kind
use Rattle.dl_dialogue.specs.declared.fault.TellFault.TheVariants as tell
use Rattle.dl_open.specs.declared.stop.FileStop.{FileStop}
use Rattle.dl_open.specs.declared.stop.FileStop.TheVariants as at
use Rattle.dl_cmd.specs.Job.{AddrTexts, Text}
use Rattle.dl_locating.specs.declared.located.Located.{Located}
use Rattle.dl_program.specs.declared.stop.Stop.{Stop}
use Rattle.dl_program.specs.declared.stop.Stop.TheVariants.{Run}
use Rattle.dl_locating.specs.Answering.{answered_given, located_by, stop_of_answer}
use Rattle.dl_program.specs.Blaming as stops
use Rattle.dl_program.specs.Blaming.{BlamesOver, IsBlamedOver, IsNoRead}
use Rattle.dl_program.proofs.BlameLemmas.{run_reads}
use Rattle.dl_locating.specs.Blaming.{IsNoRun}
use Rattle.dl_locating.specs.Locate.{WordsStop}
use Rattle.dl_locating.specs.Located.{is_not_found, located, unless_damaged as located_unless}
use Rattle.dl_locating.specs.OverElfFile.{located_after}
use Rattle.dl_program.specs.Answers.{answered}

-- an answer that read nothing of the input is no failed read of it
pub no_read : {A : Type 0} (result : Result A Stop) → stops.ReadsNothing result → ¬ (result ≡ Err (Run fault.Read))
no_read (Ok answer) reads e = absurd cc
no_read (Err stop) reads e = let is : stop ≡ Run fault.Read = cc in subst IsNoRead is reads

-- nor is the stop of a run that there wasn't
pub no_run_reads : (stop : Stop) → IsNoRun stop → stops.ReadsNothing {A = Located} (Err stop)
no_run_reads (Run f) none = absurd none
no_run_reads other none = tt

pub no_run_writer : (fails : Type 0) (stop : Stop) → IsNoRun stop → stops.IsBlamed fails stop
no_run_writer fails (Run f) none = absurd none
no_run_writer fails other none = tt

-- words that aren't understood, or memory that is refused for them
pub words_reads : (refuses : ℕ → Type 0) (w : AddrTexts) (stop : Stop) → WordsStop refuses w stop
    → stops.ReadsNothing {A = Located} (Err stop)
words_reads refuses w (Run fault.Read) why = absurd why
words_reads refuses w (Run f) why = tt
words_reads refuses w other why = tt

pub words_writer : (fails : Type 0) (refuses : ℕ → Type 0) (w : AddrTexts) (stop : Stop) → WordsStop refuses w stop
    → stops.IsBlamed fails stop
words_writer fails refuses w (Run fault.NoMemory) why = tt
words_writer fails refuses w (Run f) why = absurd why
words_writer fails refuses w other why = tt

-- what came of addresses that were looked up
damaged_writer : (fails : Type 0) (damaged : Option DamagedUnits) (all : Located)
    → stops.BlamesWriter fails (located_unless damaged all)
damaged_writer fails (Some units) all = tt
damaged_writer fails None all = tt

damaged_reads : (damaged : Option DamagedUnits) (all : Located) → stops.ReadsNothing (located_unless damaged all)
damaged_reads (Some units) all = tt
damaged_reads None all = tt

unless_found : (P : Stop → Type 0) (none : Bool) (stop : Stop) (line : Option OtherLine) → P stop
    → IfErr {T = Located} (if none then Ok (record { found = found.NotAll; no_address = line }) else Err stop) P
unless_found P true stop line holds = tt
unless_found P false stop line holds = holds

pub located_writer : (fails : Type 0) (answer : Result Survey Stop) (line : Option OtherLine)
    → stops.BlamesWriter fails answer → stops.BlamesWriter fails (located answer line)
located_writer fails (Ok survey) line blames = damaged_writer fails survey.damaged _
located_writer fails (Err stop) line blames =
    unless_found (stops.IsBlamed fails) (is_not_found stop) stop line blames

pub located_reads : (answer : Result Survey Stop) (line : Option OtherLine) → stops.ReadsNothing answer
    → stops.ReadsNothing (located answer line)
located_reads (Ok survey) line reads = damaged_reads survey.damaged _
located_reads (Err stop) line reads = unless_found IsNoRead (is_not_found stop) stop line reads

-- a failed read that is told is the command's
read_told : (stop : Stop) → stop ≡ Run fault.Read → ◌≡◌ {A = Result Survey Stop} (Err stop) (Err (Run fault.Read))
read_told stop is = ap Err is

pub located_read : (answer : Result Survey Stop) (line : Option OtherLine)
    → located answer line ≡ Err (Run fault.Read) → answer ≡ Err (Run fault.Read)
located_read (Ok survey) line e = absurd (no_read _ (damaged_reads survey.damaged _) e)
located_read (Err stop) line e = by (is_not_found stop) e
  where
    by : (none : Bool)
        → ◌≡◌ {A = Result Located Stop} (if none then Ok (record { found = found.NotAll; no_address = line }) else Err stop) (Err (Run fault.Read))
        → ◌≡◌ {A = Result Survey Stop} (Err stop) (Err (Run fault.Read))
    by true e = absurd cc
    by false e = let is : stop ≡ Run fault.Read = cc in read_told stop is

-- ---- answers to addresses on the input

pub given_writer : (fails : Type 0) (found : Result WhichFound AnswerFault) → answers.BlamesWriter fails found
    → answers.BlamesWriter fails (answered_given found)
given_writer fails (Ok found) blames = tt
given_writer fails (Err f) blames = blames

pub given_no_read : (found : Result WhichFound AnswerFault) → answers.ReadsNothing found
    → ¬ (answered_given found ≡ Err kind.Input)
given_no_read (Ok found) reads e = absurd cc
given_no_read (Err f) reads e = let is : f ≡ kind.Input = cc in subst answers.IsNoRead is reads

stop_writer : (fails : Type 0) (path : Bor Text) (f : AnswerFault) → answers.IsBlamed fails f
    → stops.IsBlamed fails (stop_of_answer path f)
stop_writer fails path kind.Input blames = tt
stop_writer fails path (kind.Tell (tell.Read error)) blames = tt
stop_writer fails path (kind.Tell tell.NoMemory) blames = tt
stop_writer fails path (kind.Write lost) blames = blames

stop_read : (path : Bor Text) (f : AnswerFault) → stop_of_answer path f ≡ Run fault.Read
    → ◌≡◌ {A = Result Answered AnswerFault} (Err f) (Err kind.Input)
stop_read path kind.Input e = refl
stop_read path (kind.Tell (tell.Read error)) e = absurd cc
stop_read path (kind.Tell tell.NoMemory) e = absurd cc
stop_read path (kind.Write lost) e = absurd cc

same_located : (stop : Stop) → ◌≡◌ {A = Result Located Stop} (Err stop) (Err (Run fault.Read)) → stop ≡ Run fault.Read
same_located stop e = cc

-- of an index in a file
pub by_writer : (fails : Type 0) (path : Bor Text) (answered : Result Answered AnswerFault)
    → answers.BlamesWriter fails answered → stops.BlamesWriter fails (located_by path answered)
by_writer fails path (Ok answered) blames = tt
by_writer fails path (Err f) blames = stop_writer fails path f blames

pub by_read : (path : Bor Text) (answered : Result Answered AnswerFault) → located_by path answered ≡ Err (Run fault.Read)
    → answered ≡ Err kind.Input
by_read path (Ok answered) e = absurd cc
by_read path (Err f) e = stop_read path f (same_located _ e)

-- of an index that is made first, by writes that don't fail
made_writer : (fails : Type 0) (f : RunFault) → IsBlamedOver ⊥ (at.Run f)
    → stops.IsBlamed fails (Run f)
made_writer fails (fault.Write out) blames = λ few. absurd (blames few)
made_writer fails fault.Read blames = absurd blames
made_writer fails f blames = tt

pub after_writer : (fails : Type 0) (path : Bor Text) (answer : Result Survey FileStop)
    (answered : Result Answered AnswerFault) → BlamesOver ⊥ answer
    → answers.BlamesWriter fails answered → stops.BlamesWriter fails (located_after path answer answered)
after_writer fails path answer (Err f) over blames = stop_writer fails path f blames
after_writer fails path (Ok survey) (Ok answered) over blames = damaged_writer fails survey.damaged _
after_writer fails path (Err (at.Run f)) (Ok answered) over blames = made_writer fails f over
after_writer fails path (Err (at.File p g)) (Ok answered) over blames = tt
after_writer fails path (Err (at.NoSection p n)) (Ok answered) over blames = tt

after_reads : (other : Type 0) (path : Bor Text) (answer : Result Survey FileStop) (answered : Answered) → BlamesOver other answer
    → stops.ReadsNothing (located_after path answer (Ok answered))
after_reads other path (Ok survey) answered over = damaged_reads survey.damaged _
after_reads other path (Err (at.Run f)) answered over = run_reads other f over
after_reads other path (Err (at.File p g)) answered over = tt
after_reads other path (Err (at.NoSection p n)) answered over = tt

pub after_read : (other : Type 0) (path : Bor Text) (answer : Result Survey FileStop)
    (answered : Result Answered AnswerFault) → BlamesOver other answer
    → located_after path answer answered ≡ Err (Run fault.Read) → answered ≡ Err kind.Input
after_read other path answer (Ok answered) over e = absurd (no_read _ (after_reads other path answer answered over) e)
after_read other path answer (Err f) over e = stop_read path f (same_located _ e)
