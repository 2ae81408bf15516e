-- What the program does for the words of `addr` over an ELF file. f: the bytes of the file. bytes: what was read of the input,
-- which has `left` left. start, now: what the output held at first, and holds now. reads: the errors that reading the file
-- may give.
use Rattle.std.specs.Prelude.{◌≡◌, ◌≢◌, ◌⊎◌, ◌||◌, ℕ, Bool, true, false, is_some, List, [], Option, Some, None, Result, Ok, Err}
use Rattle.std.specs.Prelude.{MatchOption}
use Rattle.std.specs.Borrow.{Bor}
use Rattle.std.specs.Global.{Vec}
use Rattle.std.specs.Option.{option_copied}
use Rattle.std.specs.declared.io.Error.{Error}
use Rattle.dl_addr.specs.Code.{is_code}
use Rattle.dl_cmd.specs.Job.{AddrTexts, Text}
use Rattle.dl_dialogue.specs.declared.dialogue.Answered.{Answered}
use Rattle.dl_dialogue.specs.declared.fault.AnswerFault.{AnswerFault}
use Rattle.dl_dirs.specs.Compilation.{directory_by}
use Rattle.dl_file.specs.Code.{IsCode}
use Rattle.dl_file.specs.declared.code.Code.{Code}
use Rattle.dl_held.specs.Holding.{CannotHold}
use Rattle.dl_index.specs.IsIndex.{IsIndex}
use Rattle.dl_look.specs.declared.code_ranges.CodeRanges.{CodeRanges}
use Rattle.dl_addr.specs.declared.question.Question.{Question}
use Rattle.dl_making.specs.declared.making.Table.{Table}
use Rattle.dl_open.specs.declared.fault.FileFault.{FileFault}
use Rattle.dl_open.specs.declared.fault.FileFault.TheVariants.{NoMemory}
use Rattle.dl_open.specs.declared.stop.FileStop.{FileStop}
use Rattle.dl_open.specs.declared.stop.FileStop.TheVariants as at
use Rattle.dl_open.specs.Code.{AreLive}
use Rattle.dl_sections.specs.declared.around.Survey.{Survey}
use Rattle.dl_locating.specs.Answering.{AnswersAsked, AsksOf, stop_of_answer}
use Rattle.dl_locating.specs.Compiled.{AreFound, RefusesOpening, compiled_by, wants_directories}
use Rattle.dl_program.specs.Damages.{unheard}
use Rattle.dl_locating.specs.Locate.{Asks, asked_in_words, asking}
use Rattle.dl_locating.specs.Located.{located, unless_damaged}
use Rattle.dl_locating.specs.OverIndex.{location_in, making}
use Rattle.dl_program.specs.Stops.{over_file}
use Rattle.dl_program.specs.Tables.{OnFile}
use Rattle.dl_program.specs.Units.{file_units}
use Rattle.dl_program.specs.Work.{StopsBefore}
use Rattle.dl_locating.specs.declared.located.Located.{Located}
use Rattle.dl_program.specs.declared.stop.Stop.{Stop}
use Rattle.dl_program.specs.declared.stop.Stop.TheVariants.{File, NotUnderstood}

-- no address has an answer
abbrev pub Unanswered : (refuses : ℕ → Type 0) → AddrTexts → (bytes : List ℕ) (left start now : Option (List ℕ)) → Type 0
Unanswered refuses w bytes left start now =
    (answered : Result Answered AnswerFault) × AnswersAsked refuses w (λ a. None) (λ _. ⊥) (λ _. ⊥) bytes left start now answered

-- where there is code: a sequence counts that begins there, or each one where all are asked for
abbrev pub counts : AddrTexts → Option CodeRanges → ℕ → Bool
counts w code a = w.all || is_code code a

-- ---- addresses among the words, in one pass over the line table

abbrev pub LocatesGiven : (refuses : ℕ → Type 0) → (reads : Error → Type 0) → (path : Bor Text) → AddrTexts → (f : List ℕ) → Option CodeRanges
    → (found : ℕ → Option (List ℕ)) → (start now : Option (List ℕ)) → Result Located Stop → Type 0
LocatesGiven refuses reads path w f code found start now result =
    (q : Question) × (answer : Result Survey FileStop) × Asks w (asked_in_words w) (counts w code) (compiled_by w.comp_dir found) q
    × OnFile refuses (file_units w.units) reads path.now w.section (asking w q) f start now unheard answer
    × (result ≡ located (over_file answer) None)

-- ---- addresses on the input, from an index that is made first

-- what the index is made with
pub record IsToldOf (w : AddrTexts) (ranges : Option CodeRanges) (found : ℕ → Option (List ℕ)) (table : Table) : Type 0 where
  pub code : (a : ℕ) → is_code (option_copied table.code) a ≡ counts w ranges a
  pub directories : (n : ℕ) → directory_by table.directories n ≡ compiled_by w.comp_dir found n

-- memory was refused before the index was whole
abbrev pub is_refused : Result Survey FileStop → Bool
is_refused (Err (at.File path NoMemory)) = true
is_refused other = false

-- there is no index: memory was refused before it was whole, or for these bytes of it
abbrev pub IsUnmade : (refuses : ℕ → Type 0) (index : List ℕ) → Result Survey FileStop → Type 0
IsUnmade refuses index answer = (is_refused answer ≡ true) ⊎ CannotHold refuses index

-- the index of these bytes, or why there is none
abbrev pub IsMade : (refuses : ℕ → Type 0) (index : List ℕ) → Result Survey FileStop → Option (Vec ℕ) → Type 0
IsMade refuses index answer made =
    MatchOption made (IsUnmade refuses index answer) (λ list. (is_refused answer ≡ false) × (list.items ≡ index))

-- the index answers; where there is none, no address has an answer
pub record AnswersMade (refuses : ℕ → Type 0) (w : AddrTexts) (index : List ℕ) (bytes : List ℕ) (left start now : Option (List ℕ))
    (answered : Result Answered AnswerFault) : Type 0 where
  pub made : IsIndex index → AnswersAsked refuses w (location_in index) (λ _. ⊥) (AsksOf index) bytes left start now answered
  pub none : index ≡ [] → AnswersAsked refuses w (λ a. None) (λ _. ⊥) (λ _. ⊥) bytes left start now answered

-- what came of the reading of the table, and then of the answers, whose fault comes first
abbrev pub after_answers : Result Survey Stop → Answered → Result Located Stop
after_answers (Ok survey) a = unless_damaged survey.damaged (record { found = a.found; no_address = a.no_address })
after_answers (Err stop) a = Err stop

abbrev pub located_after : (path : Bor Text) → Result Survey FileStop → Result Answered AnswerFault → Result Located Stop
located_after path answer (Ok answered) = after_answers (over_file answer) answered
located_after path answer (Err fault) = Err (stop_of_answer path fault)

abbrev pub LocatesByIndex : (refuses : ℕ → Type 0) → (reads : Error → Type 0) → (path : Bor Text) → AddrTexts → (f : List ℕ) → Option CodeRanges
    → (found : ℕ → Option (List ℕ)) → (bytes : List ℕ) (left start now : Option (List ℕ)) → Result Located Stop → Type 0
LocatesByIndex refuses reads path w f code found bytes left start now result =
    (table : Table) × IsToldOf w code found table × (index : List ℕ) × (answer : Result Survey FileStop)
    × OnFile refuses (file_units w.units) reads path.now w.section (making w table) f (Some []) (Some index) unheard answer
    × ((IsUnmade refuses index answer × StopsBefore bytes start now result (File path NoMemory))
    ⊎ ((is_refused answer ≡ false) × (answered : Result Answered AnswerFault)
    × AnswersMade refuses w index bytes left start now answered × (result ≡ located_after path answer answered)))

-- ---- by the words

-- an ELF file is no index that can be of another file; it can't be told where it has code, or where its units were
-- compiled, and no address has an answer; or it answers
abbrev pub LocatesInElfFile : (refuses : ℕ → Type 0) → (reads : Error → Type 0) → (path : Bor Text) → AddrTexts → (f bytes : List ℕ)
    (left start now : Option (List ℕ)) → Result Located Stop → Type 0
LocatesInElfFile refuses reads path w f bytes left start now result =
    ((is_some w.made_of ≡ true) × StopsBefore bytes start now result NotUnderstood)
    ⊎ ((fault : FileFault) × (is_some w.made_of ≡ false) × RefusesOpening refuses (wants_directories w) reads f fault
    × (result ≡ Err (File path fault)) × Unanswered refuses w bytes left start now)
    ⊎ ((code : Code) × (ranges : Option CodeRanges) × (found : ℕ → Option (List ℕ)) × (is_some w.made_of ≡ false)
    × IsCode f (Ok code) × AreLive ranges code × AreFound (wants_directories w) f found
    × (((asked_in_words w ≢ []) × (bytes ≡ []) × LocatesGiven refuses reads path w f ranges found start now result)
    ⊎ ((asked_in_words w ≡ []) × LocatesByIndex refuses reads path w f ranges found bytes left start now result)))
