-- What is said of an open file, whose reads may give some errors, is said of a file whose reads may give those and others.
use Rattle.std.proofs.Common.{rules, inl, inr, ℕ, Bool, List, [], ◌∷◌, Option, Some, Result, Ok, Err, refl}
use Rattle.std.specs.declared.io.Error.{Error}
use Rattle.dl_cmd.specs.Job.{AddrTexts, Text}
use Rattle.std.specs.Borrow.{Bor}
use Rattle.dl_dialogue.specs.Answers.{Manner, StopsBy, AnswersAll}
use Rattle.dl_dialogue.specs.Dialogues.{AnswersLines}
use Rattle.dl_dialogue.specs.declared.dialogue.Answered.{Answered}
use Rattle.dl_dialogue.specs.declared.fault.AnswerFault.{AnswerFault}
use Rattle.dl_dialogue.specs.declared.fault.AnswerFault.TheVariants.{Input, Tell, Write}
use Rattle.dl_dialogue.specs.declared.fault.TellFault.TheVariants.{NoMemory as NoRoom, Read as NotRead}
use Rattle.dl_addr.specs.Location.{Location}
use Rattle.dl_addr.specs.declared.question.WhichFound.{WhichFound}
use Rattle.dl_asked.specs.AskedLines.{asked_in}
use Rattle.dl_index_file.specs.Reading.{ReadFails}
use Rattle.dl_index_file.specs.declared.fault.OpenFault.{OpenFault}
use Rattle.dl_index_file.specs.declared.fault.OpenFault.TheVariants as index
use Rattle.dl_look.specs.declared.asked.Asked.{Asked}
use Rattle.dl_open.specs.declared.fault.FileFault.{FileFault}
use Rattle.dl_dialogue.specs.Faults.{TellFails}
use Rattle.dl_locating.specs.Answering.{AnswersAsked, AnswersGiven, AsksOf}
use Rattle.dl_locating.specs.Locate.{asked_in_words}
use Rattle.dl_locating.specs.OverElfFile.{LocatesInElfFile}
use Rattle.dl_locating.specs.OverIndex.{IsNotOpened, LocatesInIndex, location_in}
use Rattle.dl_locating.specs.Compiled.{RefusesOpening}
use Rattle.dl_program.specs.Damages.{unheard}
use Rattle.dl_locating.specs.declared.located.Located.{Located}
use Rattle.dl_program.specs.declared.stop.Stop.{Stop}
use Rattle.dl_program.proofs.TableLemmas.{on_file_as}

-- ---- answers

module _ (refuses : ℕ → Type 0) (fails wider : Error → Type 0) (more : (e : Error) → fails e → wider e)
    (asks others : ℕ → Type 0) (fewer : (n : ℕ) → asks n → others n) where
  stops_wider : (m : Manner) (start now : Option (List ℕ)) (asked : List Asked) (fault : AnswerFault)
      → StopsBy m (TellFails fails asks refuses) start now asked fault → StopsBy m (TellFails wider others refuses) start now asked fault
  stops_wider m start now asked (Write lost) stops = stops
  stops_wider m start now asked Input stops = stops
  stops_wider m start now asked (Tell (NotRead error)) (answered, rest, is, (reads, out)) =
      (answered, rest, is, (more error reads, out))
  stops_wider m start now asked (Tell NoRoom) (answered, rest, is, ((n, few, refused), out)) =
      (answered, rest, is, ((n, fewer n few, refused), out))

  all_wider : (m : Manner) (asked : List Asked) (start now : Option (List ℕ)) (r : Result WhichFound AnswerFault)
      → AnswersAll m (TellFails fails asks refuses) asked start now r → AnswersAll m (TellFails wider others refuses) asked start now r
  all_wider m asked start now (Ok found) answers = answers
  all_wider m asked start now (Err fault) stops = stops_wider m start now asked fault stops

  lines_wider : (m : Manner) (hex : Bool) (bytes : List ℕ) (left start now : Option (List ℕ))
      (r : Result Answered AnswerFault) → AnswersLines m hex (TellFails fails asks refuses) bytes left start now r
      → AnswersLines m hex (TellFails wider others refuses) bytes left start now r
  lines_wider m hex bytes left start now (Ok answered) answers = answers
  lines_wider m hex bytes left start now (Err Input) out = out
  lines_wider m hex bytes left start now (Err (Write lost)) stops =
      stops_wider m start now (asked_in hex bytes) (Write lost) stops
  lines_wider m hex bytes left start now (Err (Tell fault)) stops =
      stops_wider m start now (asked_in hex bytes) (Tell fault) stops

  given_wider : (w : AddrTexts) (m : Manner) (asked : List Asked) (bytes : List ℕ) (left start now : Option (List ℕ))
      (r : Result Answered AnswerFault) → AnswersGiven refuses w m fails asks asked bytes left start now r
      → AnswersGiven refuses w m wider others asked bytes left start now r
  given_wider w m [] bytes left start now r answers = lines_wider m w.hex bytes left start now r answers
  given_wider w m (a ∷ asked) bytes left start now r (none, found, answers, is) =
      (none, found, all_wider m (a ∷ asked) start now found answers, is)

  pub answers_wider : (w : AddrTexts) (f : ℕ → Option Location) (bytes : List ℕ) (left start now : Option (List ℕ))
      (r : Result Answered AnswerFault) → AnswersAsked refuses w f fails asks bytes left start now r
      → AnswersAsked refuses w f wider others bytes left start now r
  answers_wider w f bytes left start now r (m, is, answers) =
      (m, is, given_wider w m (asked_in_words w) bytes left start now r answers)

-- ---- an ELF file

module _ (refuses : ℕ → Type 0) (fails wider : Error → Type 0) (more : (e : Error) → fails e → wider e) where
  pub refuses_wider : (are_wanted : Bool) (f : List ℕ) (fault : FileFault) → RefusesOpening refuses are_wanted fails f fault
      → RefusesOpening refuses are_wanted wider f fault
  refuses_wider are_wanted f fault why = search rules

  pub elf_file_wider : (path : Bor Text) (w : AddrTexts) (f bytes : List ℕ) (left start now : Option (List ℕ))
      (r : Result Located Stop) → LocatesInElfFile refuses fails path w f bytes left start now r
      → LocatesInElfFile refuses wider path w f bytes left start now r
  elf_file_wider path w f bytes left start now r (inl stops) = inl stops
  elf_file_wider path w f bytes left start now r (inr (inl (fault, none, why, is, unanswered))) =
      inr (inl (fault, none, refuses_wider _ f fault why, is, unanswered))
  elf_file_wider path w f bytes left start now r
      (inr (inr (code, ranges, found, none, codes, live, are, inl (some, read, (q, answer, asks, does, is))))) =
      inr (inr (
        code,
        ranges,
        found,
        none,
        codes,
        live,
        are,
        inl (
          some,
          read,
          (q, answer, asks, on_file_as refuses _ _ fails wider path.now _ _ f start now unheard answer refl more does, is),
        ),
      ))
  elf_file_wider path w f bytes left start now r
      (inr (inr (code, ranges, found, none, codes, live, are, inr (lines, (table, told, made, answer, does, rest))))) =
      inr (inr (
        code,
        ranges,
        found,
        none,
        codes,
        live,
        are,
        inr (
          lines,
          (
            table,
            told,
            made,
            answer,
            on_file_as refuses _ _ fails wider path.now _ _ f (Some []) (Some made) unheard answer refl more does,
            rest,
          ),
        ),
      ))

  -- ---- an index

  opened_wider : (b : List ℕ) (fault : OpenFault) → IsNotOpened fails b fault → IsNotOpened wider b fault
  opened_wider b (index.Read error) reads = more error reads
  opened_wider b (index.Index fault) has = has

-- a read of an index
pub reads_wider : (fails wider : Error → Type 0) (known : Option (List ℕ)) → ((e : Error) → fails e → wider e)
    → (e : Error) → ReadFails known fails e → ReadFails known wider e
reads_wider fails wider known more e (inl reads) = inl (more e reads)
reads_wider fails wider known more e (inr ends) = inr ends

pub index_wider : (refuses : ℕ → Type 0) (fails wider : Error → Type 0) → ((e : Error) → fails e → wider e)
    → (held : Text → Option (List ℕ)) (others : Text → Error → Type 0) (path : Bor Text) (w : AddrTexts)
    (b bytes : List ℕ) (left start now : Option (List ℕ)) (r : Result Located Stop)
    → LocatesInIndex refuses held others fails path w b bytes left start now r
    → LocatesInIndex refuses held others wider path w b bytes left start now r
index_wider refuses fails wider more held others path w b bytes left start now r (inl stops) = inl stops
index_wider refuses fails wider more held others path w b bytes left start now r (inr (inl (fault, suits, opened, stops))) =
    inr (inl (fault, suits, opened_wider refuses fails wider more b fault opened, stops))
index_wider refuses fails wider more held others path w b bytes left start now r (inr (inr (inl stops))) = inr (inr (inl stops))
index_wider refuses fails wider more held others path w b bytes left start now r
    (inr (inr (inr (suits, headed, of, answered, is, answers)))) =
    inr (inr (inr (
      suits,
      headed,
      of,
      answered,
      is,
      λ whole. answers_wider refuses (ReadFails (Some b) fails)
          (ReadFails (Some b) wider) (reads_wider fails wider (Some b) more) (AsksOf b) (AsksOf b) (λ n few. few) w (location_in b) bytes left start now answered
          (answers whole),
    )))
