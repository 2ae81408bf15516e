-- Dialogues, byte by byte and piece by piece.
use Rattle.std.proofs.Common.{◌≡◌, ℕ, ◌+◌, ◌<◌, ◌≤◌, ◌==◌, Bool, true, List, [], ◌∷◌, ◌++◌, length, take, drop, get_or, Option, refl, sym, ap}
use Rattle.std.proofs.Common.{arith, ◌∙◌, append-nil, append_assoc, subst, Result, Ok, Err, MatchResult, take-append-drop}
use Rattle.std.specs.Io.KnownBytes.{Appends, IsAtEnd}
use Rattle.std.proofs.KnownBytes.{Appends-nil}
use Rattle.std.proofs.lemmas.Bool.Decides.{nat_tests}
use Rattle.std.proofs.lemmas.List.{take_all, take_more}
use Rattle.dl_print.specs.Printed.{Printed}
use Rattle.dl_look.specs.declared.asked.Asked.{Asked}
use Rattle.dl_asked.specs.AskedLines.{and_asked, asked_in, ended}
use Rattle.dl_asked.specs.LinesRead.{asked_from}
use Rattle.dl_asked.specs.Reading.{HasRead}
use Rattle.dl_asked.proofs.LineLemmas.{asked_so_far}
use Rattle.dl_dialogue.specs.Answers.{Manner, StopsBy, lines_by}
use Rattle.dl_dialogue.specs.Dialogues.{AnswersLines, Ends, StopsIn, Talks}
use Rattle.dl_dialogue.specs.Standing.{Speaks, Stands}
use Rattle.dl_dialogue.specs.declared.dialogue.Answered.{Answered}
use Rattle.dl_dialogue.specs.declared.dialogue.Dialogue.{Dialogue}
use Rattle.dl_dialogue.specs.declared.fault.AnswerFault.{AnswerFault}
use Rattle.dl_dialogue.specs.declared.fault.TellFault.{TellFault}
use Rattle.dl_dialogue.specs.declared.fault.AnswerFault.TheVariants.{Input, Tell, Write}
use Rattle.dl_dialogue.proofs.AnswerLemmas.{stops_more, stops_weaker}

-- what stops the answers to the lines that have ended stops those to all that follows
pub stops_in : (m : Manner) (hex : Bool) (Fails : TellFault → Type 0) (start now : Option (List ℕ)) (done : List ℕ)
    (asked : List Asked) (d : Dialogue) (fault : AnswerFault) → HasRead hex done asked d.line
    → StopsBy m Fails start now asked fault → StopsIn m hex Fails start now done fault
stops_in m hex Fails start now done asked d fault read stops rest =
    subst (λ a. StopsBy m Fails start now a fault) (sym (asked_so_far hex done asked d.line read rest))
    (stops_more m Fails start now asked (asked_from hex d.line.line rest) fault stops)

pub stops_later : (m : Manner) (hex : Bool) (Fails : TellFault → Type 0) (start now : Option (List ℕ)) (done more : List ℕ)
    (fault : AnswerFault) → StopsIn m hex Fails start now done fault → StopsIn m hex Fails start now (done ++ more) fault
stops_later m hex Fails start now done more fault stops rest =
    subst (λ b. StopsBy m Fails start now (asked_in hex b) fault) (sym (append_assoc done more rest)) (stops (more ++ rest))

-- a byte is taken, and what it ends is answered
pub byte_spoken : (m : Manner) (hex : Bool) (Fails : TellFault → Type 0) (start later : Option (List ℕ)) (done : List ℕ)
    (byte : ℕ) (asked : Option Asked) (p : Printed) (new : Dialogue) (r : Result (Unit {0}) AnswerFault)
    → HasRead hex (done ++ byte ∷ []) (asked_in hex (ended done) ++ and_asked asked []) new.line
    → MatchResult r (λ _. Stands m start later (asked_in hex (ended done) ++ and_asked asked []) p new.answers)
    (StopsBy m Fails start later (asked_in hex (ended done) ++ and_asked asked []))
    → MatchResult r (λ _. Speaks m hex start later (done ++ byte ∷ []) p new)
    (StopsIn m hex Fails start later (done ++ byte ∷ []))
byte_spoken m hex Fails start later done byte asked p new (Ok x) read stands = record {
  answers = subst (λ a. Stands m start later a p new.answers) read.ended stands;
  line = subst (λ a. HasRead hex (done ++ byte ∷ []) a new.line) read.ended read;
}
byte_spoken m hex Fails start later done byte asked p new (Err fault) read stops =
    stops_in m hex Fails start later (done ++ byte ∷ []) (asked_in hex (ended done) ++ and_asked asked []) new fault read stops

-- a byte of those that are taken in a row
taken_more : (done piece : List ℕ) (i c : ℕ) → i < length piece → c ≡ get_or piece i 0
    → (done ++ take i piece) ++ c ∷ [] ≡ done ++ take (i + 1) piece
taken_more done piece i c lt is =
    append_assoc done (take i piece) (c ∷ []) ∙ ap (λ xs. done ++ xs) (ap (λ d. take i piece ++ d ∷ []) is
    ∙ sym (take_more piece i 0 lt))

pub spoken_more : (m : Manner) (hex : Bool) (start now : Option (List ℕ)) (done piece : List ℕ) (i c : ℕ) (p : Printed)
    (d : Dialogue) → i < length piece → c ≡ get_or piece i 0
    → Speaks m hex start now ((done ++ take i piece) ++ c ∷ []) p d
    → Speaks m hex start now (done ++ take (i + 1) piece) p d
spoken_more m hex start now done piece i c p d lt is speaks =
    subst (λ b. Speaks m hex start now b p d) (taken_more done piece i c lt is) speaks

pub stopped_within : (m : Manner) (hex : Bool) (Fails : TellFault → Type 0) (start now : Option (List ℕ)) (done piece : List ℕ)
    (i c : ℕ) (fault : AnswerFault) → i < length piece → c ≡ get_or piece i 0
    → StopsIn m hex Fails start now ((done ++ take i piece) ++ c ∷ []) fault
    → StopsIn m hex Fails start now (done ++ piece) fault
stopped_within m hex Fails start now done piece i c fault lt is stops =
    let e : ((done ++ take i piece) ++ c ∷ []) ++ drop (i + 1) piece ≡ done ++ piece =
    ap (λ xs. xs ++ drop (i + 1) piece) (taken_more done piece i c lt is)
    ∙ (append_assoc done (take (i + 1) piece) (drop (i + 1) piece)
    ∙ ap (λ xs. done ++ xs) (take-append-drop (i + 1) piece)) in
    subst (λ b. StopsIn m hex Fails start now b fault) e
    (stops_later m hex Fails start now ((done ++ take i piece) ++ c ∷ []) (drop (i + 1) piece) fault stops)

-- all bytes of a piece were taken, and what was held back is written
pub piece_spoken : (m : Manner) (hex : Bool) (Fails : TellFault → Type 0) (start now later : Option (List ℕ))
    (done piece : List ℕ) (i : ℕ) (p q : Printed) (d : Dialogue) (r : Result (Unit {0}) AnswerFault) → length piece ≤ i
    → Speaks m hex start now (done ++ take i piece) p d
    → ((asked : List Asked) → Stands m start now asked p d.answers → MatchResult r
    (λ _. Stands m start later asked q d.answers × Appends start later (lines_by m asked))
    (StopsBy m (λ _. ⊥) start later asked))
    → MatchResult r (λ _. Talks m hex start later (done ++ piece) q d)
    (StopsIn m hex Fails start later (done ++ piece))
piece_spoken m hex Fails start now later done piece i p q d r past speaks flushes =
    by r (flushes (asked_in hex (ended (done ++ piece))) all.answers) where
      all : Speaks m hex start now (done ++ piece) p d
      all = subst (λ b. Speaks m hex start now (done ++ b) p d) (take_all i piece past) speaks

      by : (r : Result (Unit {0}) AnswerFault) → MatchResult r
          (λ _. Stands m start later (asked_in hex (ended (done ++ piece))) q d.answers
          × Appends start later (lines_by m (asked_in hex (ended (done ++ piece)))))
          (StopsBy m (λ _. ⊥) start later (asked_in hex (ended (done ++ piece))))
          → MatchResult r (λ _. Talks m hex start later (done ++ piece) q d)
          (StopsIn m hex Fails start later (done ++ piece))
      by (Ok x) (stands, out) = record { out = out; speaks = record { answers = stands; line = all.line } }
      by (Err fault) stops =
          stops_in m hex Fails start later (done ++ piece) (asked_in hex (ended (done ++ piece))) d fault all.line
          (stops_weaker m Fails start later (asked_in hex (ended (done ++ piece))) fault stops)

-- nothing was said yet
pub nothing_said : (m : Manner) (hex : Bool) (start : Option (List ℕ)) (p : Printed) (d : Dialogue)
    → Stands m start start [] p d.answers → HasRead hex [] [] d.line → Talks m hex start start [] p d
nothing_said m hex start p d stands read = record {
  out = Appends-nil start;
  speaks = record { answers = stands; line = read };
}

-- a piece that is empty ends the input
pub nothing_of : (piece : List ℕ) → true ≡ (length piece == 0) → piece ≡ []
nothing_of [] is = refl
nothing_of (c ∷ piece) is = absurd (grind (arith, nat_tests, is))

-- the input is at its end, and all was answered or a fault came
stopped_answers : (m : Manner) (hex : Bool) (Fails : TellFault → Type 0) (bytes : List ℕ) (left start now : Option (List ℕ))
    (fault : AnswerFault) → StopsBy m Fails start now (asked_in hex bytes) fault
    → AnswersLines m hex Fails bytes left start now (Err fault)
stopped_answers m hex Fails bytes left start now (Write lost) stops = stops
stopped_answers m hex Fails bytes left start now (Tell fault) stops = stops
stopped_answers m hex Fails bytes left start now Input (answered, others, is, never) = absurd never

pub end_answers : (m : Manner) (hex : Bool) (Fails : TellFault → Type 0) (bytes : List ℕ) (left start now : Option (List ℕ))
    (r : Result Answered AnswerFault) → IsAtEnd left
    → MatchResult r (Ends m hex start now bytes) (StopsBy m Fails start now (asked_in hex bytes))
    → AnswersLines m hex Fails bytes left start now r
end_answers m hex Fails bytes left start now (Ok answered) end ends = (end, ends)
end_answers m hex Fails bytes left start now (Err fault) end stops =
    stopped_answers m hex Fails bytes left start now fault stops

pub fault_answers : (m : Manner) (hex : Bool) (Fails : TellFault → Type 0) (bytes : List ℕ) (left start now : Option (List ℕ))
    (fault : AnswerFault) → StopsIn m hex Fails start now bytes fault
    → AnswersLines m hex Fails bytes left start now (Err fault)
fault_answers m hex Fails bytes left start now fault stops =
    stopped_answers m hex Fails bytes left start now fault
    (subst (λ b. StopsBy m Fails start now (asked_in hex b) fault) (append-nil bytes) (stops []))
