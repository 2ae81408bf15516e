-- Lines that answer one after the other.
use Rattle.std.proofs.Common.{◌≡◌, ℕ, Bool, true, false, if◌then◌else◌, List, [], ◌∷◌, ◌++◌, Option, Some, None, refl, sym, ap}
use Rattle.std.proofs.Common.{ap₂, ◌∙◌, append-nil, append_assoc, subst, Result, Ok, Err, MatchResult, ◌+◌, ◌<◌, ◌≤◌}
use Rattle.std.proofs.Common.{length, take, drop, get_or, take-append-drop}
use Rattle.std.proofs.lemmas.List.{take_all, take_more}
use Rattle.std.specs.Prelude.{◌&&◌, is_some, option_map, OnOk}
use Rattle.std.specs.Io.KnownBytes.{Appends}
use Rattle.std.specs.List.{list_all}
use Rattle.std.proofs.lemmas.Grind.{flat_map-append}
use Rattle.std.proofs.lemmas.List.Folds.{list_all-append}
use Rattle.dl_print.specs.Output.{Flushes, HasPrinted, Prints, TellsOut}
use Rattle.dl_print.specs.Printed.{Printed}
use Rattle.dl_print.specs.declared.fault.WriteFault.{WriteFault}
use Rattle.dl_print.proofs.Outs.{HasPrinted-out}
use Rattle.dl_look.specs.declared.asked.Asked.{Asked}
use Rattle.dl_addr.specs.Commands.{is_answered}
use Rattle.dl_addr.specs.Location.{Location}
use Rattle.dl_addr.specs.Locations.{location_line}
use Rattle.dl_addr.specs.declared.question.WhichFound.TheVariants.{All, NotAll}
use Rattle.dl_dialogue.specs.Answers.{Manner, StopsBy, answer_by, found_by, lines_by}
use Rattle.dl_dialogue.specs.Standing.{Stands, stopped, written}
use Rattle.dl_dialogue.specs.declared.answers.Answers.{Answers}
use Rattle.dl_dialogue.specs.declared.fault.AnswerFault.{AnswerFault}
use Rattle.dl_dialogue.specs.declared.fault.AnswerFault.TheVariants.{Input, Tell, Write}
use Rattle.dl_dialogue.specs.declared.fault.TellFault.{TellFault}

pub some_mapped : {A B : Type 0} (f : A → B) (o : Option A) → is_some o ≡ is_some (option_map f o)
some_mapped f None = refl
some_mapped f (Some x) = refl

module _ (m : Manner) (before : List Asked) (a : Asked) where
  abbrev one : List ℕ
  one = location_line m.style a (answer_by m a)

  pub lines_more : lines_by m (before ++ a ∷ []) ≡ lines_by m before ++ one
  lines_more =
      flat_map-append (λ a. location_line m.style a (answer_by m a)) before (a ∷ [])
      ∙ ap (λ l. lines_by m before ++ l) (append-nil one)

  abbrev has : Asked → Bool
  has a = is_answered a (is_some (answer_by m a))

  found_both : (b c : Bool) → (if c then (if b then All else NotAll) else NotAll) ≡ (if b && (c && true) then All else NotAll)
  found_both true true = refl
  found_both true false = refl
  found_both false true = refl
  found_both false false = refl

  pub found_more : (if has a then found_by m before else NotAll) ≡ found_by m (before ++ a ∷ [])
  found_more =
      found_both (list_all has before) (has a)
      ∙ ap (λ (b : Bool). if b then All else NotAll) (sym (list_all-append has before (a ∷ [])))

  module _ (start now later : Option (List ℕ)) (held : Printed) (s : Answers) (stands : Stands m start now before held s) where
    -- a line is printed, or a write fails
    pub answers_one : (Fails : TellFault → Type 0) (told : Option Location) (is : Bool)
        (r : Result (Unit {0}) WriteFault) (p : Printed) (new : Answers) → told ≡ answer_by m a → is ≡ is_answered a (is_some told)
        → new.style ≡ s.style → new.base ≡ s.base → new.found ≡ (if is then s.found else NotAll)
        → Prints now later held p (location_line s.style a told) r
        → MatchResult (written r) (λ _. Stands m start later (before ++ a ∷ []) p new)
        (StopsBy m Fails start later (before ++ a ∷ []))
    answers_one Fails told is r p new e is_e style base found prints =
        let line : location_line s.style a told ≡ one = ap₂ (λ x y. location_line x a y) stands.style e in
        let all : lines_by m before ++ location_line s.style a told ≡ lines_by m (before ++ a ∷ []) =
        ap (λ l. lines_by m before ++ l) line ∙ sym lines_more in
        by r (subst (λ t. MatchResult r (λ _. HasPrinted start later t p) (λ f. TellsOut start later t f)) all
        (prints start (lines_by m before) stands.printed)) where
          by : (r : Result (Unit {0}) WriteFault)
              → MatchResult r (λ _. HasPrinted start later (lines_by m (before ++ a ∷ [])) p)
              (λ f. TellsOut start later (lines_by m (before ++ a ∷ [])) f)
              → MatchResult (written r) (λ _. Stands m start later (before ++ a ∷ []) p new)
              (StopsBy m Fails start later (before ++ a ∷ []))
          by (Ok x) printed = record {
            style = style ∙ stands.style;
            base = base ∙ stands.base;
            found = found ∙ (ap₂ (λ (b : Bool) f. if b then f else NotAll) (is_e ∙ ap (λ t. is_answered a (is_some t)) e)
                stands.found ∙ found_more);
            printed = printed;
          }
          by (Err lost) out = (before ++ a ∷ [], [], sym (append-nil (before ++ a ∷ [])), out)

    -- nothing can be told: the lines before it are written, or a write fails
    pub stops_before : (Fails : TellFault → Type 0) (fault : TellFault) (printer : Printed) (r : Result (Unit {0}) WriteFault)
        (new : Answers) → Fails fault → Flushes now later held printer r → OnOk r (printer.pending ≡ [])
        → MatchResult (stopped r fault) (λ _. Stands m start later (before ++ a ∷ []) printer new)
        (StopsBy m Fails start later (before ++ a ∷ []))
    stops_before Fails fault printer r new fails flushes empty = by r (flushes start (lines_by m before) stands.printed) empty where
      by : (r : Result (Unit {0}) WriteFault)
          → MatchResult r (λ _. HasPrinted start later (lines_by m before) printer)
          (λ f. TellsOut start later (lines_by m before) f) → OnOk r (printer.pending ≡ [])
          → MatchResult (stopped r fault) (λ _. Stands m start later (before ++ a ∷ []) printer new)
          (StopsBy m Fails start later (before ++ a ∷ []))
      by (Ok x) printed empty =
          (before, a ∷ [], refl, (fails, HasPrinted-out start later (lines_by m before) printer printed empty))
      by (Err lost) out empty = (before, a ∷ [], refl, out)

-- what was held back is written
pub flushes_all : (m : Manner) (start now later : Option (List ℕ)) (asked : List Asked) (p q : Printed) (s : Answers)
    (r : Result (Unit {0}) WriteFault) → Stands m start now asked p s → Flushes now later p q r → OnOk r (q.pending ≡ [])
    → MatchResult (written r) (λ _. Stands m start later asked q s × Appends start later (lines_by m asked))
    (StopsBy m (λ _. ⊥) start later asked)
flushes_all m start now later asked p q s r stands flushes empty =
    by r (flushes start (lines_by m asked) stands.printed) empty where
      by : (r : Result (Unit {0}) WriteFault)
          → MatchResult r (λ _. HasPrinted start later (lines_by m asked) q)
          (λ f. TellsOut start later (lines_by m asked) f) → OnOk r (q.pending ≡ [])
          → MatchResult (written r) (λ _. Stands m start later asked q s × Appends start later (lines_by m asked))
          (StopsBy m (λ _. ⊥) start later asked)
      by (Ok x) printed empty = (
        record {
          style = stands.style;
          base = stands.base;
          found = stands.found;
          printed = printed;
        },
        HasPrinted-out start later (lines_by m asked) q printed empty,
      )
      by (Err lost) out empty = (asked, [], sym (append-nil asked), out)

-- more is asked than what was answered
pub stops_more : (m : Manner) (Fails : TellFault → Type 0) (start now : Option (List ℕ)) (asked more : List Asked)
    (fault : AnswerFault) → StopsBy m Fails start now asked fault → StopsBy m Fails start now (asked ++ more) fault
stops_more m Fails start now asked more fault (answered, others, is, stops) =
    (answered, others ++ more, ap (λ l. l ++ more) is ∙ append_assoc answered others more, stops)

-- what doesn't fail at all
pub stops_weaker : (m : Manner) (Fails : TellFault → Type 0) (start now : Option (List ℕ)) (asked : List Asked)
    (fault : AnswerFault) → StopsBy m (λ _. ⊥) start now asked fault → StopsBy m Fails start now asked fault
stops_weaker m Fails start now asked (Write lost) stops = stops
stops_weaker m Fails start now asked Input stops = stops
stops_weaker m Fails start now asked (Tell fault) (answered, others, is, (fails, out)) = absurd fails

-- what doesn't fail but by the writer
pub written_weaker : (P : Type 0) (m : Manner) (Fails : TellFault → Type 0) (start now : Option (List ℕ)) (asked : List Asked)
    (r : Result (Unit {0}) AnswerFault) → MatchResult r (λ _. P) (StopsBy m (λ _. ⊥) start now asked)
    → MatchResult r (λ _. P) (StopsBy m Fails start now asked)
written_weaker P m Fails start now asked (Ok x) done = done
written_weaker P m Fails start now asked (Err fault) stops = stops_weaker m Fails start now asked fault stops

-- ---- of a list that is answered in order

pub each_answered : (m : Manner) (start now : Option (List ℕ)) (asked : List Asked) (i : ℕ) (d : Asked) (p : Printed)
    (s : Answers) → i < length asked → Stands m start now (take i asked ++ get_or asked i d ∷ []) p s
    → Stands m start now (take (i + 1) asked) p s
each_answered m start now asked i d p s lt stands =
    subst (λ a. Stands m start now a p s) (sym (take_more asked i d lt)) stands

pub answered_within : (m : Manner) (Fails : TellFault → Type 0) (start now : Option (List ℕ)) (asked : List Asked) (i : ℕ)
    (d : Asked) (fault : AnswerFault) → i < length asked
    → StopsBy m Fails start now (take i asked ++ get_or asked i d ∷ []) fault
    → StopsBy m Fails start now asked fault
answered_within m Fails start now asked i d fault lt stops =
    subst (λ a. StopsBy m Fails start now a fault) (take-append-drop (i + 1) asked)
    (stops_more m Fails start now (take (i + 1) asked) (drop (i + 1) asked) fault
    (subst (λ a. StopsBy m Fails start now a fault) (sym (take_more asked i d lt)) stops))

pub all_answered : (m : Manner) (start now : Option (List ℕ)) (asked : List Asked) (i : ℕ) (p : Printed)
    (s : Answers) → length asked ≤ i → Stands m start now (take i asked) p s → Stands m start now asked p s
all_answered m start now asked i p s past stands = subst (λ a. Stands m start now a p s) (take_all i asked past) stands
