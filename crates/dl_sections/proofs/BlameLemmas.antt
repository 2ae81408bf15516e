-- Which reads are blamed, and which writes.
use Rattle.std.proofs.Common.{◌≡◌, inl, inr, refl, ℕ, List, [], ◌∷◌, Option, Some, None, Result, Ok, Err, sym, subst}
use Rattle.dl_input.specs.Failing.{Became, Blames}
use Rattle.dl_num.specs.declared.fixed.Order.{Order}
use Rattle.dl_head.specs.declared.dialect.Dialect.{Dialect}
use Rattle.dl_emit.specs.WrittenUnit.{unit_of, refusal}
use Rattle.dl_emit.specs.declared.fault.EmitFault.{EmitFault}
use Rattle.dl_print.specs.declared.summary.Summary.{Summary}
use Rattle.dl_sections.specs.declared.around.UnitsAround.{UnitsAround}
use Rattle.dl_sections.specs.declared.copying.Copier.{Copier}
use Rattle.dl_sections.specs.declared.fault.RunFault.TheVariants as fault
use Rattle.dl_sections.specs.declared.fault.RunFault.{RunFault}
use Rattle.dl_sections.specs.declared.section.SectionUnits.{SectionUnits}
use Rattle.dl_sections.specs.Blaming.{BlamesWriter, IsBlamed}
use Rattle.dl_sections.specs.Commands.{Made}
use Rattle.dl_sections.specs.Copying.{Progress, copy_story, made_by, goes, stopped, stop_in, ended_as, visited, comes_to}
use Rattle.dl_sections.specs.GoingOn.{AroundFed}
use Rattle.dl_rows.specs.Items.{a_byte, a_row, an_operation}
use Rattle.dl_sections.specs.Section.{Visit, of_header, of_version, of_item, of_open, of_damage, of_end}
use Rattle.dl_sections.specs.UnitsRead.{Before, Finishes, Worked}
use Rattle.dl_sections.specs.Visiting.{Story}
use Rattle.dl_sections.proofs.AroundPieces.{no_cell_other}

module _ {R : Type 0} {follows : R → ℕ → R → Type 0} {fails : R → Type 0} where
  -- what is blamed is told for another reason
  pub blames_where : {old new : R} {A B : Type 0} → Blames follows fails old new A → (B → A) → Blames follows fails old new B
  blames_where blames by first is = let b = blames first is in (b.0, λ told. b.1 (by told))

  -- after reads that weren't blamed came one more
  pub blames_next : {old new : R} {A B : Type 0} (now : R) → ((first : R) → Became follows first old → Became follows first now)
      → Blames follows fails now new A → (B → A) → Blames follows fails old new B
  blames_next now before blames by first is = blames_where blames by first (before first is)

-- the fault of an answer
pub same_fault : {A : Type 0} (f : RunFault) → ◌≡◌ {A = Result A RunFault} (Err f) (Err fault.Read) → f ≡ fault.Read
same_fault f e = cc

pub same_answer : {A B : Type 0} (f : RunFault) → ◌≡◌ {A = Result A RunFault} (Err f) (Err fault.Read)
    → ◌≡◌ {A = Result B RunFault} (Err f) (Err fault.Read)
same_answer {A} {B} f e =
    subst (λ (x : RunFault). ◌≡◌ {A = Result B RunFault} (Err x) (Err fault.Read)) (sym (same_fault f e)) refl

-- the end of a section is no failed read
pub none_finished : {dialect : Dialect} (past : Before dialect) (t : List ℕ) (units : List (List ℕ)) (b : List ℕ)
    (r : Result Summary RunFault) → Finishes past t units b r → ¬ (r ≡ Err fault.Read)
none_finished past t units b (Ok summary) is read = absurd cc
none_finished past t units b (Err f) is read = let e = is.1 in absurd cc

-- nor is it a failed write
pub finished_blames : (fails : Type 0) {dialect : Dialect} (past : Before dialect) (t : List ℕ) (units : List (List ℕ))
    (b : List ℕ) (r : Result Summary RunFault) → Finishes past t units b r → BlamesWriter fails r
finished_blames fails past t units b (Ok summary) is = tt
finished_blames fails past t units b (Err f) is = subst (λ (x : RunFault). IsBlamed fails x) (sym is.1) tt

module _ {S : Type 0} (story : Story S) (first new : S) (start now : Option (List ℕ))
    (never : (visits : List Visit) → ¬ story.refuses first visits fault.Read) where
  -- nor is what comes of a piece
  pub none_worked : {dialect : Dialect} (past : Before dialect) (s : List ℕ) (u : SectionUnits) (f : RunFault)
      → Worked story past s first new start now u (Err f) → ¬ (f ≡ fault.Read)
  none_worked {dialect} past s u f worked read =
      by (subst (λ (x : RunFault). Worked story past s first new start now u (Err x)) read worked)
    where
      by : Worked story past s first new start now u (Err fault.Read) → ⊥
      by (units, b, back, begun, inl (stops, settled)) = stops
      by (units, b, back, begun, inr (sound, stops)) = never _ stops.reason

  pub none_fed : (dialect : Dialect) (s : List ℕ) (a : UnitsAround) (f : RunFault)
      → AroundFed story dialect s first new start now a (Err f) → ¬ (f ≡ fault.Read)
  none_fed dialect s a f fed read =
      by (subst (λ (x : RunFault). AroundFed story dialect s first new start now a (Err x)) read fed)
    where
      by : AroundFed story dialect s first new start now a (Err fault.Read) → ⊥
      by (blocks, rest, others, cut, sound, inl (wants, settled)) =
          no_cell_other dialect fault.Read (λ e. absurd cc) rest others wants
      by (blocks, rest, others, cut, sound, inr stops) = never _ stops.reason

-- what a copy stops at is no failed read
pub none_copied : (made : Made) (order : Order) (p : Progress) → ¬ (stop_in p ≡ Some fault.Read) → (visits : List Visit)
    → ¬ (stop_in (comes_to made order p visits) ≡ Some fault.Read)
none_copied made order p none [] = none
none_copied made order p none (visit ∷ visits) = none_copied made order (visited made order p visit) (one p visit none) visits
  where
    ended : (unit text : List ℕ) (offset : ℕ) (refused : Option EmitFault)
        → ¬ (stop_in (ended_as unit text offset refused) ≡ Some fault.Read)
    ended unit text offset None e = absurd cc
    ended unit text offset (Some f) e = absurd cc

    one : (p : Progress) (visit : Visit) → ¬ (stop_in p ≡ Some fault.Read)
        → ¬ (stop_in (visited made order p visit) ≡ Some fault.Read)
    one (stopped text f) visit none e = none e
    one (goes offset rows text) (of_header n l h) none e = absurd cc
    one (goes offset rows text) (of_version n version) none e = absurd cc
    one (goes offset rows text) (of_item (a_byte x)) none e = absurd cc
    one (goes offset rows text) (of_item (an_operation header o)) none e = absurd cc
    one (goes offset rows text) (of_item (a_row header r)) none e = absurd cc
    one (goes offset rows text) of_open none e = absurd cc
    one (goes offset rows text) (of_damage unit n kind) none e = absurd cc
    one (goes offset rows text) (of_end None) none e = absurd cc
    one (goes offset rows text) (of_end (Some h)) none e =
        ended (unit_of order (made offset h) rows) text offset (refusal (made offset h) rows) e

pub copies_never_read : {M : Type 0} (refuses : M → ℕ → Type 0) (first : Copier M) (visits : List Visit)
    → ¬ (copy_story refuses).refuses first visits fault.Read
copies_never_read refuses first visits =
    none_copied (made_by first.becomes) first.program.order (goes first.unit [] []) (λ e. absurd cc) visits
