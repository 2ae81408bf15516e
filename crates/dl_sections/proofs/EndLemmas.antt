-- When the bytes of a reader are over.
use Rattle.std.proofs.Common.{◌≡◌, inl, inr, ℕ, List, [], ◌∷◌, ◌++◌, Option, None, Result, Ok, Err, subst, sym, ap, ◌∙◌}
use Rattle.std.specs.Prelude.{◌⊎◌, OnOk}
use Rattle.dl_head.specs.declared.dialect.Dialect.{Dialect}
use Rattle.dl_rows.specs.declared.sink.Flow.{Flow}
use Rattle.dl_rows.specs.declared.sink.Flow.TheVariants as flow
use Rattle.dl_print.specs.declared.summary.Summary.{Summary}
use Rattle.dl_sections.specs.declared.around.Damage.{Damage}
use Rattle.dl_sections.specs.declared.around.Survey.{Survey}
use Rattle.dl_sections.specs.declared.around.UnitsAround.{UnitsAround}
use Rattle.dl_sections.specs.declared.fault.RunFault.{RunFault}
use Rattle.dl_sections.specs.declared.fault.RunFault.TheVariants as fault
use Rattle.dl_sections.specs.declared.section.SectionUnits.{SectionUnits}
use Rattle.dl_sections.specs.Around.{begun, broken, cut_off, damaged_units, faults_in}
use Rattle.dl_sections.specs.Ending.{WantsNoMore, WhereWhole}
use Rattle.dl_sections.specs.GoingOn.{AroundFed, surveyed}
use Rattle.dl_sections.specs.Section.{Visit}
use Rattle.dl_sections.specs.UnitsRead.{Before, Worked, visits_since}
use Rattle.dl_sections.specs.Visiting.{Ran, Story}

-- ---- answers

-- what holds whatever is answered
pub on_ok : {A E P : Type 0} (r : Result A E) → P → OnOk r P
on_ok (Ok a) p = p
on_ok (Err e) p = tt

-- one of two, of which the second can't be
pub only_left : {P Q : Type 0} → (Q → ⊥) → P ⊎ Q → P
only_left never (inl p) = p
only_left never (inr q) = absurd (never q)

-- a visitor that never wants nothing more
abbrev pub Never : Type 0
Never = (visits : List Visit) × ⊥

pub only_over : {A E : Type 0} (P : Type 0) (r : Result A E) → OnOk r (P ⊎ Never) → OnOk r P
only_over P (Ok a) over = only_left (λ done. done.1) over
only_over P (Err e) over = tt

pub only_where : (P : Type 0) (r : Result Survey RunFault) → WhereWhole (P ⊎ Never) r → WhereWhole P r
only_where P (Ok survey) over = λ whole. only_left (λ done. done.1) (over whole)
only_where P (Err f) over = tt

-- ---- the visitor wants nothing more

module _ {S : Type 0} (story : Story S) (first new : S) (start now : Option (List ℕ)) where
  pub stops_worked : {dialect : Dialect} (past : Before dialect) (s : List ℕ) (u : SectionUnits) {n : Flow} → n ≡ flow.Stop
      → Worked story past s first new start now u (Ok n) → WantsNoMore story first new start now
  stops_worked past s u stop worked =
      let done = subst (λ (m : Flow). Worked story past s first new start now u (Ok m)) stop worked in
      (visits_since past done.0 [], done.5.tells)

  some_damaged : (others : List Damage) (last : Damage) → damaged_units (others ++ last ∷ []) ≡ None → ⊥
  some_damaged [] last none = absurd (cc none)
  some_damaged (other ∷ others) last none = absurd (cc none)

  -- around damaged units: of which there is one where no unit is known to follow
  stops_whole : (dialect : Dialect) (s : List ℕ) (a : UnitsAround) → a.damaged ≡ None
      → AroundFed story dialect s first new start now a (Ok flow.Stop) → WantsNoMore story first new start now
  stops_whole dialect s a whole (blocks, rest, is, inr (others, empty, cut, settled)) = (_, settled.tells)
  stops_whole dialect s a whole (blocks, begun b, is, inl (cut, none, settled)) = absurd none
  stops_whole dialect s a whole (blocks, cut_off b, is, inl (cut, none, settled)) = absurd none
  stops_whole dialect s a whole (blocks, broken front back at kind, is, inl (cut, none, settled)) =
      absurd (some_damaged (faults_in 0 blocks) _ (sym (ap (λ (v : Survey). v.damaged) is) ∙ whole))

  pub stops_fed : (dialect : Dialect) (s : List ℕ) (a : UnitsAround) {n : Flow} {survey : Survey} → n ≡ flow.Stop
      → survey ≡ surveyed a → AroundFed story dialect s first new start now a (Ok n) → survey.damaged ≡ None
      → WantsNoMore story first new start now
  stops_fed dialect s a stop is fed whole =
      stops_whole dialect s a (sym (ap (λ (v : Survey). v.damaged) is) ∙ whole)
      (subst (λ (m : Flow). AroundFed story dialect s first new start now a (Ok m)) stop fed)

  -- ---- a visitor without reasons answers no place that wasn't found

  pub none_unfound : (dialect : Dialect) (limit : ℕ) (bytes : List ℕ) (left : Option (List ℕ)) (f : RunFault)
      → ((visits : List Visit) → ¬ story.refuses first visits fault.NotFound)
      → Ran story dialect limit bytes left first new start now (Err f) → ¬ (f ≡ fault.NotFound)
  none_unfound dialect limit bytes left f never ran is =
      by (subst (λ (x : RunFault). Ran story dialect limit bytes left first new start now (Err x)) is ran)
    where
      by : Ran story dialect limit bytes left first new start now (Err fault.NotFound) → ⊥
      by (units, b, back, inl (ends, settled)) = ends
      by (units, b, back, inr (starts, sound, stops)) = never _ stops.reason

pub unfound : (f : RunFault) → ◌≡◌ {A = Result Summary RunFault} (Err f) (Err fault.NotFound) → f ≡ fault.NotFound
unfound f e = cc
