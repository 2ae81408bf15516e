-- What the text of one unit comes to.
use Rattle.std.proofs.Common.{◌≡◌, ◌∙◌, ◌||◌, ◌&&◌, ◌∷◌, ℕ, List, [], Bool, true, false, Option, Ok, Err, inl, inr, refl, sym, ap, ap₂, subst}
use Rattle.std.proofs.Common.{true≢false}
use Rattle.std.specs.Prelude.{◌⊎◌, None, Some}
use Rattle.std.specs.Option.{option_or}
use Rattle.dl_head.specs.declared.dialect.Dialect.{Dialect}
use Rattle.dl_sections.specs.Around.{RanAround, begun, damaged_units, faults_of, visits_around}
use Rattle.dl_sections.specs.Ending.{WantsNoMore}
use Rattle.dl_sections.specs.declared.around.Damage.{Damage}
use Rattle.dl_sections.specs.declared.around.DamagedUnits.{DamagedUnits}
use Rattle.dl_sections.specs.declared.around.Survey.{Survey}
use Rattle.dl_sections.specs.declared.fault.RunFault.{RunFault}
use Rattle.dl_sections.specs.declared.fault.RunFault.TheVariants as fault
use Rattle.dl_sections.specs.RunOutput.{TellsOut}
use Rattle.dl_sections.specs.Section.{Visit}
use Rattle.dl_sections.specs.Visiting.{WritesFront}
use Rattle.dl_sections.proofs.OutLemmas.{TellsOut-more}
use Rattle.dl_dump.specs.declared.unit_dumping.UnitDumper.{UnitDumper}
use Rattle.dl_dump.specs.DetailText.{DetailStyle, reached_after, shown_after}
use Rattle.dl_dump.specs.Dumping.{style_of}
use Rattle.dl_dump.specs.Reached.{before_units}
use Rattle.dl_dump.specs.declared.reached.Reached.{Reached}
use Rattle.dl_dump.specs.UnitCommand.{DumpsUnit, TellsUnit, answer_of, begins_at, ends_unit, first_damage, is_of, is_over, told_by, unit_text, unit_told, visits_of}
use Rattle.dl_dump.specs.declared.unit_dumping.UnitAt.TheVariants.{NoUnit}
use Rattle.dl_dump.specs.UnitDumping.{HasShownUnit, ends_in, told_since, unit_story}
use Rattle.dl_dump.proofs.ShowingLemmas.{shown-append}
use Rattle.dl_dump.proofs.UnitLemmas.{of-append}

-- nothing was told
pub record IsFirst (first : UnitDumper) : Type 0 where
  pub at : first.dumper.at ≡ before_units
  pub current : first.is_current ≡ false
  pub begun : first.has_begun ≡ false
  pub damage : first.damage ≡ None

module _ (dialect : Dialect) (limit : ℕ) (bytes : List ℕ) (left : Option (List ℕ)) (first new : UnitDumper)
    (start now : Option (List ℕ)) (is : IsFirst first) where
  told : (visits : List Visit) → told_since first visits ≡ unit_told first.unit visits
  told visits = ap (λ (was : Bool). visits_of first.unit was visits) is.current

  whole_text : (visits : List Visit)
      → shown_after (style_of first.dumper) first.dumper.at (told_since first visits)
      ≡ unit_text (style_of first.dumper) first.unit visits
  whole_text visits =
      ap₂ (λ (at : Reached) (l : List Visit). shown_after (style_of first.dumper) at l) is.at (told visits)

  -- what is out of the text of some visits is out of that of all
  fronts : (visits : List Visit) (out : ℕ) → WritesFront unit_story first start now visits (fault.Write out)
      → TellsOut start now (unit_text (style_of first.dumper) first.unit visits) (fault.Write out)
  fronts visits out (heard, more, is, out_of) =
      let style = style_of first.dumper in
      let at = first.dumper.at in
      let others = visits_of first.unit (ends_in first.unit first.is_current heard) more in
      subst (λ (l : List ℕ). TellsOut start now l (fault.Write out))
      (sym (shown-append style at (told_since first heard) others)
      ∙ ap (shown_after style at) (sym (of-append first.unit first.is_current heard more))
      ∙ ap (λ (l : List Visit). shown_after style at (told_since first l)) (sym is) ∙ whole_text visits)
      (TellsOut-more start now (shown_after style at (told_since first heard))
      (shown_after style (reached_after style at (told_since first heard)) others) (fault.Write out) out_of)

  over : (visits : List Visit) → is_over first.unit false visits ≡ is_over first.unit first.has_begun visits
  over visits = sym (ap (λ (b : Bool). is_over first.unit b visits) is.begun)

  begins : (visits : List Visit) → HasShownUnit first new start now visits → new.has_begun ≡ begins_at first.unit visits
  begins visits shown = shown.begun ∙ ap (λ (b : Bool). b || begins_at first.unit visits) is.begun

  answers : (visits : List Visit) (damaged others : Option DamagedUnits) → damaged ≡ others
      → HasShownUnit first new start now visits → told_by new.has_begun new.damage damaged ≡ answer_of first.unit visits others
  answers visits damaged others same shown =
      ap (told_by new.has_begun new.damage) same
      ∙ ap₂ (λ (b : Bool) (d : Option Damage). told_by b d others) (begins visits shown)
      (shown.damage ∙ ap₂ (λ (d : Option Damage) (l : List Visit). option_or d (first_damage l)) is.damage (told visits))

  dumps_told : (b : Bool) (d : Option Damage) (damaged : Option DamagedUnits)
      → TellsUnit dialect (style_of first.dumper) first.unit limit bytes left start now (told_by b d damaged)
      → DumpsUnit dialect (style_of first.dumper) first.unit limit bytes left start now (told_by b d damaged)
  dumps_told b (Some damage) damaged tells = tells
  dumps_told true None damaged tells = tells
  dumps_told false None (Some units) tells = tells
  dumps_told false None None tells = tells

  -- all that is told of the unit was read
  pub dumps : (survey : Survey) → RanAround unit_story dialect limit bytes left first new start now (Ok survey)
      → DumpsUnit dialect (style_of first.dumper) first.unit limit bytes left start now
      (told_by new.has_begun new.damage survey.damaged)
  dumps survey (inl (blocks, rest, ends, settled)) =
      let visits = visits_around dialect blocks rest in
      dumps_told new.has_begun new.damage survey.damaged (
        blocks,
        rest,
        inl (survey, ends, over visits ∙ settled.tells.going),
        answers visits survey.damaged (damaged_units (faults_of blocks rest)) (ap (λ (v : Survey). v.damaged) ends.2)
            settled.tells.told,
        rw (← whole_text _) settled.out,
      )
  dumps survey (inr (blocks, others, cut, is_survey, settled)) =
      let visits = visits_around dialect blocks (begun []) in
      dumps_told new.has_begun new.damage survey.damaged (
        blocks,
        begun [],
        inr (others, refl, cut, over visits ∙ settled.tells.over),
        answers visits survey.damaged (damaged_units (faults_of blocks (begun []))) (ap (λ (v : Survey). v.damaged) is_survey)
            settled.tells.told,
        rw (← whole_text _) settled.out,
      )

  -- or there was a fault
  dumps_not : (f : RunFault) → RanAround unit_story dialect limit bytes left first new start now (Err f)
      → DumpsUnit dialect (style_of first.dumper) first.unit limit bytes left start now (Err f)
  dumps_not (fault.Write out) ran = (ran.0, ran.1, ran.2, ran.3, fronts _ out ran.4)
  dumps_not (fault.Damage offset kind) (blocks, rest, inl (ends, settled)) = absurd ends
  dumps_not f (blocks, rest, inl (ends, settled)) =
      (blocks, rest, ends, over (visits_around dialect blocks rest) ∙ settled.tells.going, rw (← whole_text _) settled.out)
  dumps_not f (blocks, rest, inr (others, cut, sound, stops)) = absurd stops.reason

  pub dumps_not_in : (style : DetailStyle) → style_of first.dumper ≡ style → (f : RunFault)
      → RanAround unit_story dialect limit bytes left first new start now (Err f)
      → DumpsUnit dialect style first.unit limit bytes left start now (Err f)
  dumps_not_in style same f ran =
      subst (λ (s : DetailStyle). DumpsUnit dialect s first.unit limit bytes left start now (Err f)) same (dumps_not f ran)

-- no read is blamed for what a unit is
pub never_read : (begins : Bool) (damage : Option Damage) (damaged : Option DamagedUnits)
    → told_by begins damage damaged ≡ Err fault.Read → ⊥
never_read begins (Some damage) damaged e = absurd cc
never_read true None damaged e = absurd cc
never_read false None (Some units) e = absurd cc
never_read false None None e = absurd cc

-- ---- when the bytes are over: no unit begins there, and none is damaged

pub none_begins : (begins : Bool) (damage : Option Damage) (damaged : Option DamagedUnits)
    → told_by begins damage damaged ≡ Ok NoUnit → (begins ≡ false) × (damaged ≡ None)
none_begins begins (Some damage) damaged e = absurd cc
none_begins true None damaged e = absurd cc
none_begins false None (Some units) e = absurd cc
none_begins false None None e = (refl, refl)

over_begun : (unit : ℕ) (has : Bool) (visits : List Visit) → is_over unit has visits ≡ true
    → (has || begins_at unit visits) ≡ true
over_begun unit has [] over = absurd (true≢false (sym over))
over_begun unit true (v ∷ visits) over = refl
over_begun unit false (v ∷ visits) over = over_begun unit (is_of unit false v) visits (by (ends_unit v) over) where
  by : (ends : Bool) → ((ends && false) || is_over unit (is_of unit false v) visits) ≡ true
      → is_over unit (is_of unit false v) visits ≡ true
  by true over = over
  by false over = over

-- a dumper that wants nothing more was told of the unit
pub only_over : (first new : UnitDumper) (start now : Option (List ℕ)) (Over : Type 0) → new.has_begun ≡ false
    → Over ⊎ WantsNoMore unit_story first new start now → Over
only_over first new start now Over none (inl over) = over
only_over first new start now Over none (inr (visits, ends)) =
    absurd (true≢false (sym (over_begun first.unit first.has_begun visits ends.over) ∙ sym ends.told.begun ∙ none))
