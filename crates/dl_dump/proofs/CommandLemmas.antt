-- What the text of a section with details comes to.
use Rattle.std.proofs.Common.{◌≡◌, ◌∙◌, ℕ, List, [], Option, Result, Ok, Err, inl, inr, sym, ap, subst}
use Rattle.dl_head.specs.declared.dialect.Dialect.{Dialect}
use Rattle.dl_print.specs.declared.summary.Summary.{Summary}
use Rattle.dl_sections.specs.Around.{Block, RanAround, Rest, faults_of, visits_around}
use Rattle.dl_sections.specs.declared.around.Damage.{Damage}
use Rattle.dl_sections.specs.declared.around.Survey.{Survey}
use Rattle.dl_sections.specs.declared.fault.RunFault.{RunFault}
use Rattle.dl_sections.specs.declared.fault.RunFault.TheVariants as fault
use Rattle.dl_sections.specs.RunOutput.{TellsOut}
use Rattle.dl_sections.specs.Section.{Visit}
use Rattle.dl_sections.specs.Visiting.{Ran, WritesFront}
use Rattle.dl_sections.proofs.DamageLemmas.{damages_around}
use Rattle.dl_sections.proofs.OutLemmas.{TellsOut-more}
use Rattle.dl_dump.specs.declared.dumping.Dumper.{Dumper}
use Rattle.dl_dump.specs.Commands.{DumpsDetails, DumpsDetailsAround}
use Rattle.dl_dump.specs.DetailText.{details_text, reached_after, shown_after}
use Rattle.dl_dump.specs.Dumping.{HasShown, dump_story, style_of}
use Rattle.dl_dump.specs.Reached.{before_units}
use Rattle.dl_dump.proofs.ShowingLemmas.{shown-append}

module _ {D : Type 0} (hears : D → D → List Damage → Type 0) (dialect : Dialect) (limit : ℕ) (bytes : List ℕ)
    (left : Option (List ℕ)) (first new : Dumper D) (start now : Option (List ℕ)) (before : first.at ≡ before_units) where
  whole_text : (visits : List Visit)
      → shown_after (style_of first) first.at visits ≡ details_text (style_of first) visits
  whole_text visits = ap (λ (at : _). shown_after (style_of first) at visits) before

  -- what is out of the text of some visits is out of that of all
  fronts : (visits : List Visit) (out : ℕ) → WritesFront (dump_story hears) first start now visits (fault.Write out)
      → TellsOut start now (details_text (style_of first) visits) (fault.Write out)
  fronts visits out writes =
      let style = style_of first in
      let more = shown_after style (reached_after style first.at writes.0) writes.1 in
      subst (λ (l : List ℕ). TellsOut start now l (fault.Write out))
      (sym (shown-append style first.at writes.0 writes.1)
      ∙ ap (shown_after style first.at) (sym writes.2) ∙ whole_text visits)
      (TellsOut-more start now (shown_after style first.at writes.0) more (fault.Write out) writes.3)

  pub dumps : (result : Result Summary RunFault) → Ran (dump_story hears) dialect limit bytes left first new start now result
      → DumpsDetails dialect (style_of first) limit bytes left start now result
  dumps (Ok summary) (inl (units, ends, settled)) = (units, [], [], ends, rw (← whole_text _) settled.out)
  dumps (Ok summary) (inr done) = absurd done.4.tells
  dumps (Err (fault.Write out)) ran = (ran.0, ran.1, ran.2, ran.3, fronts _ out ran.4)
  dumps (Err f) (units, b, back, inl (ends, settled)) = (units, b, back, ends, rw (← whole_text _) settled.out)
  dumps (Err f) (units, b, back, inr (has, sound, stops)) = absurd stops.reason

  -- around damaged units; w: what was told of them, where it is still held
  module _ (w : D) (held : first.damages.ghost_name ≡ new.damages.ghost_name → w ≡ new.damages.now) where
    told_of : (blocks : List Block) (rest : Rest) → HasShown hears first new start now (visits_around dialect blocks rest)
        → hears first.damages.now w (faults_of blocks rest)
    told_of blocks rest told = rw (held (sym told.damages)) (rw (damages_around dialect blocks rest) at told.heard)

    pub dumps_around : (result : Result Survey RunFault)
        → RanAround (dump_story hears) dialect limit bytes left first new start now result
        → DumpsDetailsAround dialect (style_of first) limit bytes left start now (hears first.damages.now w) result
    dumps_around (Ok survey) (inl (blocks, rest, ends, settled)) =
        (blocks, rest, ends, rw (← whole_text _) settled.out, told_of blocks rest settled.tells)
    dumps_around (Ok survey) (inr done) = absurd done.4.tells
    dumps_around (Err (fault.Write out)) ran = (ran.0, ran.1, ran.2, ran.3, fronts _ out ran.4)
    dumps_around (Err f) (blocks, rest, inl (ends, settled)) =
        (blocks, rest, ends, rw (← whole_text _) settled.out, told_of blocks rest settled.tells)
    dumps_around (Err f) (blocks, rest, inr (others, cut, sound, stops)) = absurd stops.reason
