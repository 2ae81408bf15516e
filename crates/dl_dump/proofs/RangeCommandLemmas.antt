-- What the text of the sequences of a range comes to.
use Rattle.std.proofs.Common.{◌≡◌, ◌∙◌, ◌++◌, ◌∷◌, ◌+◌, ℕ, List, [], Option, Result, Ok, Err, inl, inr, refl, sym, ap, subst, length}
use Rattle.dl_head.specs.declared.dialect.Dialect.{Dialect}
use Rattle.dl_memory.specs.Refusals.{IsRefused}
use Rattle.dl_print.specs.declared.summary.Summary.{Summary}
use Rattle.dl_sections.specs.Around.{Block, RanAround, Rest, faults_of, visits_around}
use Rattle.dl_sections.specs.declared.around.Damage.{Damage}
use Rattle.dl_sections.specs.declared.around.Survey.{Survey}
use Rattle.dl_sections.specs.declared.fault.RunFault.{RunFault}
use Rattle.dl_sections.specs.declared.fault.RunFault.TheVariants as fault
use Rattle.dl_sections.specs.RunOutput.{TellsOut}
use Rattle.dl_sections.specs.Section.{Visit}
use Rattle.dl_sections.specs.Visiting.{Ran, VisitorStops, WritesFront}
use Rattle.dl_sections.proofs.DamageLemmas.{damages_around}
use Rattle.dl_sections.proofs.OutLemmas.{TellsOut-more}
use Rattle.dl_dump.specs.declared.range_dumping.RangeDumper.{RangeDumper}
use Rattle.dl_dump.specs.RangeCommands.{DumpsRange, DumpsRangeAround, StopsAtRow}
use Rattle.dl_dump.specs.RangeDumping.{HasRanged, range_story, style_held}
use Rattle.dl_dump.specs.RangeText.{before_sequences, held_along, range_along, range_text, sequence_along}
use Rattle.dl_dump.proofs.RangeLemmas.{range-append}

-- all visits but the last one
abbrev but_last : List Visit → List Visit
but_last [] = []
but_last (a ∷ []) = []
but_last (a ∷ b ∷ visits) = a ∷ but_last (b ∷ visits)

but_last-snoc : (visits : List Visit) (v : Visit) → but_last (visits ++ v ∷ []) ≡ visits
but_last-snoc [] v = refl
but_last-snoc (a ∷ []) v = refl
but_last-snoc (a ∷ b ∷ visits) v = ap (λ (l : List Visit). a ∷ l) (but_last-snoc (b ∷ visits) v)

same_before : (a b : List Visit) (v w : Visit) → a ++ v ∷ [] ≡ b ++ w ∷ [] → b ≡ a
same_before a b v w same = sym (but_last-snoc b w) ∙ ap but_last (sym same) ∙ but_last-snoc a v

module _ {M D : Type 0} (hears : D → D → List Damage → Type 0) (refuses : M → ℕ → Type 0) (dialect : Dialect) (limit : ℕ)
    (bytes : List ℕ) (left : Option (List ℕ)) (first new : RangeDumper M D) (start now : Option (List ℕ)) where
  -- what is out of the text of some visits is out of that of all
  fronts : (visits : List Visit) (out : ℕ) → WritesFront (range_story hears refuses) first start now visits (fault.Write out)
      → TellsOut start now (range_text (style_held first) first.range visits) (fault.Write out)
  fronts visits out writes =
      let style = style_held first in
      let range = first.range in
      let more = range_along style range (sequence_along style range before_sequences writes.0) writes.1 in
      subst (λ (l : List ℕ). TellsOut start now l (fault.Write out))
      (sym (range-append style range before_sequences writes.0 writes.1)
      ∙ ap (range_text style range) (sym writes.2))
      (TellsOut-more start now (range_text style range writes.0) more (fault.Write out) writes.3)

  -- memory was refused
  stops_at : (visits : List Visit)
      → VisitorStops (range_story hears refuses) first new start now visits fault.NoMemory
      → StopsAtRow (refuses first.memory.now) (style_held first) first.range start now visits
  stops_at visits stops =
      let wants = stops.reason.1 in
      record {
        before = stops.before;
        row = stops.visit;
        others = stops.more;
        whole = stops.whole;
        refused = subst (λ (l : List Visit). IsRefused (refuses first.memory.now)
            (length (held_along (style_held first) first.range l) + 1))
            (same_before stops.before wants.0 stops.visit wants.1 wants.2) wants.3;
        out = stops.out;
      }

  pub dumps : (result : Result Summary RunFault)
      → Ran (range_story hears refuses) dialect limit bytes left first new start now result
      → DumpsRange (refuses first.memory.now) dialect (style_held first) first.range limit bytes left start now result
  dumps (Ok summary) (inl (units, ends, settled)) = (units, [], [], ends, settled.out)
  dumps (Ok summary) (inr done) = absurd done.4.tells
  dumps (Err (fault.Write out)) ran = (ran.0, ran.1, ran.2, ran.3, fronts _ out ran.4)
  dumps (Err fault.NoMemory) (units, b, back, inl (ends, settled)) = (units, b, back, inl (ends, settled.out))
  dumps (Err fault.NoMemory) (units, b, back, inr (has, sound, stops)) = (units, b, back, inr (has, stops_at _ stops))
  dumps (Err f) (units, b, back, inl (ends, settled)) = (units, b, back, ends, settled.out)
  dumps (Err fault.Read) (units, b, back, inr (has, sound, stops)) = let e = stops.reason.0 in absurd cc
  dumps (Err (fault.Damage offset kind)) (units, b, back, inr (has, sound, stops)) = let e = stops.reason.0 in absurd cc
  dumps (Err fault.SectionTooLong) (units, b, back, inr (has, sound, stops)) = let e = stops.reason.0 in absurd cc
  dumps (Err fault.NotFound) (units, b, back, inr (has, sound, stops)) = let e = stops.reason.0 in absurd cc
  dumps (Err fault.TwoSums) (units, b, back, inr (has, sound, stops)) = let e = stops.reason.0 in absurd cc
  dumps (Err fault.NoUnit) (units, b, back, inr (has, sound, stops)) = let e = stops.reason.0 in absurd cc
  dumps (Err (fault.ForeignUnit unit)) (units, b, back, inr (has, sound, stops)) = let e = stops.reason.0 in absurd cc
  dumps (Err (fault.Emit unit f)) (units, b, back, inr (has, sound, stops)) = let e = stops.reason.0 in absurd cc

  -- around damaged units; w: what was told of them, where it is still held
  module _ (w : D) (held : first.damages.ghost_name ≡ new.damages.ghost_name → w ≡ new.damages.now) where
    told_of : (blocks : List Block) (rest : Rest)
        → HasRanged hears refuses first new start now (visits_around dialect blocks rest)
        → hears first.damages.now w (faults_of blocks rest)
    told_of blocks rest told = rw (held (sym told.damages)) (rw (damages_around dialect blocks rest) at told.heard)

    pub dumps_around : (result : Result Survey RunFault)
        → RanAround (range_story hears refuses) dialect limit bytes left first new start now result
        → DumpsRangeAround (refuses first.memory.now) dialect (style_held first) first.range limit bytes left start now
        (hears first.damages.now w) result
    dumps_around (Ok survey) (inl (blocks, rest, ends, settled)) =
        (blocks, rest, ends, settled.out, told_of blocks rest settled.tells)
    dumps_around (Ok survey) (inr done) = absurd done.4.tells
    dumps_around (Err (fault.Write out)) ran = (ran.0, ran.1, ran.2, ran.3, fronts _ out ran.4)
    dumps_around (Err fault.NoMemory) (blocks, rest, inl (ends, settled)) =
        (blocks, rest, inl (ends, settled.out, told_of blocks rest settled.tells))
    dumps_around (Err fault.NoMemory) (blocks, rest, inr (others, cut, sound, stops)) =
        (blocks, rest, inr (others, cut, stops_at _ stops))
    dumps_around (Err f) (blocks, rest, inl (ends, settled)) =
        (blocks, rest, ends, settled.out, told_of blocks rest settled.tells)
    dumps_around (Err fault.Read) (blocks, rest, inr (others, cut, sound, stops)) = let e = stops.reason.0 in absurd cc
    dumps_around (Err (fault.Damage offset kind)) (blocks, rest, inr (others, cut, sound, stops)) =
        let e = stops.reason.0 in absurd cc
    dumps_around (Err fault.SectionTooLong) (blocks, rest, inr (others, cut, sound, stops)) =
        let e = stops.reason.0 in absurd cc
    dumps_around (Err fault.NotFound) (blocks, rest, inr (others, cut, sound, stops)) = let e = stops.reason.0 in absurd cc
    dumps_around (Err fault.TwoSums) (blocks, rest, inr (others, cut, sound, stops)) = let e = stops.reason.0 in absurd cc
    dumps_around (Err fault.NoUnit) (blocks, rest, inr (others, cut, sound, stops)) = let e = stops.reason.0 in absurd cc
    dumps_around (Err (fault.ForeignUnit unit)) (blocks, rest, inr (others, cut, sound, stops)) =
        let e = stops.reason.0 in absurd cc
    dumps_around (Err (fault.Emit unit f)) (blocks, rest, inr (others, cut, sound, stops)) =
        let e = stops.reason.0 in absurd cc
