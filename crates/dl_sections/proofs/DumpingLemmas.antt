-- How a dump goes on, and what it comes to.
use Rattle.dl_sections.proofs.Names.{◌++◌, ◌∷◌, ◌≡◌, [], append-nil, Dialect, dump_story, Dumper, Dumps, ends, Err}
use Rattle.dl_sections.proofs.Names.{flat_map, flat_map-append, HasDumped, inl, inr, List, Ok, Option, Prints}
use Rattle.dl_sections.proofs.Names.{Ran, refl, Result, RunFault, StopsIn, style_of, Summary, Visit, visit_text}
use Rattle.dl_sections.proofs.Names.{visits_text, Write, WriteFault, ℕ, ⊤}
use Rattle.dl_sections.proofs.Names.{◌∙◌, sym}
use Rattle.dl_sections.proofs.Names.fault
use Rattle.dl_sections.specs.declared.around.Damage.{Damage}
use Rattle.dl_sections.specs.declared.around.Survey.{Survey}
use Rattle.dl_sections.specs.Around.{Block, faults_of, RanAround, Rest, visits_around}
use Rattle.dl_sections.specs.AroundCommands.{DumpsAround}
use Rattle.dl_sections.specs.DamageTold.{damage_of_visit}
use Rattle.dl_sections.proofs.DamageLemmas.{damages_around}
use Rattle.dl_sections.proofs.OutLemmas.{TellsOut-more}

module _ {D : Type 0} {hears : D → D → List Damage → Type 0} {first old : Dumper D} {start before : Option (List ℕ)}
    {visits : List Visit} (dumped : HasDumped hears first old start before visits) (new : Dumper D) (after : Option (List ℕ)) (v : Visit) where
  text_more : visits_text (style_of first) (visits ++ v ∷ [])
      ≡ visits_text (style_of first) visits ++ visit_text (style_of first) v
  text_more = rw (flat_map-append (visit_text (style_of first)) visits (v ∷ []), append-nil) refl

  -- the text of a visit is printed
  pub prints_visit : Prints {A = ⊤} before after old.printer.now new.printer.now (visit_text (style_of old) v)
      (Ok tt) → style_of new ≡ style_of old → new.damages ≡ old.damages → damage_of_visit v ≡ []
      → HasDumped hears first new start after (visits ++ v ∷ [])
  prints_visit prints style damages quiet = record {
    style = style ∙ dumped.style;
    damages = rw damages dumped.damages;
    heard = rw (damages, flat_map-append damage_of_visit visits (v ∷ []), quiet, append-nil) dumped.heard;
    printed = rw text_more
        (rw dumped.style at (prints start (visits_text (style_of first) visits) dumped.printed));
  }

  -- or a write failed
  pub loses_visit : (f : WriteFault)
      → Prints {A = ⊤} before after old.printer.now new.printer.now (visit_text (style_of old) v) (Err f)
      → StopsIn (dump_story hears) first new start after visits (v ∷ []) (fault.Write f.out)
  loses_visit f loses = (
    v ∷ [],
    [],
    refl,
    rw text_more (rw dumped.style at (loses start (visits_text (style_of first) visits) dumped.printed)),
  )

-- a visit without text
pub prints_nothing : {D : Type 0} {hears : D → D → List Damage → Type 0} {first old : Dumper D} {start held : Option (List ℕ)}
    {visits : List Visit} → HasDumped hears first old start held visits → (v : Visit) → visit_text (style_of first) v ≡ []
    → damage_of_visit v ≡ [] → HasDumped hears first old start held (visits ++ v ∷ [])
prints_nothing {first = first} {visits = visits} dumped v none quiet = record {
  style = dumped.style;
  damages = dumped.damages;
  heard = rw (flat_map-append damage_of_visit visits (v ∷ []), quiet, append-nil) dumped.heard;
  printed = rw (flat_map-append (visit_text (style_of first)) visits (v ∷ []), none, append-nil) dumped.printed;
}

module _ {D : Type 0} (hears : D → D → List Damage → Type 0) (dialect : Dialect) (limit : ℕ) (bytes : List ℕ)
    (left : Option (List ℕ)) (first new : Dumper D) (start now : Option (List ℕ)) where
  -- what is out of the text of some visits is out of that of all
  pub dumps : (result : Result Summary RunFault) → Ran (dump_story hears) dialect limit bytes left first new start now result
      → Dumps dialect (style_of first) limit bytes left start now result
  dumps (Ok summary) (inl (units, ends, settled)) = (units, [], [], ends, settled.out)
  dumps (Ok summary) (inr done) = absurd done.4.tells
  dumps (Err (fault.Write out)) ran =
      let text = visit_text (style_of first) in (
        ran.0,
        ran.1,
        ran.2,
        ran.3,
        rw (ran.4.2, flat_map-append text ran.4.0 ran.4.1)
            (TellsOut-more start now (flat_map text ran.4.0) (flat_map text ran.4.1) (fault.Write out) ran.4.3),
      )
  dumps (Err f) (units, b, back, inl (ends, settled)) = (units, b, back, ends, settled.out)
  dumps (Err f) (units, b, back, inr (has, sound, stops)) = absurd stops.reason

  -- around damaged units; w: what was told of them, where it is still held
  module _ (w : D) (held : first.damages.ghost_name ≡ new.damages.ghost_name → w ≡ new.damages.now) where
    told_of : (blocks : List Block) (rest : Rest) → HasDumped hears first new start now (visits_around dialect blocks rest)
        → hears first.damages.now w (faults_of blocks rest)
    told_of blocks rest told = rw (held (sym told.damages)) (rw (damages_around dialect blocks rest) at told.heard)

    pub dumps_around : (result : Result Survey RunFault)
        → RanAround (dump_story hears) dialect limit bytes left first new start now result
        → DumpsAround dialect (style_of first) limit bytes left start now (hears first.damages.now w) result
    dumps_around (Ok survey) (inl (blocks, rest, ends, settled)) =
        (blocks, rest, ends, settled.out, told_of blocks rest settled.tells)
    dumps_around (Ok survey) (inr done) = absurd done.4.tells
    dumps_around (Err (fault.Write out)) ran =
        let text = visit_text (style_of first) in (
          ran.0,
          ran.1,
          ran.2,
          ran.3,
          rw (ran.4.2, flat_map-append text ran.4.0 ran.4.1)
              (TellsOut-more start now (flat_map text ran.4.0) (flat_map text ran.4.1) (fault.Write out) ran.4.3),
        )
    dumps_around (Err f) (blocks, rest, inl (ends, settled)) =
        (blocks, rest, ends, settled.out, told_of blocks rest settled.tells)
    dumps_around (Err f) (blocks, rest, inr (others, cut, sound, stops)) = absurd stops.reason
