-- How a dump in JSON goes on, and what it comes to.
use Rattle.std.proofs.Common.{◌≡◌, ◌∙◌, ◌++◌, ◌∷◌, ℕ, List, [], Option, Result, Ok, Err, inl, inr, refl, sym, append-nil}
use Rattle.std.specs.List.{flat_map}
use Rattle.std.specs.Prelude.{⊤}
use Rattle.std.proofs.lemmas.List.Concat.{flat_map-append}
use Rattle.dl_head.specs.declared.dialect.Dialect.{Dialect}
use Rattle.dl_print.specs.Output.{Prints}
use Rattle.dl_print.specs.declared.fault.WriteFault.{WriteFault}
use Rattle.dl_print.specs.declared.summary.Summary.{Summary}
use Rattle.dl_sections.specs.Around.{Block, RanAround, Rest, faults_of, visits_around}
use Rattle.dl_sections.specs.DamageTold.{damage_of_visit}
use Rattle.dl_sections.specs.Section.{Visit}
use Rattle.dl_sections.specs.Visiting.{Ran, StopsIn}
use Rattle.dl_sections.specs.declared.around.Damage.{Damage}
use Rattle.dl_sections.specs.declared.around.Survey.{Survey}
use Rattle.dl_sections.specs.declared.fault.RunFault.{RunFault}
use Rattle.dl_sections.specs.declared.fault.RunFault.TheVariants as fault
use Rattle.dl_sections.proofs.DamageLemmas.{damages_around}
use Rattle.dl_sections.proofs.OutLemmas.{TellsOut-more}
use Rattle.dl_dump_json.specs.declared.dumping.JsonDumper.{JsonDumper}
use Rattle.dl_dump_json.specs.Commands.{DumpsJson, DumpsJsonAround}
use Rattle.dl_dump_json.specs.Dumping.{HasDumped, dump_story, strings_held}
use Rattle.dl_dump_json.specs.SectionJson.{visit_json, visits_json}

module _ {D : Type 0} {hears : D → D → List Damage → Type 0} {first old : JsonDumper D} {start before : Option (List ℕ)}
    {visits : List Visit} (dumped : HasDumped hears first old start before visits) (new : JsonDumper D)
    (after : Option (List ℕ)) (v : Visit) where
  text_more : visits_json (strings_held first) (visits ++ v ∷ [])
      ≡ visits_json (strings_held first) visits ++ visit_json (strings_held first) v
  text_more = rw (flat_map-append (visit_json (strings_held first)) visits (v ∷ []), append-nil) refl

  -- the object of a visit is printed
  pub prints_visit : Prints {A = ⊤} before after old.printer.now new.printer.now (visit_json (strings_held old) v) (Ok tt)
      → strings_held new ≡ strings_held old → new.damages ≡ old.damages → damage_of_visit v ≡ []
      → HasDumped hears first new start after (visits ++ v ∷ [])
  prints_visit prints strings damages quiet = record {
    strings = strings ∙ dumped.strings;
    damages = rw damages dumped.damages;
    heard = rw (damages, flat_map-append damage_of_visit visits (v ∷ []), quiet, append-nil) dumped.heard;
    printed = rw text_more
        (rw dumped.strings at (prints start (visits_json (strings_held first) visits) dumped.printed));
  }

  -- or a write failed
  pub loses_visit : (f : WriteFault)
      → Prints {A = ⊤} before after old.printer.now new.printer.now (visit_json (strings_held old) v) (Err f)
      → StopsIn (dump_story hears) first new start after visits (v ∷ []) (fault.Write f.out)
  loses_visit f loses = (
    v ∷ [],
    [],
    refl,
    rw text_more (rw dumped.strings at (loses start (visits_json (strings_held first) visits) dumped.printed)),
  )

-- a visit without an object
pub prints_nothing : {D : Type 0} {hears : D → D → List Damage → Type 0} {first old : JsonDumper D}
    {start held : Option (List ℕ)} {visits : List Visit} → HasDumped hears first old start held visits → (v : Visit)
    → visit_json (strings_held first) v ≡ [] → damage_of_visit v ≡ []
    → HasDumped hears first old start held (visits ++ v ∷ [])
prints_nothing {first = first} {visits = visits} dumped v none quiet = record {
  strings = dumped.strings;
  damages = dumped.damages;
  heard = rw (flat_map-append damage_of_visit visits (v ∷ []), quiet, append-nil) dumped.heard;
  printed =
      rw (flat_map-append (visit_json (strings_held first)) visits (v ∷ []), none, append-nil) dumped.printed;
}

module _ {D : Type 0} (hears : D → D → List Damage → Type 0) (dialect : Dialect) (limit : ℕ) (bytes : List ℕ)
    (left : Option (List ℕ)) (first new : JsonDumper D) (start now : Option (List ℕ)) where
  -- what is out of the text of some visits is out of that of all
  pub dumps : (result : Result Summary RunFault) → Ran (dump_story hears) dialect limit bytes left first new start now result
      → DumpsJson dialect (strings_held first) limit bytes left start now result
  dumps (Ok summary) (inl (units, ends, settled)) = (units, [], [], ends, settled.out)
  dumps (Ok summary) (inr done) = absurd done.4.tells
  dumps (Err (fault.Write out)) ran =
      let text = visit_json (strings_held first) in (
        ran.0,
        ran.1,
        ran.2,
        ran.3,
        rw (ran.4.2, flat_map-append text ran.4.0 ran.4.1)
            (TellsOut-more start now (flat_map text ran.4.0) (flat_map text ran.4.1) (fault.Write out) ran.4.3),
      )
  dumps (Err f) (units, b, back, inl (ends, settled)) = (units, b, back, ends, settled.out)
  dumps (Err f) (units, b, back, inr (has, sound, stops)) = absurd stops.reason

  -- around damaged units; w: what was told of them, where it is still held
  module _ (w : D) (held : first.damages.ghost_name ≡ new.damages.ghost_name → w ≡ new.damages.now) where
    told_of : (blocks : List Block) (rest : Rest) → HasDumped hears first new start now (visits_around dialect blocks rest)
        → hears first.damages.now w (faults_of blocks rest)
    told_of blocks rest told = rw (held (sym told.damages)) (rw (damages_around dialect blocks rest) at told.heard)

    pub dumps_around : (result : Result Survey RunFault)
        → RanAround (dump_story hears) dialect limit bytes left first new start now result
        → DumpsJsonAround dialect (strings_held first) limit bytes left start now (hears first.damages.now w) result
    dumps_around (Ok survey) (inl (blocks, rest, ends, settled)) =
        (blocks, rest, ends, settled.out, told_of blocks rest settled.tells)
    dumps_around (Ok survey) (inr done) = absurd done.4.tells
    dumps_around (Err (fault.Write out)) ran =
        let text = visit_json (strings_held first) in (
          ran.0,
          ran.1,
          ran.2,
          ran.3,
          rw (ran.4.2, flat_map-append text ran.4.0 ran.4.1)
              (TellsOut-more start now (flat_map text ran.4.0) (flat_map text ran.4.1) (fault.Write out) ran.4.3),
        )
    dumps_around (Err f) (blocks, rest, inl (ends, settled)) =
        (blocks, rest, ends, settled.out, told_of blocks rest settled.tells)
    dumps_around (Err f) (blocks, rest, inr (others, cut, sound, stops)) = absurd stops.reason
