-- What a dump in JSON is told and prints. No promise rests on this file.
use Rattle.std.specs.Prelude.{◌≡◌, ℕ, List, Option}
use Rattle.dl_print.specs.Output.{HasPrinted}
use Rattle.dl_print.specs.ValueText.{Strings, strings_of}
use Rattle.dl_sections.specs.declared.around.Damage.{Damage}
use Rattle.dl_sections.specs.DamageTold.{damages_told}
use Rattle.dl_sections.specs.Section.{Visit}
use Rattle.dl_sections.specs.Visiting.{Story}
use Rattle.dl_dump_json.specs.declared.dumping.JsonDumper.{JsonDumper}
use Rattle.dl_dump_json.specs.SectionJson.{visits_json}

abbrev pub strings_held : {D : Type 0} → JsonDumper D → Strings
strings_held d = strings_of d.strings.now

-- the objects of the visits are printed, by the same string sections, and damaged units are told
pub record HasDumped {D : Type 0} (hears : D → D → List Damage → Type 0) (first now : JsonDumper D)
    (start held : Option (List ℕ)) (visits : List Visit) : Type 0 where
  pub strings : strings_held now ≡ strings_held first
  pub damages : now.damages.ghost_name ≡ first.damages.ghost_name
  pub heard : hears first.damages.now now.damages.now (damages_told visits)
  pub printed : HasPrinted start held (visits_json (strings_held first) visits) now.printer.now

abbrev pub dump_story : {D : Type 0} → (D → D → List Damage → Type 0) → Story (JsonDumper D)
dump_story hears = record {
  text = λ first visits. visits_json (strings_held first) visits;
  tells = HasDumped hears;
  is_done = λ first now start held visits. ⊥;
  refuses = λ first visits fault. ⊥;
}
