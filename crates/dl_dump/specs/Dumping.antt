-- What a dump with details is told and prints. No promise rests on this file.
use Rattle.std.specs.Prelude.{◌≡◌, ℕ, List, Option}
use Rattle.dl_print.specs.Output.{HasPrinted}
use Rattle.dl_print.specs.ValueText.{strings_of}
use Rattle.dl_sections.specs.declared.around.Damage.{Damage}
use Rattle.dl_sections.specs.DamageTold.{damages_told}
use Rattle.dl_sections.specs.Section.{Visit}
use Rattle.dl_sections.specs.Visiting.{Story}
use Rattle.dl_dump.specs.declared.dumping.Dumper.{Dumper}
use Rattle.dl_dump.specs.DetailText.{DetailStyle, reached_after, shown_after}

abbrev pub style_of : {D : Type 0} → Dumper D → DetailStyle
style_of d = record { details = d.details.now; strings = strings_of d.strings.now }

-- the text of the visits is printed in the same style, and damaged units are told
pub record HasShown {D : Type 0} (hears : D → D → List Damage → Type 0) (first now : Dumper D)
    (start held : Option (List ℕ)) (visits : List Visit) : Type 0 where
  pub style : style_of now ≡ style_of first
  pub damages : now.damages.ghost_name ≡ first.damages.ghost_name
  pub heard : hears first.damages.now now.damages.now (damages_told visits)
  pub reached : now.at ≡ reached_after (style_of first) first.at visits
  pub printed : HasPrinted start held (shown_after (style_of first) first.at visits) now.printer.now

abbrev pub dump_story : {D : Type 0} → (D → D → List Damage → Type 0) → Story (Dumper D)
dump_story hears = record {
  text = λ first visits. shown_after (style_of first) first.at visits;
  tells = HasShown hears;
  is_done = λ first now start held visits. ⊥;
  refuses = λ first visits fault. ⊥;
}
