-- What the commands answer and write. bytes: what was read from a reader, which has `left` left. start, now: what the writer
-- held at first, and holds now. hears: it was told of these damaged units. DWARF 5, section 6.2.4.
use Rattle.std.specs.Prelude.{ℕ, List, Option, Result, Err, take}
use Rattle.std.specs.Io.KnownBytes.{Appends}
use Rattle.dl_head.specs.declared.dialect.Dialect.{Dialect}
use Rattle.dl_print.specs.declared.summary.Summary.{Summary}
use Rattle.dl_print.specs.ValueText.{Strings}
use Rattle.dl_sections.specs.declared.around.Damage.{Damage}
use Rattle.dl_sections.specs.declared.around.Survey.{Survey}
use Rattle.dl_sections.specs.declared.fault.RunFault.{RunFault}
use Rattle.dl_sections.specs.declared.fault.RunFault.TheVariants as fault
use Rattle.dl_sections.specs.Around.{Block, EndsAround, IsCutTo, Rest, faults_of, visits_around}
use Rattle.dl_sections.specs.RunOutput.{TellsOut}
use Rattle.dl_sections.specs.Section.{EndsAs, HasBegun, section_visits}
use Rattle.dl_dump_json.specs.SectionJson.{visits_json}

-- `dump_json`: the objects of the units, and of what follows them up to the fault
abbrev pub DumpsJson : Dialect → Strings → (limit : ℕ) (bytes : List ℕ) (left start now : Option (List ℕ))
    → Result Summary RunFault → Type 0
DumpsJson dialect strings limit bytes left start now (Err (fault.Write out)) =
    (units : List (List ℕ)) × (b : List ℕ) × (back : List ℕ) × HasBegun dialect (take limit bytes) units b back
    × TellsOut start now (visits_json strings (section_visits dialect units b)) (fault.Write out)
DumpsJson dialect strings limit bytes left start now result =
    (units : List (List ℕ)) × (b : List ℕ) × (back : List ℕ) × EndsAs dialect limit bytes left units b back result
    × Appends start now (visits_json strings (section_visits dialect units b))

-- `dump_json_around`: the objects of the units, of the damaged ones up to their faults
abbrev pub DumpsJsonAround : Dialect → Strings → (limit : ℕ) (bytes : List ℕ) (left start now : Option (List ℕ))
    → (hears : List Damage → Type 0) → Result Survey RunFault → Type 0
DumpsJsonAround dialect strings limit bytes left start now hears (Err (fault.Write out)) =
    (blocks : List Block) × (rest : Rest) × (others : List ℕ) × IsCutTo dialect (take limit bytes) blocks rest others
    × TellsOut start now (visits_json strings (visits_around dialect blocks rest)) (fault.Write out)
DumpsJsonAround dialect strings limit bytes left start now hears result =
    (blocks : List Block) × (rest : Rest) × EndsAround dialect limit bytes left blocks rest result
    × Appends start now (visits_json strings (visits_around dialect blocks rest)) × hears (faults_of blocks rest)
