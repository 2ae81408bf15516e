-- What the commands answer and write that go on after damaged units. bytes: what was read from a reader, which has `left`
-- left. start, now: what the writer held at first, and holds now. hears: it was told of these damaged units. DWARF 5,
-- section 6.2.4.
use Rattle.std.specs.Prelude.{ℕ, List, Option, Some, None, Result, Ok, Err, take}
use Rattle.std.specs.Io.KnownBytes.{Appends, Keeps}
use Rattle.dl_head.specs.declared.dialect.Dialect.{Dialect}
use Rattle.dl_print.specs.Counts.{add}
use Rattle.dl_print.specs.Text.{survey_line}
use Rattle.dl_sections.specs.declared.around.Damage.{Damage}
use Rattle.dl_sections.specs.declared.around.DamagedUnits.{DamagedUnits}
use Rattle.dl_sections.specs.declared.around.Survey.{Survey}
use Rattle.dl_sections.specs.declared.fault.RunFault.{RunFault}
use Rattle.dl_sections.specs.declared.fault.RunFault.TheVariants as fault
use Rattle.dl_sections.specs.Around.{Block, Rest, IsCutTo, EndsAround, faults_of, visits_around}
use Rattle.dl_sections.specs.RunOutput.{TellsOut}
use Rattle.dl_sections.specs.SectionText.{DumpStyle, visits_text}

-- how many units are damaged, as far as 64 bits hold it
abbrev pub how_many : Option DamagedUnits → ℕ
how_many None = 0
how_many (Some damaged) = add damaged.others 1

abbrev pub counts_line : Survey → List ℕ
counts_line survey = survey_line survey.summary (how_many survey.damaged)

-- `check_around`: the line of the counts where the section is read to its end, else nothing
abbrev pub ChecksAround : Dialect → (limit : ℕ) (bytes : List ℕ) (left start now : Option (List ℕ))
    → (hears : List Damage → Type 0) → Result Survey RunFault → Type 0
ChecksAround dialect limit bytes left start now hears (Ok survey) =
    (blocks : List Block) × (rest : Rest) × EndsAround dialect limit bytes left blocks rest (Ok survey)
    × Appends start now (counts_line survey) × hears (faults_of blocks rest)
ChecksAround dialect limit bytes left start now hears (Err (fault.Write out)) =
    (blocks : List Block) × (rest : Rest) × (survey : Survey) × EndsAround dialect limit bytes left blocks rest (Ok survey)
    × TellsOut start now (counts_line survey) (fault.Write out) × hears (faults_of blocks rest)
ChecksAround dialect limit bytes left start now hears (Err f) =
    (blocks : List Block) × (rest : Rest) × EndsAround dialect limit bytes left blocks rest (Err f)
    × Keeps start now × hears (faults_of blocks rest)

-- the text of blocks, and of what follows them up to its fault
abbrev pub text_around : Dialect → DumpStyle → List Block → Rest → List ℕ
text_around dialect style blocks rest = visits_text style (visits_around dialect blocks rest)

-- `dump_around`: the text of the units, of the damaged ones up to their faults
abbrev pub DumpsAround : Dialect → DumpStyle → (limit : ℕ) (bytes : List ℕ) (left start now : Option (List ℕ))
    → (hears : List Damage → Type 0) → Result Survey RunFault → Type 0
DumpsAround dialect style limit bytes left start now hears (Err (fault.Write out)) =
    (blocks : List Block) × (rest : Rest) × (others : List ℕ) × IsCutTo dialect (take limit bytes) blocks rest others
    × TellsOut start now (text_around dialect style blocks rest) (fault.Write out)
DumpsAround dialect style limit bytes left start now hears result =
    (blocks : List Block) × (rest : Rest) × EndsAround dialect limit bytes left blocks rest result
    × Appends start now (text_around dialect style blocks rest) × hears (faults_of blocks rest)
