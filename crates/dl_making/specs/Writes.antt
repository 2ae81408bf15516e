-- What the writing of an index comes to. bytes: what was read from a reader, which has `left` left. start, now: what the
-- writer held at first, and holds now. None: it isn't known. refuses: for how many items memory is refused.
use Rattle.std.specs.Prelude.{ℕ, List, [], Option, Result, Ok, Err}
use Rattle.std.specs.Io.KnownBytes.{Appends, Keeps}
use Rattle.dl_head.specs.declared.dialect.Dialect.{Dialect}
use Rattle.dl_print.specs.declared.summary.Summary.{Summary}
use Rattle.dl_print.specs.Output.{TellsOut}
use Rattle.dl_print.specs.ValueText.{Strings}
use Rattle.dl_sections.specs.declared.around.Survey.{Survey}
use Rattle.dl_sections.specs.declared.fault.RunFault.{RunFault}
use Rattle.dl_sections.specs.declared.fault.RunFault.TheVariants as fault
use Rattle.dl_sections.specs.Around.{Block, Rest, EndsAround}
use Rattle.dl_sections.specs.Section.{EndsAs}
use Rattle.dl_making.specs.declared.making.Table.{Table}
use Rattle.dl_making.specs.IsIndexOf.{IsIndexOf}
use Rattle.dl_making.specs.Makes.{Makes, MakesAround, id_kept, told_around, told_in}

-- the reading ends so, and this is the index of what it told
abbrev pub IsMade : Dialect → Strings → Table → (limit : ℕ) (bytes : List ℕ) (left : Option (List ℕ)) → Summary
    → (index : List ℕ) → Type 0
IsMade dialect s table limit bytes left summary index =
    (units : List (List ℕ)) × EndsAs dialect limit bytes left units [] [] (Ok summary)
    × IsIndexOf table.all (id_kept table) (told_in dialect s table units) index

-- `write_index`: the index is written whole; or a write failed; or nothing is written, and none could be made
abbrev pub Writes : (refuses : ℕ → Type 0) → Dialect → Strings → Table → (limit : ℕ) (bytes : List ℕ) (left start now : Option (List ℕ))
    → Result Summary RunFault → Type 0
Writes refuses dialect s table limit bytes left start now (Ok summary) =
    (index : List ℕ) × IsMade dialect s table limit bytes left summary index × Appends start now index
Writes refuses dialect s table limit bytes left start now (Err (fault.Write out)) =
    (summary : Summary) × (index : List ℕ) × IsMade dialect s table limit bytes left summary index
    × TellsOut start now index (record { out = out })
Writes refuses dialect s table limit bytes left start now (Err f) =
    Makes refuses dialect s table limit bytes left (Err f) × Keeps start now

-- the same of a section with damaged units
abbrev pub IsMadeAround : Dialect → Strings → Table → (limit : ℕ) (bytes : List ℕ) (left : Option (List ℕ)) → Survey
    → (index : List ℕ) → Type 0
IsMadeAround dialect s table limit bytes left survey index =
    (blocks : List Block) × (rest : Rest) × EndsAround dialect limit bytes left blocks rest (Ok survey)
    × IsIndexOf table.all (id_kept table) (told_around dialect s table blocks) index

-- `write_index_around`
abbrev pub WritesAround : (refuses : ℕ → Type 0) → Dialect → Strings → Table → (limit : ℕ) (bytes : List ℕ) (left start now : Option (List ℕ))
    → Result Survey RunFault → Type 0
WritesAround refuses dialect s table limit bytes left start now (Ok survey) =
    (index : List ℕ) × IsMadeAround dialect s table limit bytes left survey index × Appends start now index
WritesAround refuses dialect s table limit bytes left start now (Err (fault.Write out)) =
    (survey : Survey) × (index : List ℕ) × IsMadeAround dialect s table limit bytes left survey index
    × TellsOut start now index (record { out = out })
WritesAround refuses dialect s table limit bytes left start now (Err f) =
    MakesAround refuses dialect s table limit bytes left (Err f) × Keeps start now
