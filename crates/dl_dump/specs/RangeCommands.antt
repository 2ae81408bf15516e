-- What the commands answer and write that show the sequences of a range. bytes: what was read from a reader, which has `left`
-- left. start, now: what the writer held at first, and holds now. hears: it was told of these damaged units. refuses: for how
-- many items memory is refused. DWARF 5, sections 2.17.3 and 6.2.4.
use Rattle.std.specs.Prelude.{◌≡◌, ◌⊎◌, ℕ, ◌+◌, List, ◌∷◌, ◌++◌, length, Option, Result, Err, take}
use Rattle.std.specs.Io.KnownBytes.{Appends}
use Rattle.dl_head.specs.declared.dialect.Dialect.{Dialect}
use Rattle.dl_look.specs.declared.code_ranges.AddressRange.{AddressRange}
use Rattle.dl_memory.specs.Refusals.{IsRefused}
use Rattle.dl_print.specs.declared.summary.Summary.{Summary}
use Rattle.dl_sections.specs.declared.around.Damage.{Damage}
use Rattle.dl_sections.specs.declared.around.Survey.{Survey}
use Rattle.dl_sections.specs.declared.fault.RunFault.{RunFault}
use Rattle.dl_sections.specs.declared.fault.RunFault.TheVariants as fault
use Rattle.dl_sections.specs.Around.{Block, EndsAround, IsCutTo, Rest, faults_of, visits_around}
use Rattle.dl_sections.specs.RunOutput.{TellsOut}
use Rattle.dl_sections.specs.Section.{EndsAs, HasBegun, Visit, section_visits}
use Rattle.dl_dump.specs.DetailText.{DetailStyle}
use Rattle.dl_dump.specs.RangeText.{held_along, range_text}

-- memory was refused for what was told of a sequence up to a row of it; written is the text of the visits before that row
pub record StopsAtRow (refuses : ℕ → Type 0) (style : DetailStyle) (range : AddressRange) (start now : Option (List ℕ))
    (visits : List Visit) : Type 0 where
  pub before : List Visit
  pub row : Visit
  pub others : List Visit
  pub whole : visits ≡ before ++ row ∷ others
  pub refused : IsRefused refuses (length (held_along style range before) + 1)
  pub out : Appends start now (range_text style range before)

-- `dump_range`: the text of the units, and of what follows them up to the fault
abbrev pub DumpsRange : (refuses : ℕ → Type 0) → Dialect → DetailStyle → AddressRange → (limit : ℕ) (bytes : List ℕ)
    (left start now : Option (List ℕ)) → Result Summary RunFault → Type 0
DumpsRange refuses dialect style range limit bytes left start now (Err (fault.Write out)) =
    (units : List (List ℕ)) × (b : List ℕ) × (back : List ℕ) × HasBegun dialect (take limit bytes) units b back
    × TellsOut start now (range_text style range (section_visits dialect units b)) (fault.Write out)
DumpsRange refuses dialect style range limit bytes left start now (Err fault.NoMemory) =
    (units : List (List ℕ)) × (b : List ℕ) × (back : List ℕ)
    × ((EndsAs dialect limit bytes left units b back (Err fault.NoMemory)
    × Appends start now (range_text style range (section_visits dialect units b)))
    ⊎ (HasBegun dialect (take limit bytes) units b back
    × StopsAtRow refuses style range start now (section_visits dialect units b)))
DumpsRange refuses dialect style range limit bytes left start now result =
    (units : List (List ℕ)) × (b : List ℕ) × (back : List ℕ) × EndsAs dialect limit bytes left units b back result
    × Appends start now (range_text style range (section_visits dialect units b))

-- `dump_range_around`: the text of the units, of the damaged ones up to their faults
abbrev pub DumpsRangeAround : (refuses : ℕ → Type 0) → Dialect → DetailStyle → AddressRange → (limit : ℕ) (bytes : List ℕ)
    (left start now : Option (List ℕ)) → (hears : List Damage → Type 0) → Result Survey RunFault → Type 0
DumpsRangeAround refuses dialect style range limit bytes left start now hears (Err (fault.Write out)) =
    (blocks : List Block) × (rest : Rest) × (others : List ℕ) × IsCutTo dialect (take limit bytes) blocks rest others
    × TellsOut start now (range_text style range (visits_around dialect blocks rest)) (fault.Write out)
DumpsRangeAround refuses dialect style range limit bytes left start now hears (Err fault.NoMemory) =
    (blocks : List Block) × (rest : Rest)
    × ((EndsAround dialect limit bytes left blocks rest (Err fault.NoMemory)
    × Appends start now (range_text style range (visits_around dialect blocks rest)) × hears (faults_of blocks rest))
    ⊎ ((others : List ℕ) × IsCutTo dialect (take limit bytes) blocks rest others
    × StopsAtRow refuses style range start now (visits_around dialect blocks rest)))
DumpsRangeAround refuses dialect style range limit bytes left start now hears result =
    (blocks : List Block) × (rest : Rest) × EndsAround dialect limit bytes left blocks rest result
    × Appends start now (range_text style range (visits_around dialect blocks rest)) × hears (faults_of blocks rest)
