-- What `sources` answers and writes. bytes: what was read from a reader, which has `left` left. start, now: what the
-- writer held at first, and holds now. None: it isn't known. refuses: for how many items memory is refused.
use Rattle.std.specs.Prelude.{◌≡◌, ◌≢◌, ◌⊎◌, ℕ, List, [], length, take, Option, Result, Ok, Err}
use Rattle.std.specs.Io.KnownBytes.{Appends, Keeps}
use Rattle.dl_head.specs.declared.dialect.Dialect.{Dialect}
use Rattle.dl_print.specs.declared.summary.Summary.{Summary}
use Rattle.dl_print.specs.Output.{TellsOut}
use Rattle.dl_print.specs.ValueText.{Strings}
use Rattle.dl_sections.specs.declared.fault.RunFault.{RunFault}
use Rattle.dl_sections.specs.declared.fault.RunFault.TheVariants as fault
use Rattle.dl_sections.specs.Section.{EndsAs, HasBegun, RefusesCell}
use Rattle.dl_sources.specs.declared.question.SourcesQuestion.{SourcesQuestion}
use Rattle.dl_sources.specs.declared.question.Sums.{Sums}
use Rattle.dl_sources.specs.Report.{report, sums_told}
use Rattle.dl_sources.specs.SectionTold.{mentions_of}
use Rattle.dl_sources.specs.Wanting.{RefusesListing}

-- memory was refused: after these units and b for what the next byte adds to a header, or for what was told
abbrev pub WantsMemory : (refuses : ℕ → Type 0) → Dialect → Strings → SourcesQuestion → (limit : ℕ) (bytes : List ℕ) → Type 0
WantsMemory refuses dialect s q limit bytes =
    ((units : List (List ℕ)) × (b : List ℕ) × (back : List ℕ) × HasBegun dialect (take limit bytes) units b back
    × RefusesCell dialect b back)
    ⊎ RefusesListing refuses s q (length (take limit bytes))

-- the lines of what the units before the end or the fault tell; nothing where memory was refused
abbrev pub Lists : (refuses : ℕ → Type 0) → Dialect → Strings → SourcesQuestion
    → (limit : ℕ) (bytes : List ℕ) (left start now : Option (List ℕ)) → Result Sums RunFault → Type 0
Lists refuses dialect s q limit bytes left start now (Ok sums) =
    (units : List (List ℕ)) × (summary : Summary) × EndsAs dialect limit bytes left units [] [] (Ok summary)
    × (sums ≡ sums_told (mentions_of dialect s q units)) × Appends start now (report q (mentions_of dialect s q units))
Lists refuses dialect s q limit bytes left start now (Err (fault.Write out)) =
    (units : List (List ℕ)) × (b : List ℕ) × (back : List ℕ) × (ending : Result Summary RunFault)
    × (ending ≢ Err fault.NoMemory) × EndsAs dialect limit bytes left units b back ending
    × TellsOut start now (report q (mentions_of dialect s q units)) (record { out = out })
Lists refuses dialect s q limit bytes left start now (Err fault.NoMemory) =
    WantsMemory refuses dialect s q limit bytes × Keeps start now
Lists refuses dialect s q limit bytes left start now (Err f) =
    (units : List (List ℕ)) × (b : List ℕ) × (back : List ℕ) × EndsAs dialect limit bytes left units b back (Err f)
    × Appends start now (report q (mentions_of dialect s q units))
