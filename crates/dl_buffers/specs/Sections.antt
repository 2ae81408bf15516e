-- How the reading of a section that is held in memory ends. DWARF 5, section 6.2.4.
use Rattle.std.specs.Prelude.{ℕ, List, [], length, Some, Result, Ok, Err}
use Rattle.dl_head.specs.declared.dialect.Dialect.{Dialect}
use Rattle.dl_print.specs.declared.summary.Summary.{Summary}
use Rattle.dl_sections.specs.declared.fault.RunFault.TheVariants as run
use Rattle.dl_sections.specs.Section.{EndsAs}
use Rattle.dl_sections.specs.declared.in_memory.SectionStop.{SectionStop}
use Rattle.dl_sections.specs.declared.in_memory.SectionStop.TheVariants as stop

-- as that of a reader that gave the bytes s, and then its end, with no limit below their number
abbrev pub EndsFor : Dialect → (s : List ℕ) → Result Summary SectionStop → Type 0
EndsFor dialect s (Ok summary) = (units : List (List ℕ))
    × EndsAs dialect (length s) s (Some []) units [] [] (Ok summary)
EndsFor dialect s (Err (stop.Damaged offset kind)) =
    (units : List (List ℕ)) × (b : List ℕ) × (back : List ℕ)
    × EndsAs dialect (length s) s (Some []) units b back (Err (run.Damage offset kind))
EndsFor dialect s (Err stop.NoMemory) =
    (units : List (List ℕ)) × (b : List ℕ) × (back : List ℕ)
    × EndsAs dialect (length s) s (Some []) units b back (Err run.NoMemory)
