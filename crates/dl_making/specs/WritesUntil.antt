-- What the writing of an index comes to whose making may end with a fault. bytes: what was read from a reader, which has
-- `left` left. start, now: what the writer held at first, and holds now. None: it isn't known.
-- refuses: for how many items memory is refused.
use Rattle.std.specs.Prelude.{◌≡◌, ◌⊎◌, ℕ, List, Option, Result, Ok, Err}
use Rattle.std.specs.Global.{Vec}
use Rattle.std.specs.Io.KnownBytes.{Appends, Keeps}
use Rattle.dl_head.specs.declared.dialect.Dialect.{Dialect}
use Rattle.dl_memory.specs.declared.memory.NoMemory.{NoMemory}
use Rattle.dl_print.specs.declared.fault.WriteFault.{WriteFault}
use Rattle.dl_print.specs.declared.summary.Summary.{Summary}
use Rattle.dl_print.specs.Output.{TellsOut}
use Rattle.dl_print.specs.ValueText.{Strings}
use Rattle.dl_sections.specs.declared.around.Survey.{Survey}
use Rattle.dl_sections.specs.declared.fault.RunFault.{RunFault}
use Rattle.dl_sections.specs.declared.fault.RunFault.TheVariants as fault
use Rattle.dl_making.specs.declared.making.Table.{Table}
use Rattle.dl_making.specs.Until.{MakesUntil, MakesUntilAround}

-- the index is written whole, and the answer is how the reading ended; or a write failed, which is told first; where there
-- is no index nothing is written, and the answer is that memory was refused, so that no other fault stands for it
abbrev pub WritesMade : {A : Type 0} (ended : Result A RunFault) → Result (Vec ℕ) NoMemory
    → (start now : Option (List ℕ)) (result : Result A RunFault) → Type 0
WritesMade ended (Ok index) start now result =
    ((result ≡ ended) × Appends start now index.items)
    ⊎ ((lost : WriteFault) × (result ≡ Err (fault.Write lost.out)) × TellsOut start now index.items lost)
WritesMade ended (Err e) start now result = (result ≡ Err fault.NoMemory) × Keeps start now

-- `write_index_until`
abbrev pub WritesUntil : (refuses : ℕ → Type 0) → Dialect → Strings → Table → (limit : ℕ) (bytes : List ℕ) (left start now : Option (List ℕ))
    → Result Summary RunFault → Type 0
WritesUntil refuses dialect s table limit bytes left start now result =
    (ended : Result Summary RunFault) × (index : Result (Vec ℕ) NoMemory)
    × MakesUntil refuses dialect s table limit bytes left ended index × WritesMade ended index start now result

-- `write_index_until_around`
abbrev pub WritesUntilAround : (refuses : ℕ → Type 0) → Dialect → Strings → Table → (limit : ℕ) (bytes : List ℕ)
    (left start now : Option (List ℕ)) → Result Survey RunFault → Type 0
WritesUntilAround refuses dialect s table limit bytes left start now result =
    (ended : Result Survey RunFault) × (index : Result (Vec ℕ) NoMemory)
    × MakesUntilAround refuses dialect s table limit bytes left ended index × WritesMade ended index start now result
