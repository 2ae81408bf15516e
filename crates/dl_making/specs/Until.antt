-- What the making of an index comes to that ends with a fault. bytes: what was read from a reader, which has `left` left;
-- None: it isn't known. refuses: for how many items memory is refused.
use Rattle.std.specs.Prelude.{◌≡◌, ℕ, true, List, is_err, Option, Result, Err, MatchResult, Bool, false, Some}
use Rattle.std.specs.Global.{Vec}
use Rattle.dl_head.specs.declared.dialect.Dialect.{Dialect}
use Rattle.dl_memory.specs.declared.memory.NoMemory.{NoMemory}
use Rattle.dl_print.specs.ValueText.{Strings}
use Rattle.dl_print.specs.declared.summary.Summary.{Summary}
use Rattle.dl_sections.specs.declared.around.Survey.{Survey}
use Rattle.dl_sections.specs.declared.fault.RunFault.{RunFault}
use Rattle.dl_sections.specs.declared.fault.RunFault.TheVariants as fault
use Rattle.dl_sections.specs.Around.{Block, Rest, EndsAround}
use Rattle.dl_sections.specs.Section.{EndsAs}
use Rattle.dl_index.specs.Stretches.{Told}
use Rattle.dl_making.specs.declared.making.Table.{Table}
use Rattle.dl_making.specs.IsIndexOf.{IsIndexOf}
use Rattle.dl_making.specs.Makes.{id_kept, told_around, told_in}
use Rattle.dl_making.specs.Wants.{WantsIndex, WantsMemory, WantsMemoryAround}

-- the index of what f tells, of these bytes; or memory was refused for one, or it would have too many files or texts
abbrev pub IsIndexIf : (refuses : ℕ → Type 0) → Strings → Table → (limit : ℕ) (bytes : List ℕ) → (f : ℕ → Option Told)
    → Result (Vec ℕ) NoMemory → Type 0
IsIndexIf refuses s table limit bytes f index =
    MatchResult index (λ i. IsIndexOf table.all (id_kept table) f i.items) (λ _. WantsIndex refuses s table limit bytes f)

-- memory was refused for the reading
abbrev pub is_refused : Option RunFault → Bool
is_refused (Some fault.NoMemory) = true
is_refused other = false

-- `make_index_until`: the index of the units before the end or before the first fault, as of `check`, which are those that
-- answer in `addr`; none where memory was refused for the reading
abbrev pub MakesUntil : (refuses : ℕ → Type 0) → Dialect → Strings → Table → (limit : ℕ) (bytes : List ℕ) (left : Option (List ℕ))
    → Result Summary RunFault → Result (Vec ℕ) NoMemory → Type 0
MakesUntil refuses dialect s table limit bytes left (Err fault.NoMemory) index =
    (is_err index ≡ true) × WantsMemory refuses dialect s table limit bytes
MakesUntil refuses dialect s table limit bytes left ended index =
    (units : List (List ℕ)) × (b : List ℕ) × (back : List ℕ) × EndsAs dialect limit bytes left units b back ended
    × IsIndexIf refuses s table limit bytes (told_in dialect s table units) index

-- `make_index_until_around`
abbrev pub MakesUntilAround : (refuses : ℕ → Type 0) → Dialect → Strings → Table → (limit : ℕ) (bytes : List ℕ) (left : Option (List ℕ))
    → Result Survey RunFault → Result (Vec ℕ) NoMemory → Type 0
MakesUntilAround refuses dialect s table limit bytes left (Err fault.NoMemory) index =
    (is_err index ≡ true) × WantsMemoryAround refuses dialect s table limit bytes
MakesUntilAround refuses dialect s table limit bytes left ended index =
    (blocks : List Block) × (rest : Rest) × EndsAround dialect limit bytes left blocks rest ended
    × IsIndexIf refuses s table limit bytes (told_around dialect s table blocks) index
