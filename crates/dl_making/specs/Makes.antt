-- What the making of an index comes to. bytes: what was read from a reader, which has `left` left; None: it isn't known.
-- refuses: for how many items memory is refused.
use Rattle.std.specs.Prelude.{◌⊎◌, ℕ, List, [], take, Option, Result, Ok, Err}
use Rattle.std.specs.Option.{option_copied, option_map}
use Rattle.dl_head.specs.declared.dialect.Dialect.{Dialect}
use Rattle.dl_print.specs.ValueText.{Strings}
use Rattle.dl_dirs.specs.Compilation.{directory_by}
use Rattle.dl_print.specs.declared.summary.Summary.{Summary}
use Rattle.dl_sections.specs.declared.around.Survey.{Survey}
use Rattle.dl_sections.specs.declared.fault.RunFault.{RunFault}
use Rattle.dl_sections.specs.declared.fault.RunFault.TheVariants as fault
use Rattle.dl_sections.specs.Around.{Block, Rest, EndsAround}
use Rattle.dl_sections.specs.Section.{EndsAs}
use Rattle.dl_addr.specs.AroundCommands.{located_around}
use Rattle.dl_addr.specs.Code.{is_code}
use Rattle.dl_stretch.specs.Runs.{place_at}
use Rattle.dl_index.specs.Stretches.{Told}
use Rattle.dl_making.specs.declared.making.Made.{Made}
use Rattle.dl_making.specs.declared.making.MadeAround.{MadeAround}
use Rattle.dl_making.specs.declared.making.Table.{Table}
use Rattle.dl_making.specs.IsIndexOf.{IsIndexOf}
use Rattle.dl_making.specs.Telling.{told_by, told_of}
use Rattle.dl_making.specs.Wants.{WantsIndex, WantsMemory, WantsMemoryAround}

-- by the units of a section
abbrev pub told_in : Dialect → Strings → Table → List (List ℕ) → ℕ → Option Told
told_in dialect s table units a =
    told_by dialect s (directory_by table.directories) (is_code (option_copied table.code)) units a

-- by the whole units of a section with damaged ones
abbrev pub told_around : Dialect → Strings → Table → List Block → ℕ → Option Told
told_around dialect s table blocks a =
    option_map (told_of s (directory_by table.directories))
    (located_around dialect (is_code (option_copied table.code)) blocks (place_at a))

-- the build ID that is kept: its first 32 bytes
abbrev pub id_kept : Table → List ℕ
id_kept table = take 32 table.build_id.now

-- `make_index`: the index of the units to the end; or the first fault, as of `check`; or memory is wanted, for the reading or,
-- where that came to the end, for the index
abbrev pub Makes : (refuses : ℕ → Type 0) → Dialect → Strings → Table → (limit : ℕ) (bytes : List ℕ) (left : Option (List ℕ))
    → Result Made RunFault → Type 0
Makes refuses dialect s table limit bytes left (Ok made) =
    (units : List (List ℕ)) × EndsAs dialect limit bytes left units [] [] (Ok made.summary)
    × IsIndexOf table.all (id_kept table) (told_in dialect s table units) made.index.items
Makes refuses dialect s table limit bytes left (Err fault.NoMemory) =
    WantsMemory refuses dialect s table limit bytes
    ⊎ ((units : List (List ℕ)) × (summary : Summary) × EndsAs dialect limit bytes left units [] [] (Ok summary)
    × WantsIndex refuses s table limit bytes (told_in dialect s table units))
Makes refuses dialect s table limit bytes left (Err f) =
    (units : List (List ℕ)) × (b : List ℕ) × (back : List ℕ) × EndsAs dialect limit bytes left units b back (Err f)

-- `make_index_around`: the same of the whole units of a section with damaged ones
abbrev pub MakesAround : (refuses : ℕ → Type 0) → Dialect → Strings → Table → (limit : ℕ) (bytes : List ℕ) (left : Option (List ℕ))
    → Result MadeAround RunFault → Type 0
MakesAround refuses dialect s table limit bytes left (Ok made) =
    (blocks : List Block) × (rest : Rest) × EndsAround dialect limit bytes left blocks rest (Ok made.survey)
    × IsIndexOf table.all (id_kept table) (told_around dialect s table blocks) made.index.items
MakesAround refuses dialect s table limit bytes left (Err fault.NoMemory) =
    WantsMemoryAround refuses dialect s table limit bytes
    ⊎ ((blocks : List Block) × (rest : Rest) × (survey : Survey)
    × EndsAround dialect limit bytes left blocks rest (Ok survey)
    × WantsIndex refuses s table limit bytes (told_around dialect s table blocks))
MakesAround refuses dialect s table limit bytes left (Err f) =
    (blocks : List Block) × (rest : Rest) × EndsAround dialect limit bytes left blocks rest (Err f)
