-- Laws of the definitions of sections of which units may be damaged. Each holds in every dialect, which is the same
-- throughout a law. DWARF 5, section 6.2.4.
use Rattle.std.specs.Prelude.{◌≡◌, ℕ, List, map, [], Option, Some, None, Result, Ok, Err}
use Rattle.dl_head.specs.declared.dialect.Dialect.{Dialect}
use Rattle.dl_table.specs.declared.fault.FaultKind.{FaultKind}
use Rattle.dl_print.specs.declared.summary.Summary.{Summary}
use Rattle.dl_sections.specs.declared.around.Damage.{Damage}
use Rattle.dl_sections.specs.declared.around.Survey.{Survey}
use Rattle.dl_sections.specs.declared.fault.RunFault.{RunFault}
use Rattle.dl_sections.specs.declared.fault.RunFault.TheVariants as fault
use Rattle.dl_sections.specs.Section.{EndsAs}
use Rattle.dl_sections.specs.Around.{Block, whole, Rest, begun, rest_bytes, IsCut, units_around, EndsAround}
use Rattle.dl_sections.specs.SectionLaws.{IsOfBytes}

-- a section that is units to its end comes to the same where damaged units are passed over: none is damaged
abbrev pub WithoutDamage : Type 0
WithoutDamage =
    (dialect : Dialect) (limit : ℕ) (bytes : List ℕ) (left : Option (List ℕ)) (units : List (List ℕ))
    (summary : Summary) → EndsAs dialect limit bytes left units [] [] (Ok summary)
    → EndsAround dialect limit bytes left (map whole units) (begun []) (Ok (record {
      summary = summary;
      damaged = None;
    }))

-- and where nothing is damaged, the section is units to its end
abbrev pub NothingDamaged : Type 0
NothingDamaged =
    (dialect : Dialect) (limit : ℕ) (bytes : List ℕ) (left : Option (List ℕ)) (blocks : List Block) (rest : Rest)
    (survey : Survey) → EndsAround dialect limit bytes left blocks rest (Ok survey) → survey.damaged ≡ None
    → EndsAs dialect limit bytes left (units_around blocks) [] [] (Ok survey.summary)

-- a reading that stops at the first fault stops at that of the first damaged unit
abbrev pub FirstFault : Type 0
FirstFault =
    (dialect : Dialect) (limit : ℕ) (bytes : List ℕ) (left left2 : Option (List ℕ)) (units : List (List ℕ))
    (b back : List ℕ) (offset : ℕ) (kind : FaultKind) (blocks : List Block) (rest : Rest) (survey : Survey)
    → EndsAs dialect limit bytes left units b back (Err (fault.Damage offset kind))
    → EndsAround dialect limit bytes left2 blocks rest (Ok survey)
    → (others : ℕ)
    × (survey.damaged ≡ Some (record { first = record { offset = offset; kind = kind }; others = others }))

-- and where a unit is damaged, it does stop there
abbrev pub StopsAtFirst : Type 0
StopsAtFirst =
    (dialect : Dialect) (limit : ℕ) (bytes : List ℕ) (left : Option (List ℕ)) (blocks : List Block) (rest : Rest)
    (survey : Survey) (first : Damage) (others : ℕ) → EndsAround dialect limit bytes left blocks rest (Ok survey)
    → survey.damaged ≡ Some (record { first = first; others = others })
    → (units : List (List ℕ)) × (b : List ℕ) × (back : List ℕ)
    × EndsAs dialect limit bytes left units b back (Err (fault.Damage first.offset first.kind))

-- bytes are cut into blocks, up to bytes that none begins, in one way alone
abbrev pub OneCutAround : Type 0
OneCutAround =
    (dialect : Dialect) (s : List ℕ) (blocks blocks2 : List Block) (rest rest2 : Rest)
    → IsCut dialect s blocks rest → IsCut dialect s blocks2 rest2
    → (blocks ≡ blocks2) × (rest_bytes rest ≡ rest_bytes rest2)

-- the blocks of bytes, the rest after them and the answer are settled by the bytes and the limit
abbrev pub OneAround : Type 0
OneAround =
    (dialect : Dialect) (limit : ℕ) (bytes : List ℕ) (left left2 : Option (List ℕ)) (blocks blocks2 : List Block)
    (rest rest2 : Rest) (result result2 : Result Survey RunFault) → IsOfBytes result → IsOfBytes result2
    → EndsAround dialect limit bytes left blocks rest result
    → EndsAround dialect limit bytes left2 blocks2 rest2 result2
    → (blocks ≡ blocks2) × (rest ≡ rest2) × (result ≡ result2)
