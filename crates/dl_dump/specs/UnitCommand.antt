-- What `dump_unit` answers and writes: one unit of a section, which begins at the offset `unit`. bytes: what was read from a
-- reader, which has `left` left. start, now: what the writer held at first, and holds now. DWARF 5, sections 3.1.1 and 6.2.4.
use Rattle.std.specs.Prelude.{◌≡◌, ◌⊎◌, ℕ, ◌==◌, ◌&&◌, ◌||◌, Bool, true, false, if◌then◌else◌, List, [], ◌∷◌, ◌++◌, Option, Some, None}
use Rattle.std.specs.Prelude.{Result, Ok, Err, take}
use Rattle.std.specs.List.{list_any}
use Rattle.std.specs.Option.{option_or}
use Rattle.std.specs.Io.KnownBytes.{Appends}
use Rattle.dl_head.specs.declared.dialect.Dialect.{Dialect}
use Rattle.dl_sections.specs.declared.around.Damage.{Damage}
use Rattle.dl_sections.specs.declared.around.DamagedUnits.{DamagedUnits}
use Rattle.dl_sections.specs.declared.around.Survey.{Survey}
use Rattle.dl_sections.specs.declared.fault.RunFault.{RunFault}
use Rattle.dl_sections.specs.declared.fault.RunFault.TheVariants as fault
use Rattle.dl_sections.specs.Around.{Block, EndsAround, IsCutTo, Rest, begun, damaged_units, faults_of, visits_around}
use Rattle.dl_sections.specs.RunOutput.{TellsOut}
use Rattle.dl_sections.specs.Section.{Visit, of_damage, of_end, of_header, of_version}
use Rattle.dl_dump.specs.declared.unit_dumping.UnitAt.{UnitAt}
use Rattle.dl_dump.specs.declared.unit_dumping.UnitAt.TheVariants.{NoUnit, Whole}
use Rattle.dl_dump.specs.DetailText.{DetailStyle, details_text}

-- ---- the visits of the unit

-- a visit is of it; was: the one before is
abbrev pub is_of : (unit : ℕ) (was : Bool) → Visit → Bool
is_of unit was (of_header offset lengths h) = offset == unit
is_of unit was (of_version offset version) = offset == unit
is_of unit was (of_damage offset at kind) = offset == unit
is_of unit was visit = was

abbrev pub visit_of : (unit : ℕ) (was : Bool) → Visit → List Visit
visit_of unit was visit = if is_of unit was visit then visit ∷ [] else []

abbrev pub visits_of : (unit : ℕ) (was : Bool) → List Visit → List Visit
visits_of unit was [] = []
visits_of unit was (visit ∷ visits) = visit_of unit was visit ++ visits_of unit (is_of unit was visit) visits

-- of the visits of a section
abbrev pub unit_told : (unit : ℕ) → List Visit → List Visit
unit_told unit visits = visits_of unit false visits

-- ---- what is answered

-- a unit begins there
abbrev pub begins_at : (unit : ℕ) → List Visit → Bool
begins_at unit visits = list_any (λ visit. is_of unit false visit) visits

abbrev pub ends_unit : Visit → Bool
ends_unit (of_end h) = true
ends_unit visit = false

-- a unit that is whole ends once the wanted one has begun; has: it had before
abbrev pub is_over : (unit : ℕ) (has : Bool) → List Visit → Bool
is_over unit has [] = false
is_over unit has (visit ∷ visits) = (ends_unit visit && has) || is_over unit (has || is_of unit false visit) visits

abbrev pub damage_of : Visit → Option Damage
damage_of (of_damage unit at kind) = Some (record { offset = at; kind = kind })
damage_of visit = None

-- the first damage that is told
abbrev pub first_damage : List Visit → Option Damage
first_damage [] = None
first_damage (visit ∷ visits) = option_or (damage_of visit) (first_damage visits)

-- of a unit that begins there or doesn't, and may be damaged; where it doesn't and units are damaged, of the first of these, by
-- which it isn't known where units begin
abbrev pub told_by : (begins : Bool) → Option Damage → Option DamagedUnits → Result UnitAt RunFault
told_by begins (Some damage) damaged = Err (fault.Damage damage.offset damage.kind)
told_by true None damaged = Ok Whole
told_by false None (Some units) = Err (fault.Damage units.first.offset units.first.kind)
told_by false None None = Ok NoUnit

abbrev pub answer_of : (unit : ℕ) → List Visit → Option DamagedUnits → Result UnitAt RunFault
answer_of unit visits damaged = told_by (begins_at unit visits) (first_damage (unit_told unit visits)) damaged

-- ---- `dump_unit`

abbrev pub unit_text : DetailStyle → (unit : ℕ) → List Visit → List ℕ
unit_text style unit visits = details_text style (unit_told unit visits)

-- the section is read to its end, or up to the first end of a unit once the wanted one has begun
abbrev pub IsReadTo : Dialect → (unit limit : ℕ) (bytes : List ℕ) (left : Option (List ℕ)) → List Block → Rest → Type 0
IsReadTo dialect unit limit bytes left blocks rest =
    ((survey : Survey) × EndsAround dialect limit bytes left blocks rest (Ok survey)
    × (is_over unit false (visits_around dialect blocks rest) ≡ false))
    ⊎ ((others : List ℕ) × (rest ≡ begun []) × IsCutTo dialect (take limit bytes) blocks rest others
    × (is_over unit false (visits_around dialect blocks rest) ≡ true))

-- all that is told of the unit is read
abbrev pub TellsUnit : Dialect → DetailStyle → (unit limit : ℕ) (bytes : List ℕ) (left start now : Option (List ℕ))
    → Result UnitAt RunFault → Type 0
TellsUnit dialect style unit limit bytes left start now result =
    (blocks : List Block) × (rest : Rest) × IsReadTo dialect unit limit bytes left blocks rest
    × (result ≡ answer_of unit (visits_around dialect blocks rest) (damaged_units (faults_of blocks rest)))
    × Appends start now (unit_text style unit (visits_around dialect blocks rest))

abbrev pub DumpsUnit : Dialect → DetailStyle → (unit limit : ℕ) (bytes : List ℕ) (left start now : Option (List ℕ))
    → Result UnitAt RunFault → Type 0
DumpsUnit dialect style unit limit bytes left start now (Ok at) =
    TellsUnit dialect style unit limit bytes left start now (Ok at)
DumpsUnit dialect style unit limit bytes left start now (Err (fault.Damage offset kind)) =
    TellsUnit dialect style unit limit bytes left start now (Err (fault.Damage offset kind))
DumpsUnit dialect style unit limit bytes left start now (Err (fault.Write out)) =
    (blocks : List Block) × (rest : Rest) × (others : List ℕ) × IsCutTo dialect (take limit bytes) blocks rest others
    × TellsOut start now (unit_text style unit (visits_around dialect blocks rest)) (fault.Write out)
DumpsUnit dialect style unit limit bytes left start now (Err f) =
    (blocks : List Block) × (rest : Rest) × EndsAround dialect limit bytes left blocks rest (Err f)
    × (is_over unit false (visits_around dialect blocks rest) ≡ false)
    × Appends start now (unit_text style unit (visits_around dialect blocks rest))
