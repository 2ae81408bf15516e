-- Laws of what `copy` and `copy_to_5` write. They hold in every dialect, which is the same throughout. DWARF 5, sections 6.2 and
-- 6.2.4.
use Rattle.std.specs.Prelude.{⊤, ◌≡◌, ℕ, ◌+◌, List, [], ◌∷◌, length, map, Option, Some}
use Rattle.std.specs.List.{AllByRecursion}
use Rattle.dl_head.specs.declared.dialect.Dialect.{Dialect}
use Rattle.dl_num.specs.Laws.{AllBytes}
use Rattle.dl_head.specs.Built.{with_standard_opcodes}
use Rattle.dl_field.specs.HeaderData.{HeaderData}
use Rattle.dl_rows.specs.declared.operation.Operation.{Operation}
use Rattle.dl_rows.specs.declared.reader.Event.TheVariants as event
use Rattle.dl_rows.specs.LineUnit.{IsOwnUnit, unit_rows, events}
use Rattle.dl_sections.specs.Commands.{copied_unit, copied_units, AreCopied, AreMade, to_5, units_as}
use Rattle.dl_sections.specs.Section.{HasUnits, header_of}

-- v is a unit of the header of u, but for its opcodes, which are the standard ones; and it comes to the rows of u
pub record IsAnew (dialect : Dialect) (u v : List ℕ) : Type 0 where
  pub header : HeaderData
  pub its_header : header_of dialect u ≡ Some header
  pub operations : List Operation
  pub unit : IsOwnUnit dialect (with_standard_opcodes header) operations v
  pub events_are : events dialect v ≡ event.Header ∷ map event.Row (unit_rows dialect u)
  pub rows : unit_rows dialect v ≡ unit_rows dialect u

-- what is written for units that were read is a section of as many units, each of which is one of them anew
abbrev pub CopiesAreUnits : Type 0
CopiesAreUnits =
    (dialect : Dialect) (s : List ℕ) (units : List (List ℕ)) (rest : List ℕ) → AllBytes s
    → HasUnits dialect s units rest → AreCopied dialect units
    → HasUnits dialect (copied_units dialect units) (map (copied_unit dialect) units) []
    × AllByRecursion (λ u. IsAnew dialect u (copied_unit dialect u)) units

-- ---- `copy_to_5`

-- v is a unit of version 5, under the header that becomes of that of u, which stands at the offset, and comes to the
-- rows of u
pub record IsNewer (directories : ℕ → Option (List ℕ)) (dialect : Dialect) (offset : ℕ) (u v : List ℕ) : Type 0 where
  pub header : HeaderData
  pub its_header : header_of dialect u ≡ Some header
  pub version : (to_5 directories offset header).params.version ≡ 5
  pub operations : List Operation
  pub unit : IsOwnUnit dialect (to_5 directories offset header) operations v
  pub events_are : events dialect v ≡ event.Header ∷ map event.Row (unit_rows dialect u)
  pub rows : unit_rows dialect v ≡ unit_rows dialect u

-- of units one after the other, the first at that offset, and as many others
abbrev pub AreNewer : (directories : ℕ → Option (List ℕ)) → Dialect → (offset : ℕ) → (units newer : List (List ℕ)) → Type 0
AreNewer directories dialect offset [] [] = ⊤
AreNewer directories dialect offset (u ∷ units) (v ∷ newer) =
    IsNewer directories dialect offset u v × AreNewer directories dialect (offset + length u) units newer
AreNewer directories dialect offset units newer = ⊥

-- what is written for units that were read is a section of as many units of version 5, each of which has the rows of one
-- of them
abbrev pub CopiesAreNewer : Type 0
CopiesAreNewer =
    (directories : ℕ → Option (List ℕ)) (dialect : Dialect) (s : List ℕ) (units : List (List ℕ)) (rest : List ℕ) → AllBytes s
    → HasUnits dialect s units rest → AreMade (to_5 directories) dialect 0 units
    → (newer : List (List ℕ)) × HasUnits dialect (units_as (to_5 directories) dialect 0 units) newer []
    × AreNewer directories dialect 0 units newer
