-- The sink that looks many places up, and what is told of what it finds. No promise rests on this file.
use Rattle.std.specs.Prelude.{◌≡◌, ℕ, zero, suc, ◌==◌, if◌then◌else◌, List, [], ◌∷◌, map, slice_get, slice_index_or}
use Rattle.std.specs.Prelude.{Option, Some, None, option_map, Result, Ok, Err}
use Rattle.std.specs.Option.{option_or}
use Rattle.dl_head.specs.declared.dialect.Dialect.{Dialect}
use Rattle.dl_rows.specs.declared.row.Row.{Row}
use Rattle.dl_look.specs.Answer.{answer}
use Rattle.dl_look.specs.declared.place.Place.{Place}
use Rattle.dl_look.specs.declared.ledger.Answered.{Answered}
use Rattle.dl_look.specs.FindersRows.{Stand}
use Rattle.dl_look.specs.Ledgers.{no_answer}
use Rattle.dl_sections.specs.Around.{Block}
use Rattle.dl_sections.specs.InMemory.{UnitStory, UnitTold}
use Rattle.dl_sections.specs.declared.around.DamagedUnits.{DamagedUnits}
use Rattle.dl_buffers.specs.declared.finding.FoundRow.{FoundRow}
use Rattle.dl_buffers.specs.declared.gathering.Gatherer.{Gatherer}
use Rattle.dl_buffers.specs.declared.record.RowRecord.{RowRecord}
use Rattle.dl_buffers.specs.AllCalls.{place_of_address, placed}
use Rattle.dl_buffers.specs.AroundCalls.{IsReadWith, IsRefusedWith}
use Rattle.dl_buffers.specs.Records.{row_record}

-- the row of the last of the first k answers that is for the place of number i
abbrev pub told_upto : List Answered → (k i : ℕ) → Option Row
told_upto answered zero i = None
told_upto answered (suc k) i =
    if (slice_index_or answered k no_answer).number == i then Some (slice_index_or answered k no_answer).row
    else told_upto answered k i

-- what stands at the place of number i once the first k answers are told
abbrev pub row_after : List Answered → (k : ℕ) → List RowRecord → (i : ℕ) → Option RowRecord
row_after answered k old i = placed (option_map row_record (told_upto answered k i)) (slice_get old i)

abbrev pub unit_after : List Answered → (unit k : ℕ) → List ℕ → (i : ℕ) → Option ℕ
unit_after answered unit k old i = placed (option_map (λ r. unit) (told_upto answered k i)) (slice_get old i)

-- the answer for x of the first of the units that has one, and its offset
abbrev pub found_told : List UnitTold → Place → Option FoundRow
found_told [] x = None
found_told (t ∷ units) x =
    option_or (option_map (λ r. record { row = r; unit = t.unit.offset }) (answer t.rows x)) (found_told units x)

-- of rows and offsets of units, p and m before, and q and n after: those of the addresses that the units answer are
-- told
pub record Placed (units : List UnitTold) (addresses : List ℕ) (p q : List RowRecord) (m n : List ℕ)
    : Type 0 where
  pub rows : (i a : ℕ) → slice_get addresses i ≡ Some a
      → slice_get q i ≡ placed (option_map (λ f. row_record f.row) (found_told units (place_of_address a))) (slice_get p i)
  pub offsets : (i a : ℕ) → slice_get addresses i ≡ Some a
      → slice_get n i ≡ placed (option_map (λ f. f.unit) (found_told units (place_of_address a))) (slice_get m i)

-- it was told these units and rows since it was as at first
pub record Gathers (first now : Gatherer) (units : List UnitTold) (rows : List Row) : Type 0 where
  pub same_rows : now.rows.ghost_name ≡ first.rows.ghost_name
  pub same_units : now.units.ghost_name ≡ first.units.ghost_name
  pub stand : (addresses : List ℕ) → Stand first.finders.now (map place_of_address addresses) [] []
      → Stand now.finders.now (map place_of_address addresses) (map (λ t. t.rows) units) rows
  pub told : (addresses : List ℕ) → Stand first.finders.now (map place_of_address addresses) [] []
      → Placed units addresses first.rows.now now.rows.now first.units.now now.units.now

abbrev pub gatherer_story : UnitStory Gatherer
gatherer_story = record { hears = Gathers; is_done = λ first now units. ⊥ }

-- `gather_around`
abbrev pub EndsAroundWith : {E : Type 0} → Dialect → (s : List ℕ) → (P : List Block → Type 0)
    → Result (Option DamagedUnits) E → Type 0
EndsAroundWith dialect s P (Ok units) = IsReadWith dialect s P units
EndsAroundWith dialect s P (Err refused) = IsRefusedWith dialect s P
