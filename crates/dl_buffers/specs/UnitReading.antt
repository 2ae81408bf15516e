-- What is read of the unit that bytes begin with. No promise rests on this file.
use Rattle.std.specs.Prelude.{◌≡◌, ℕ, List, [], ◌∷◌, Option, Some, None, Result, Ok, Err}
use Rattle.dl_head.specs.declared.dialect.Dialect.{Dialect}
use Rattle.dl_sections.specs.declared.in_memory.SectionStop.{SectionStop}
use Rattle.dl_sections.specs.InMemory.{UnitStory, UnitTold, as_fault, read_of, unit_told}
use Rattle.dl_buffers.specs.declared.unit.FirstUnit.{FirstUnit}
use Rattle.dl_buffers.specs.declared.unit.UnitAtFront.{UnitAtFront}
use Rattle.dl_buffers.specs.UnitCalls.{BeginsWith, StopsIn}

-- the first unit is kept, and no other is read
abbrev pub first_story : UnitStory FirstUnit
first_story = record {
  hears = λ first now units rows. first.unit ≡ None → (units ≡ []) × (now.unit ≡ None);
  is_done = λ first now units. first.unit ≡ None → (t : UnitTold) × (units ≡ t ∷ []) × (now.unit ≡ Some t.unit);
}

-- u is the unit at the front, and what was read
pub record IsAtFront (dialect : Dialect) (u : List ℕ) (front : UnitAtFront) : Type 0 where
  pub unit : front.unit ≡ (unit_told dialect 0 u).unit
  pub read : front.read ≡ read_of dialect (u ∷ [])

-- `unit_at_front`
abbrev pub ReadsUnit : Dialect → (t : List ℕ) → Result (Option UnitAtFront) SectionStop → Type 0
ReadsUnit dialect t (Ok (Some front)) = (u : List ℕ) × BeginsWith dialect t u × IsAtFront dialect u front
ReadsUnit dialect t (Ok None) = t ≡ []
ReadsUnit dialect t (Err stop) = (b : List ℕ) × StopsIn dialect t b (as_fault stop)
