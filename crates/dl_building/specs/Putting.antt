-- The index that a call makes, in the room of its caller. Of the room, the length and the fault, p and g before the call, and
-- q, n and h after it. damaged: the units that were gone around.
use Rattle.std.specs.Prelude.{◌≡◌, ℕ, ◌<◌, ◌≤◌, List, length, Option, Some, None}
use Rattle.dl_buffers.specs.declared.record.FaultRecord.{FaultRecord}
use Rattle.dl_buffers.specs.declared.status.Status.{Status}
use Rattle.dl_buffers.specs.declared.status.Status.TheVariants as status
use Rattle.dl_buffers.specs.Records.{record_of}
use Rattle.dl_buffers.specs.UnitCalls.{written_over}
use Rattle.dl_sections.specs.declared.around.DamagedUnits.{DamagedUnits}

-- it stands in the room's first bytes, and its length is told
pub record IsPut (index p q : List ℕ) (n : ℕ) : Type 0 where
  pub room : length index ≤ length p
  pub bytes : q ≡ written_over p index
  pub len : n ≡ length index

abbrev pub PutsIndex : (index : List ℕ) (damaged : Option DamagedUnits) (p q : List ℕ) (n : ℕ) (g h : FaultRecord) → Status
    → Type 0
PutsIndex index damaged p q n g h status.Done = (damaged ≡ None) × IsPut index p q n × (h ≡ g)
PutsIndex index damaged p q n g h status.Fault =
    (units : DamagedUnits) × (damaged ≡ Some units) × IsPut index p q n
    × (h ≡ record_of units.first.offset units.first.kind)
PutsIndex index damaged p q n g h status.NoRoom =
    (length p < length index) × (q ≡ p) × (n ≡ length index) × (h ≡ g)
PutsIndex index damaged p q n g h other = ⊥
