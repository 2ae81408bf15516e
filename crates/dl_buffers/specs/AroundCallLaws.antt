-- Laws of the calls that go on after damaged units, over the bytes s of a section. Each holds in every dialect. DWARF 5,
-- section 6.2.4.
use Rattle.std.specs.Prelude.{◌≡◌, ℕ, Bool, true, List}
use Rattle.dl_head.specs.declared.dialect.Dialect.{Dialect}
use Rattle.dl_buffers.specs.declared.record.Counts.{Counts}
use Rattle.dl_buffers.specs.declared.record.FaultRecord.{FaultRecord}
use Rattle.dl_buffers.specs.declared.record.RowRecord.{RowRecord}
use Rattle.dl_buffers.specs.declared.status.Status.TheVariants as status
use Rattle.dl_buffers.specs.AllCalls.{FindsAll}
use Rattle.dl_buffers.specs.AroundCalls.{ChecksAround, FindsAllAround}
use Rattle.dl_buffers.specs.Calls.{Checks}

-- where nothing is damaged, `check` answers and writes the same, be it that it goes on or not
abbrev pub ChecksAlike : Type 0
ChecksAlike =
    (dialect : Dialect) (s : List ℕ) (c d : Counts) (f g : FaultRecord)
    → (Checks dialect s c d f g status.Done → ChecksAround dialect s c d f g status.Done)
    × (ChecksAround dialect s c d f g status.Done → Checks dialect s c d f g status.Done)

-- and where a unit is, it tells the same fault
abbrev pub TellsFirst : Type 0
TellsFirst =
    (dialect : Dialect) (s : List ℕ) (c d d2 : Counts) (f g g2 : FaultRecord)
    → Checks dialect s c d f g status.Fault → ChecksAround dialect s c d2 f g2 status.Fault → g ≡ g2

-- where nothing is damaged, `find_all` answers and writes the same, whatever memory is refused
abbrev pub FindsAlike : Type 0
FindsAlike =
    (refused : ℕ → Bool) (dialect : Dialect) (s addresses : List ℕ) (p q : List RowRecord) (m n : List ℕ)
    (f g : FaultRecord)
    → (FindsAll (λ k. refused k ≡ true) dialect s addresses p q m n f g status.Done
    → FindsAllAround (λ k. refused k ≡ true) dialect s addresses p q m n f g status.Done)
    × (FindsAllAround (λ k. refused k ≡ true) dialect s addresses p q m n f g status.Done
    → FindsAll (λ k. refused k ≡ true) dialect s addresses p q m n f g status.Done)
