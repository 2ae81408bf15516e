-- What the calls answer, and what they write where. s: the bytes of a section.
use Rattle.std.specs.Prelude.{◌≡◌, ◌==◌, ◌%◌, ◌/◌, Bool, ℕ, List, Ok, Err, if◌then◌else◌}
use Rattle.dl_num.specs.declared.fixed.Order.TheVariants.{Little, Big}
use Rattle.dl_head.specs.declared.dialect.Dialect.{Dialect}
use Rattle.dl_head.specs.Dialect.{older_of}
use Rattle.dl_table.specs.declared.fault.FaultKind.{FaultKind}
use Rattle.dl_print.specs.declared.summary.Summary.{Summary}
use Rattle.dl_buffers.specs.declared.record.Counts.{Counts}
use Rattle.dl_buffers.specs.declared.record.FaultRecord.{FaultRecord}
use Rattle.dl_buffers.specs.declared.status.Status.{Status}
use Rattle.dl_buffers.specs.declared.status.Status.TheVariants as status
use Rattle.dl_sections.specs.declared.in_memory.SectionStop.TheVariants as stop
use Rattle.dl_buffers.specs.Records.{counts_of, record_of}
use Rattle.dl_buffers.specs.Sections.{EndsFor}

-- what `how` says of bytes: an odd number, that the highest byte of a number stands first; the half of what 128 leaves of
-- it, that units of versions 2 to 4 are read, where it is a size that addresses may have
abbrev pub dialect_of : ℕ → Dialect
dialect_of how = record { order = if how % 2 == 1 then Big else Little; older = older_of (how % 128 / 2) }

-- how is 128 or more, and below 256: it goes on after damaged units
abbrev pub goes_on : ℕ → Bool
goes_on how = how / 128 == 1

-- `check`: of c and f, the counts and the fault before it, and d and g, those after it, only what the status says
-- is written
abbrev pub Checks : Dialect → (s : List ℕ) → (c d : Counts) (f g : FaultRecord) → Status → Type 0
Checks dialect s c d f g status.Done =
    (summary : Summary) × EndsFor dialect s (Ok summary) × (d ≡ counts_of summary 0) × (g ≡ f)
Checks dialect s c d f g status.Fault =
    (offset : ℕ) × (kind : FaultKind) × EndsFor dialect s (Err (stop.Damaged offset kind)) × (d ≡ c)
    × (g ≡ record_of offset kind)
Checks dialect s c d f g status.NoMemory = EndsFor dialect s (Err stop.NoMemory) × (d ≡ c) × (g ≡ f)
Checks dialect s c d f g other = ⊥
