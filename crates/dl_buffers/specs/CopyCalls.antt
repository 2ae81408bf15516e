-- What the call that writes all units anew answers. s: the bytes of a section. refuses: for how many items memory is
-- refused. DWARF 5, section 6.2.4.
use Rattle.std.specs.Prelude.{◌≡◌, ◌<◌, ◌≤◌, ◌^◌, ⊤, ℕ, List, [], length, Option, Some, Result, Ok, Err, IfOk, OnErr}
use Rattle.std.specs.Io.KnownBytes.{Consumes}
use Rattle.std.specs.Global.{Vec}
use Rattle.dl_memory.specs.declared.memory.NoMemory.{NoMemory}
use Rattle.dl_head.specs.declared.dialect.Dialect.{Dialect}
use Rattle.dl_head.specs.Dialect.{version_5}
use Rattle.dl_table.specs.declared.fault.FaultKind.TheVariants.{UnitTooLong}
use Rattle.dl_print.specs.declared.summary.Summary.{Summary}
use Rattle.dl_sections.specs.declared.fault.RunFault.{RunFault}
use Rattle.dl_sections.specs.declared.fault.RunFault.TheVariants as run
use Rattle.dl_sections.specs.Commands as commands
use Rattle.dl_held.specs.Holding.{CannotHold}
use Rattle.dl_buffers.specs.declared.record.FaultRecord.{FaultRecord}
use Rattle.dl_buffers.specs.declared.status.Status.{Status}
use Rattle.dl_buffers.specs.declared.status.Status.TheVariants as status
use Rattle.dl_buffers.specs.Records.{record_of}
use Rattle.dl_buffers.specs.UnitCalls.{written_over}

-- the command `copy` over a reader that gives s, and a writer that holds v at the end
abbrev pub Runs : (refuses : ℕ → Type 0) → Dialect → (s v : List ℕ) → Result Summary RunFault → Type 0
Runs refuses dialect s v result =
    (bytes : List ℕ) × (left : Option (List ℕ)) × Consumes (Some s) left bytes
    × commands.Copies refuses (version_5 dialect.order) (2 ^ 44) bytes left (Some []) (Some v) result

-- `put`: of a room and a length, p before it, and q and n after it; v is the copy
abbrev pub Puts : (v p q : List ℕ) (n : ℕ) → Status → Type 0
Puts v p q n status.Done = (length v ≤ length p) × (q ≡ written_over p v) × (n ≡ length v)
Puts v p q n status.NoRoom = (length p < length v) × (q ≡ p) × (n ≡ length v)
Puts v p q n other = ⊥

-- what is told of a fault of the command, of which some are of the section; a unit whose copy is too long is one
abbrev pub TellsFault : RunFault → FaultRecord → Type 0
TellsFault (run.Damage offset kind) g = g ≡ record_of offset kind
TellsFault (run.Emit offset f) g = g ≡ record_of offset UnitTooLong
TellsFault other g = ⊥

-- Memory, or the section's length, is to blame: that of the command, or for the copy, of which v was written. A write fails only
-- where more bytes are out than can be counted.
abbrev pub IsWant : (refuses : ℕ → Type 0) (v : List ℕ) → Result Summary RunFault → Type 0
IsWant refuses v (Ok summary) = CannotHold refuses v
IsWant refuses v (Err run.NoMemory) = ⊤
IsWant refuses v (Err (run.Write out)) = CannotHold refuses v
IsWant refuses v (Err run.SectionTooLong) = ⊤
IsWant refuses v (Err other) = ⊥

-- `copy`: of a room, a length and a fault, p, m and f before it, and q, n and g after it, only what the status says is
-- written
abbrev pub Copies : (refuses : ℕ → Type 0) → Dialect → (s p q : List ℕ) (m n : ℕ) (f g : FaultRecord) → Status → Type 0
Copies refuses dialect s p q m n f g status.Done =
    (v : List ℕ) × (summary : Summary) × Runs refuses dialect s v (Ok summary) × Puts v p q n status.Done × (g ≡ f)
Copies refuses dialect s p q m n f g status.NoRoom =
    (v : List ℕ) × (summary : Summary) × Runs refuses dialect s v (Ok summary) × Puts v p q n status.NoRoom × (g ≡ f)
Copies refuses dialect s p q m n f g status.Fault =
    (v : List ℕ) × (r : RunFault) × Runs refuses dialect s v (Err r) × TellsFault r g × (q ≡ p) × (n ≡ m)
Copies refuses dialect s p q m n f g status.OtherVersion =
    (v : List ℕ) × (offset : ℕ) × Runs refuses dialect s v (Err (run.ForeignUnit offset)) × (q ≡ p) × (n ≡ m) × (g ≡ f)
Copies refuses dialect s p q m n f g status.NoMemory =
    (v : List ℕ) × (end : Result Summary RunFault) × Runs refuses dialect s v end × IsWant refuses v end × (q ≡ p) × (n ≡ m) × (g ≡ f)
Copies refuses dialect s p q m n f g status.NoAnswer = ⊥

-- of a copy that ended so, of which v was written: v is held, or can't be, and can't be where a write failed
abbrev pub IsHeld : (refuses : ℕ → Type 0) (v : List ℕ) (end : Result Summary RunFault) → Result (Vec ℕ) NoMemory → Type 0
IsHeld refuses v end bytes =
    IfOk bytes (λ list. list.items ≡ v) × OnErr bytes (CannotHold refuses v)
    × ((out : ℕ) → end ≡ Err (run.Write out) → CannotHold refuses v)
