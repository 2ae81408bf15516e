-- What the call that tells the path of a file answers. t: the bytes of the section from the offset on. DWARF 5,
-- sections 6.2.4 and 6.2.4.1.
use Rattle.std.specs.Prelude.{◌≡◌, ℕ, ◌+◌, List, [], Option, Some, None, codes}
use Rattle.std.specs.Option.{unwrap_or}
use Rattle.dl_head.specs.declared.dialect.Dialect.{Dialect}
use Rattle.dl_table.specs.declared.fault.FaultKind.{FaultKind}
use Rattle.dl_head.specs.Header.{foreign_in}
use Rattle.dl_print.specs.ValueText.{Strings}
use Rattle.dl_sections.specs.declared.fault.RunFault.TheVariants as run
use Rattle.dl_sections.specs.Section.{header_of}
use Rattle.dl_path.specs.Paths.{path_of}
use Rattle.dl_buffers.specs.declared.record.FaultRecord.{FaultRecord}
use Rattle.dl_buffers.specs.declared.status.Status.{Status}
use Rattle.dl_buffers.specs.declared.status.Status.TheVariants as status
use Rattle.dl_buffers.specs.Records.{record_of}
use Rattle.dl_buffers.specs.UnitCalls.{BeginsWith, StopsIn, length_told, written_over}

abbrev pub both_strings : (line_str str : List ℕ) → Strings
both_strings line_str str = record { line_strings = Some line_str; strings = Some str }

-- `??` where the path isn't known
abbrev pub path_or_missing : Option (List ℕ) → List ℕ
path_or_missing path = unwrap_or path (codes "??")

-- of a unit of this version, where that isn't 5: of a room and a length, p and m before it, and q and n after it
abbrev pub Names : (foreign : Option ℕ) (path p q : List ℕ) (m n : ℕ) → Status → Type 0
Names foreign path p q m n status.Done =
    (foreign ≡ None) × (q ≡ written_over p path) × (n ≡ length_told path)
Names foreign path p q m n status.OtherVersion = (version : ℕ) × (foreign ≡ Some version) × (q ≡ p) × (n ≡ m)
Names foreign path p q m n other = ⊥

-- `path_at`: of a room, a length and a fault, p, m and f before it, and q, n and g after it, only what the status says
-- is written
abbrev pub TellsPath : Dialect → (t : List ℕ) (offset : ℕ) → Strings → (file : ℕ) (p q : List ℕ) (m n : ℕ)
    (f g : FaultRecord) → Status → Type 0
TellsPath dialect t offset s file p q m n f g status.Done =
    (u : List ℕ) × BeginsWith dialect t u
    × Names (foreign_in dialect u) (path_or_missing (path_of s (header_of dialect u) file)) p q m n
    status.Done × (g ≡ f)
TellsPath dialect t offset s file p q m n f g status.OtherVersion =
    (u : List ℕ) × BeginsWith dialect t u
    × Names (foreign_in dialect u) (path_or_missing (path_of s (header_of dialect u) file)) p q m n status.OtherVersion
    × (g ≡ f)
TellsPath dialect t offset s file p q m n f g status.NoAnswer = (t ≡ []) × (q ≡ p) × (n ≡ m) × (g ≡ f)
TellsPath dialect t offset s file p q m n f g status.Fault =
    (b : List ℕ) × (at : ℕ) × (kind : FaultKind) × StopsIn dialect t b (run.Damage at kind)
    × (q ≡ p) × (n ≡ m) × (g ≡ record_of (offset + at) kind)
TellsPath dialect t offset s file p q m n f g status.NoMemory =
    (b : List ℕ) × StopsIn dialect t b run.NoMemory × (q ≡ p) × (n ≡ m) × (g ≡ f)
TellsPath dialect t offset s file p q m n f g status.NoRoom = ⊥
