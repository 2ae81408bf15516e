-- What the call that tells the paths of many files answers. t: the bytes of the section from the offset on. DWARF 5,
-- sections 6.2.4 and 6.2.4.1.
use Rattle.std.specs.Prelude.{◌≡◌, ◌<◌, ◌≤◌, ◌-◌, ◌^◌, ℕ, ◌+◌, List, [], ◌∷◌, length, map, min, Option, Some, None}
use Rattle.std.specs.List.{concat}
use Rattle.dl_head.specs.declared.dialect.Dialect.{Dialect}
use Rattle.dl_field.specs.HeaderData.{HeaderData}
use Rattle.dl_table.specs.declared.fault.FaultKind.{FaultKind}
use Rattle.dl_head.specs.Header.{foreign_in}
use Rattle.dl_print.specs.ValueText.{Strings}
use Rattle.dl_sections.specs.declared.fault.RunFault.TheVariants as run
use Rattle.dl_sections.specs.Section.{header_of}
use Rattle.dl_path.specs.Paths.{path_of}
use Rattle.dl_buffers.specs.declared.record.FaultRecord.{FaultRecord}
use Rattle.dl_buffers.specs.declared.status.Status.{Status}
use Rattle.dl_buffers.specs.declared.status.Status.TheVariants as status
use Rattle.dl_buffers.specs.PathCalls.{path_or_missing}
use Rattle.dl_buffers.specs.Records.{record_of}
use Rattle.dl_buffers.specs.UnitCalls.{BeginsWith, StopsIn, length_told, written_over}

-- the path of a file, as `path_at` tells it
abbrev pub path_told : Strings → Option HeaderData → (file : ℕ) → List ℕ
path_told s header file = path_or_missing (path_of s header file)

-- of files
abbrev pub paths_of : Strings → Option HeaderData → (files : List ℕ) → List (List ℕ)
paths_of s header files = map (path_told s header) files

-- of texts that stand one after the other, the first after that many bytes: where each ends, in 64 bits
abbrev pub ends_from : (before : ℕ) → (texts : List (List ℕ)) → List ℕ
ends_from before [] = []
ends_from before (text ∷ texts) = min (before + length text) (2 ^ 64 - 1) ∷ ends_from (before + length text) texts

-- of a room for the paths and one for their ends, p and m before, and q and n after: both are written as far as they
-- fit
abbrev pub AreTold : (paths : List (List ℕ)) (p q m n : List ℕ) → Type 0
AreTold paths p q m n = (q ≡ written_over p (concat paths)) × (n ≡ written_over m (ends_from 0 paths))

-- of a unit of this version, where that isn't 5
abbrev pub NamesAll : (foreign : Option ℕ) → (paths : List (List ℕ)) (p q m n : List ℕ) → Status → Type 0
NamesAll foreign paths p q m n status.Done =
    (foreign ≡ None) × AreTold paths p q m n × (length_told (concat paths) ≤ length p)
NamesAll foreign paths p q m n status.NoRoom =
    (foreign ≡ None) × AreTold paths p q m n × (length p < length_told (concat paths))
NamesAll foreign paths p q m n status.OtherVersion = (version : ℕ) × (foreign ≡ Some version) × (q ≡ p) × (n ≡ m)
NamesAll foreign paths p q m n other = ⊥

-- `paths_at`: of a room for the paths, one for their ends and a fault, p, m and f before it, and q, n and g after it,
-- only what the status says is written
abbrev pub TellsPaths : Dialect → (t : List ℕ) (offset : ℕ) → Strings → (files p q m n : List ℕ) (f g : FaultRecord)
    → Status → Type 0
TellsPaths dialect t offset s files p q m n f g status.NoAnswer = (t ≡ []) × (q ≡ p) × (n ≡ m) × (g ≡ f)
TellsPaths dialect t offset s files p q m n f g status.Fault =
    (b : List ℕ) × (at : ℕ) × (kind : FaultKind) × StopsIn dialect t b (run.Damage at kind)
    × (q ≡ p) × (n ≡ m) × (g ≡ record_of (offset + at) kind)
TellsPaths dialect t offset s files p q m n f g status.NoMemory =
    (b : List ℕ) × StopsIn dialect t b run.NoMemory × (q ≡ p) × (n ≡ m) × (g ≡ f)
TellsPaths dialect t offset s files p q m n f g end =
    (u : List ℕ) × BeginsWith dialect t u
    × NamesAll (foreign_in dialect u) (paths_of s (header_of dialect u) files) p q m n end × (g ≡ f)
