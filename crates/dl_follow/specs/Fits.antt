-- Whether a file is the one that is looked for. f: its bytes; fails: the errors that reading it may give.
use Rattle.std.specs.Prelude.{◌≡◌, ◌≢◌, ◌⊎◌, ℕ, List, Option, Some}
use Rattle.std.specs.declared.io.Error.{Error}
use Rattle.dl_crc.specs.Crc32.{crc_32}
use Rattle.dl_elf.specs.declared.fault.ElfFault.{ElfFault}
use Rattle.dl_open.specs.BuildIds.{IsBuildId, RefusesBuildId}
use Rattle.dl_follow.specs.declared.fit.Fit.{Fit}
use Rattle.dl_follow.specs.declared.fit.Fit.TheVariants.{Build, Checked}

-- by its build ID, or by CRC-32 of its bytes
pub data FitData : Type 0 where
  build : (id : List ℕ) → FitData
  checked : (crc : ℕ) → FitData

abbrev pub fit_seen : Fit → FitData
fit_seen (Build id) = build id.now
fit_seen (Checked crc) = checked crc

abbrev pub Fits : FitData → (f : List ℕ) → Type 0
Fits (build id) f = IsBuildId f (Some id)
Fits (checked crc) f = crc_32 f ≡ crc

-- it has another build ID, or none, or it can't be told: a read failed, or its headers are at fault
abbrev pub MissesBuild : (fails : Error → Type 0) → (id : List ℕ) → (f : List ℕ) → Type 0
MissesBuild fails id f = ((other : Option (List ℕ)) × IsBuildId f other × (other ≢ Some id))
    ⊎ ((fault : ElfFault) × RefusesBuildId fails f fault)

-- its check value is another, or a read failed
abbrev pub MissesCrc : (fails : Error → Type 0) → (crc : ℕ) → (f : List ℕ) → Type 0
MissesCrc fails crc f = (crc_32 f ≢ crc) ⊎ ((error : Error) × fails error)

abbrev pub Misses : (fails : Error → Type 0) → FitData → (f : List ℕ) → Type 0
Misses fails (build id) f = MissesBuild fails id f
Misses fails (checked crc) f = MissesCrc fails crc f
