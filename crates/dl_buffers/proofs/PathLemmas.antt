-- The path of a file of the unit that bytes begin with.
use Rattle.std.proofs.Common.{ℕ, List, refl}
use Rattle.dl_head.specs.declared.dialect.Dialect.{Dialect}
use Rattle.dl_head.specs.Header.{foreign_in}
use Rattle.dl_print.specs.ValueText.{Strings}
use Rattle.dl_sections.specs.Section.{header_of}
use Rattle.dl_path.specs.Paths.{path_of}
use Rattle.dl_buffers.specs.declared.record.FaultRecord.{FaultRecord}
use Rattle.dl_buffers.specs.declared.status.Status.{Status}
use Rattle.dl_buffers.specs.declared.status.Status.TheVariants as status
use Rattle.dl_buffers.specs.PathCalls.{Names, TellsPath, path_or_missing}
use Rattle.dl_buffers.specs.UnitCalls.{BeginsWith}

module _ (dialect : Dialect) (t : List ℕ) (offset : ℕ) (s : Strings) (file : ℕ) (p q : List ℕ) (m n : ℕ)
    (f : FaultRecord)
    (u : List ℕ) (begins : BeginsWith dialect t u) where
  -- the unit is whole
  pub named : (end : Status)
      → Names (foreign_in dialect u) (path_or_missing (path_of s (header_of dialect u) file)) p q m n end
      → TellsPath dialect t offset s file p q m n f f end
  named status.Done names = (u, begins, names, refl)
  named status.OtherVersion names = (u, begins, names, refl)
  named status.Fault names = absurd names
  named status.NoAnswer names = absurd names
  named status.NoMemory names = absurd names
  named status.NoRoom names = absurd names
