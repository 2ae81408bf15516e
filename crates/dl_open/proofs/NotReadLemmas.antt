-- Why nothing is told of units of other versions.
use Rattle.std.proofs.Common.{◌≡◌, ℕ, ◌+◌, ◌^◌, List, length, Option, Result, Ok, Err, subst}
use Rattle.std.specs.declared.io.Error.{Error}
use Rattle.std.specs.Prelude.{◌⊎◌}
use Rattle.dl_memory.specs.Refusals.{IsRefused}
use Rattle.dl_elf.specs.Answers.{IfRead, IfRefused}
use Rattle.dl_elf.specs.declared.fault.ElfFault.{ElfFault}
use Rattle.dl_elf.specs.declared.fault.ElfFault.TheVariants.{Read, NoMemory}
use Rattle.dl_file.specs.declared.line_file.LineFile.{LineFile}
use Rattle.dl_file.specs.declared.line_file.Wanted.{Wanted}
use Rattle.dl_file.specs.LineTable.{LineTooLong, Opens}
use Rattle.dl_open.specs.declared.fault.FileFault.TheVariants.{Elf}
use Rattle.dl_open.specs.Tables.{Refuses}

same : {A : Type 0} {e f : ElfFault} → ◌≡◌ {A = Result A ElfFault} (Err e) (Err f) → e ≡ f
same is = cc is

-- a fault of opening the line table
pub refuses : {S : Type 0} {g : _} (refused : ℕ → Type 0) (all_bytes : S → Option (List ℕ)) (fails_with : S → Error → Type 0)
    (fails : Error → Type 0) (f : List ℕ)
    (wanted : Wanted) (result : Result (LineFile S g) ElfFault) (fault : ElfFault) → result ≡ Err fault
    → Opens all_bytes fails_with fails f wanted result → IfRead fails result → IfRefused (IsRefused refused (length f + 2 ^ 32) ⊎ LineTooLong f wanted) result
    → Refuses refused fails f wanted (Elf fault)
refuses refused all_bytes fails_with fails f wanted (Ok file) fault is opens read earned = absurd (cc is)
refuses refused all_bytes fails_with fails f wanted (Err (Read error)) fault is opens read earned =
    subst (λ (e : ElfFault). Refuses refused fails f wanted (Elf e)) (same is) read
refuses refused all_bytes fails_with fails f wanted (Err NoMemory) fault is opens read earned =
    subst (λ (e : ElfFault). Refuses refused fails f wanted (Elf e)) (same is) (opens, earned)
refuses refused all_bytes fails_with fails f wanted (Err other) fault is opens read earned =
    subst (λ (e : ElfFault). Refuses refused fails f wanted (Elf e)) (same is) opens
