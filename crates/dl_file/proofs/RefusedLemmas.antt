-- Want of memory that is handed on.
use Rattle.std.proofs.Common.{◌≡◌, ◌⊎◌, ◌+◌, ◌^◌, ◌≤◌, length, ℕ, List, Result, Ok, Err, Some, inl, inr, sym}
use Rattle.std.proofs.Math.Nat.{le_trans}
use Rattle.dl_memory.specs.Refusals.{IsRefused}
use Rattle.dl_elf.specs.Answers.{IfRefused}
use Rattle.dl_elf.specs.declared.fault.ElfFault.{ElfFault}
use Rattle.dl_elf.specs.declared.fault.ElfFault.TheVariants as fault
use Rattle.dl_elf.specs.declared.file.Elf.{Elf}
use Rattle.dl_elf.specs.Found.{AreFound, Sections}
use Rattle.dl_elf.specs.Sections.{opened}
use Rattle.dl_file.specs.declared.info_file.InfoSections.{InfoSections}
use Rattle.dl_file.specs.declared.line_file.Chosen.{Chosen}
use Rattle.dl_file.specs.declared.line_file.Wanted.{Wanted}
use Rattle.dl_file.specs.InfoTable.{InfoTooLong, info_sections}
use Rattle.dl_file.specs.LineTable.{HoldsTooMuch, LineTooLong, chosen, with_stream}

-- by a fault
pub refused_err : (P Q : Type 0) (why : ElfFault) → (P → Q) → IfRefused {A = Unit {0}} P (Err why)
    → IfRefused {A = Unit {0}} Q (Err why)
refused_err P Q fault.NoMemory wider refused = wider refused
refused_err P Q other wider refused = tt

-- by an answer
pub refused_in : {A : Type 0} (P Q : Type 0) (r : Result A ElfFault) → (P → Q) → IfRefused P r → IfRefused Q r
refused_in P Q (Ok x) wider refused = tt
refused_in P Q (Err why) wider refused = refused_err P Q why wider refused

-- the line section of a file is too long to be held
pub line_too_long : {A : Type 0} (Refusal : Type 0) (f : List ℕ) (wanted : Wanted) (e : Elf) (at : Sections) (c : Chosen)
    (r : Result A ElfFault) → Ok e ≡ opened f → AreFound e f at → Some c ≡ chosen at wanted
    → IfRefused (Refusal ⊎ HoldsTooMuch e f (with_stream e f c.line)) r → IfRefused (Refusal ⊎ LineTooLong f wanted) r
line_too_long Refusal f wanted e at c r is found these =
    refused_in (Refusal ⊎ HoldsTooMuch e f (with_stream e f c.line)) (Refusal ⊎ LineTooLong f wanted) r
    (λ why. elim why [ inl refused ↦ inl refused | inr much ↦ inr (e, sym is, at, found, c, sym these, much) ])

-- or its .debug_info
pub info_too_long : {A : Type 0} (Refusal : Type 0) (f : List ℕ) (e : Elf) (at : Sections) (c : InfoSections)
    (r : Result A ElfFault) → Ok e ≡ opened f → AreFound e f at → Some c ≡ info_sections e f at
    → IfRefused (Refusal ⊎ HoldsTooMuch e f c.info) r → IfRefused (Refusal ⊎ InfoTooLong f) r
info_too_long Refusal f e at c r is found these =
    refused_in (Refusal ⊎ HoldsTooMuch e f c.info) (Refusal ⊎ InfoTooLong f) r
    (λ why. elim why [ inl refused ↦ inl refused | inr much ↦ inr (e, sym is, at, found, c, sym these, much) ])

-- ---- for how many items

-- for no more than the file has bytes
pub refused_within : (T : Type 0) (refuses : ℕ → Type 0) (f : List ℕ) (most : ℕ) (why : ElfFault) → most ≤ length f + 2 ^ 32
    → IfRefused {A = Unit {0}} (IsRefused refuses most) (Err why)
    → IfRefused {A = Unit {0}} (IsRefused refuses (length f + 2 ^ 32) ⊎ T) (Err why)
refused_within T refuses f most why few =
    refused_err (IsRefused refuses most) (IsRefused refuses (length f + 2 ^ 32) ⊎ T) why
    (λ refused. inl (refused.0, le_trans refused.1 few, refused.2))
