-- The forms of contracts inside the crate: an answer that is a fault, a failed read or a value.
use Rattle.std.specs.Prelude.{◌≡◌, ℕ, List, Option, Result, Err}
use Rattle.std.specs.declared.io.Error.{Error}
use Rattle.dl_elf.specs.declared.fault.ElfFault.{ElfFault}
use Rattle.dl_elf.specs.declared.fault.ElfFault.TheVariants as fault
use Rattle.dl_elf.specs.Source.{ForBytes}

-- where a read failed, its error is such a one
abbrev pub IfRead : {A : Type 0} → (Error → Type 0) → Result A ElfFault → Type 0
IfRead Fails (Err (fault.Read error)) = Fails error
IfRead Fails result = Unit {0}

-- where memory is wanted, it was refused so
abbrev pub IfRefused : {A : Type 0} → (Refused : Type 0) → Result A ElfFault → Type 0
IfRefused Refused (Err fault.NoMemory) = Refused
IfRefused Refused result = Unit {0}

-- a read failed, or the answer is this one
abbrev pub Answers : {A : Type 0} → Result A ElfFault → Result A ElfFault → Type 0
Answers answer (Err (fault.Read error)) = Unit {0}
Answers answer result = result ≡ answer

-- of known bytes, the answer is this one
abbrev pub AnswersOf : {A : Type 0} → Option (List ℕ) → (List ℕ → Result A ElfFault) → Result A ElfFault → Type 0
AnswersOf known answer result = ForBytes known (λ f. Answers (answer f) result)
