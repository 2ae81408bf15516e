-- Relocations of a later section. f: the bytes of a file; e: the file as it is opened.
use Rattle.std.specs.Prelude.{◌≡◌, ℕ, ◌+◌, ◌<◌, ◌≤◌, Bool, false, not, ◌&&◌, ◌==◌, nat_lt, if◌then◌else◌, List}
use Rattle.std.specs.Prelude.{Some}
use Rattle.dl_elf.specs.declared.section.SectionHeader.{SectionHeader}
use Rattle.dl_elf.specs.declared.file.Elf.{Elf}
use Rattle.dl_elf.specs.Elf.{has_relocations, relocates}
use Rattle.dl_elf.specs.Sections.{section_in}

-- section k lies in the file, and has no relocations of a later one
abbrev pub IsBackward : Elf → List ℕ → ℕ → Type 0
IsBackward e f k = (s : SectionHeader) × (section_in e.header f k ≡ Some s)
    × ((number : ℕ) → k < number → relocates number s ≡ false)

-- from number 1 on, each section before number n does
abbrev pub NoneForward : Elf → List ℕ → ℕ → Type 0
NoneForward e f n = (k : ℕ) → 1 ≤ k → k < n → IsBackward e f k

-- section `number`, which s is, has relocations of a later one
abbrev pub relocates_later : (number : ℕ) → SectionHeader → Bool
relocates_later number s = nat_lt number s.info && has_relocations s

-- how far a pass has come without one, after section `number`, which s is
abbrev pub passed : (number : ℕ) → SectionHeader → ℕ → ℕ
passed number s n = if (n == number) && not (relocates_later number s) then number + 1 else n
