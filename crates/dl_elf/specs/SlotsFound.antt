-- The slots of a pass over the section headers, as far as it has come. No promise rests on this file.
use Rattle.std.specs.Prelude.{ℕ, ◌<◌, List, Option}
use Rattle.dl_elf.specs.declared.file.Elf.{Elf}
use Rattle.dl_elf.specs.declared.named.NamedSection.{NamedSection}
use Rattle.dl_elf.specs.Found.{FoundBefore}
use Rattle.dl_elf.specs.Slots.{slot_at, name_at}

-- each slot has the first section of its name, of those before number n
abbrev pub AreFoundBefore : Elf → List ℕ → ℕ → List (Option NamedSection) → Type 0
AreFoundBefore e f n slots = (k : ℕ) → k < 16 → FoundBefore e f (name_at k) n (slot_at slots k)
