-- How reads of an index in a file fail.
use Rattle.std.specs.Prelude.{◌≡◌, ◌⊎◌, ◌+◌, ◌<◌, ◌≤◌, ℕ, List, length, Option}
use Rattle.std.specs.IoError.{error_kind}
use Rattle.std.specs.declared.io.ErrorKind.TheVariants.{UnexpectedEof}
use Rattle.std.specs.declared.io.Error.{Error}
use Rattle.dl_elf.specs.Source.{ForBytes}
use Rattle.dl_elf.specs.declared.file.Range.{Range}
use Rattle.dl_memory.specs.Refusals.{IsRefused}
use Rattle.dl_index_file.specs.declared.fault.TextFault.{TextFault}
use Rattle.dl_index_file.specs.declared.fault.TextFault.TheVariants.{Read, NoMemory}

-- a read fails with this error: it is one of the source, or the file has ended though it was as long as its header says
-- when it was opened, which isn't so of known bytes
abbrev pub ReadFails : Option (List ℕ) → (Error → Type 0) → Error → Type 0
ReadFails known Fails error = Fails error ⊎ ((error_kind error ≡ UnexpectedEof) × ForBytes known (λ _. ⊥))

-- memory was refused for bytes of a text behind so many others: for no more of it than its size, nor than stand in the file
abbrev pub TextRefused : Option (List ℕ) → (refuses : ℕ → Type 0) → (before : ℕ) → (text : Range) → Type 0
TextRefused known refuses before text = (n : ℕ) × (n ≤ before + text.size)
    × ForBytes known (λ b. n + text.offset ≤ before + length b) × refuses n

-- of a text, which is put behind so many bytes, not all is read: a read failed with an error of the source, or the file ends
-- before, or memory was refused
abbrev pub TextFails : Option (List ℕ) → (Error → Type 0) → (refuses : ℕ → Type 0) → (before : ℕ) → (text : Range) → TextFault
    → Type 0
TextFails known Fails refuses before text (Read error) =
    Fails error ⊎ ((error_kind error ≡ UnexpectedEof) × ForBytes known (λ b. length b < text.offset + text.size))
TextFails known Fails refuses before text NoMemory = TextRefused known refuses before text

-- not all bytes, of which there are so many, are read: a read failed with an error of the source, or memory was refused
abbrev pub ReadIsLost : (Error → Type 0) → (refuses : ℕ → Type 0) → (most : ℕ) → Type 0
ReadIsLost Fails refuses most = ((error : Error) × Fails error) ⊎ IsRefused refuses most
