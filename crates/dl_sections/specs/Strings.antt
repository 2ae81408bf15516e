-- How the reading of a string section stops. refuses: for how many items memory is refused.
use Rattle.std.specs.Prelude.{ℕ, ◌<◌, ◌≤◌, List, length}
use Rattle.dl_sections.specs.declared.fault.RunFault.{RunFault}
use Rattle.dl_sections.specs.declared.fault.RunFault.TheVariants.{NoMemory, Read, SectionTooLong}

-- the bytes were read within the limit when memory was refused for a list of them, or the reader failed; or they go past it
abbrev pub StopsReading : (refuses : ℕ → Type 0) (limit : ℕ) (bytes : List ℕ) → RunFault → Type 0
StopsReading refuses limit bytes NoMemory = (length bytes ≤ limit) × refuses (length bytes)
StopsReading refuses limit bytes Read = length bytes ≤ limit
StopsReading refuses limit bytes SectionTooLong = limit < length bytes
StopsReading refuses limit bytes _ = ⊥
