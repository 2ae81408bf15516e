-- What is told of a file before its line table is read: where it has code, and in which directories its units were compiled.
-- DWARF 5, section 3.1.1. f: the bytes of the file; fails: the errors that opening and reading it may give; refuses: for how
-- many items memory is refused; are_wanted: the
-- directories are looked for.
use Rattle.std.specs.Prelude.{◌≡◌, ◌⊎◌, ℕ, Bool, true, false, is_none, List, Option, None}
use Rattle.std.specs.Option.{option_or}
use Rattle.std.specs.declared.io.Error.{Error}
use Rattle.dl_cmd.specs.Job.{AddrTexts, Text}
use Rattle.dl_open.specs.Code.{RefusesCode}
use Rattle.dl_open.specs.Directories.{AreDirectories, RefusesDirectories}
use Rattle.dl_open.specs.declared.fault.FileFault.{FileFault}
use Rattle.dl_open.specs.declared.fault.FileFault.TheVariants.{Elf, Open}
use Rattle.dl_elf.specs.declared.fault.ElfFault.TheVariants.{Read}

-- for `addr` they are looked for where none is said
abbrev pub wants_directories : AddrTexts → Bool
wants_directories w = is_none w.comp_dir

-- those that the file says, by the offsets of its units; none where they aren't looked for
abbrev pub AreFound : (are_wanted : Bool) (f : List ℕ) → (ℕ → Option (List ℕ)) → Type 0
AreFound true f g = AreDirectories f g
AreFound false f g = (n : ℕ) → g n ≡ None

-- why they can't be, where they are looked for
abbrev pub RefusesFinding : (refuses : ℕ → Type 0) (are_wanted : Bool) (fails : Error → Type 0) (f : List ℕ) → FileFault → Type 0
RefusesFinding refuses are_wanted fails f (Elf fault) = (are_wanted ≡ true) × RefusesDirectories refuses fails f fault
RefusesFinding refuses are_wanted fails f other = ⊥

-- it can't be told where the file has code, or in which directories its units were compiled
abbrev pub RefusesOpening : (refuses : ℕ → Type 0) (are_wanted : Bool) (fails : Error → Type 0) (f : List ℕ) → FileFault → Type 0
RefusesOpening refuses are_wanted fails f fault = RefusesCode refuses fails f fault ⊎ RefusesFinding refuses are_wanted fails f fault

-- a file can't be opened, or its first bytes can't be read
abbrev pub IsNotOpen : (fails : Error → Type 0) → FileFault → Type 0
IsNotOpen fails (Open error) = fails error
IsNotOpen fails (Elf (Read error)) = fails error
IsNotOpen fails other = ⊥

-- the directory that the words say of all units, or else those that were found
abbrev pub compiled_by : (said : Option Text) (found : ℕ → Option (List ℕ)) → (unit : ℕ) → Option (List ℕ)
compiled_by said found unit = option_or said (found unit)
