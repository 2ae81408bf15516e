-- Why an index isn't made. refuses: for how many items memory is refused.
use Rattle.std.specs.Prelude.{◌⊎◌, ℕ, ◌<◌, ◌≤◌, ◌^◌, List, [], ◌∷◌, length}
use Rattle.std.specs.List.{Contains}
use Rattle.dl_memory.specs.Refusals.{WasRefused}
use Rattle.dl_stretch.specs.declared.stretch.Stretch.{Stretch}
use Rattle.dl_stretch.specs.Laws.{AtAddresses}
use Rattle.dl_pack.specs.declared.fault.PackFault.{PackFault}
use Rattle.dl_pack.specs.declared.fault.PackFault.TheVariants as fault
use Rattle.dl_pack.specs.declared.names.FileTexts.{FileTexts}
use Rattle.dl_pack.specs.IndexOf.{files_of_stretch, files_told, file_order, text_order}
use Rattle.dl_pack.specs.Numbering.{mentioned}

-- a stretch tells a file of which there is no name, where the numbers below `files` have one
abbrev pub TellsUnnamed : (files : ℕ) → List Stretch → Type 0
TellsUnnamed files stretches = (file : ℕ) × Contains (files_told stretches) file × (files ≤ file)

-- one of them does, of the list that something stands for
abbrev pub StandsUnnamed : (List Stretch → Type 0) → (files : ℕ) → Type 0
StandsUnnamed stands files = (list : List Stretch) × stands list × TellsUnnamed files list

-- more are mentioned than have numbers from 1 to 2^32 - 1
abbrev pub AreTooMany : List ℕ → Type 0
AreTooMany order = 2 ^ 32 ≤ length order

-- so many files are told, or so many texts of these
abbrev pub TellsTooMany : List FileTexts → List Stretch → Type 0
TellsTooMany files stretches = AreTooMany (file_order stretches) ⊎ AreTooMany (text_order files (file_order stretches))

-- of the list that something stands for, of which each begins at an address
abbrev pub StandsTooMany : (List Stretch → Type 0) → List FileTexts → Type 0
StandsTooMany stands files = (list : List Stretch) × stands list × AtAddresses list × TellsTooMany files list

-- before anything is written
abbrev pub TotalsFail : (refuses : ℕ → Type 0) → List FileTexts → (List Stretch → Type 0) → PackFault → Type 0
TotalsFail refuses files stands fault.BuildId = ⊥
TotalsFail refuses files stands fault.File = StandsUnnamed stands (length files)
TotalsFail refuses files stands fault.TooMany = StandsTooMany stands files
TotalsFail refuses files stands fault.NoMemory = WasRefused refuses

-- when each fault comes: a build ID that is too long before all else
abbrev pub PackFails : (refuses : ℕ → Type 0) → (build_id : List ℕ) → List FileTexts → (List Stretch → Type 0)
    → PackFault → Type 0
PackFails refuses build_id files stands fault.BuildId = 32 < length build_id
PackFails refuses build_id files stands other = (length build_id ≤ 32) × TotalsFail refuses files stands other

-- of the files alone
abbrev pub MentionFails : (files : ℕ) → List Stretch → PackFault → Type 0
MentionFails files stretches fault.BuildId = ⊥
MentionFails files stretches fault.File = TellsUnnamed files stretches
MentionFails files stretches fault.TooMany = AreTooMany (file_order stretches)
MentionFails files stretches fault.NoMemory = ⊥

-- of one stretch more, where files were mentioned in this order
abbrev pub MoreFails : (files : ℕ) (order : List ℕ) → Stretch → PackFault → Type 0
MoreFails files order s fault.BuildId = ⊥
MoreFails files order s fault.File = TellsUnnamed files (s ∷ [])
MoreFails files order s fault.TooMany = AreTooMany (mentioned order (files_of_stretch s))
MoreFails files order s fault.NoMemory = ⊥

-- of the texts of files that were mentioned in this order
abbrev pub TextsFail : (refuses : ℕ → Type 0) → List FileTexts → List ℕ → PackFault → Type 0
TextsFail refuses files order fault.BuildId = ⊥
TextsFail refuses files order fault.File = ⊥
TextsFail refuses files order fault.TooMany = AreTooMany (text_order files order)
TextsFail refuses files order fault.NoMemory = WasRefused refuses
