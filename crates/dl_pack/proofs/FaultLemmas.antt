-- Files that have no name, and files and texts that are too many.
use Rattle.std.proofs.Common.{◌≡◌, inl, ℕ, ◌≤◌, List, [], ◌∷◌, ◌++◌, length, refl, sym, subst, arith}
use Rattle.std.specs.Prelude.{Some, Result, Ok, Err, OnErr}
use Rattle.std.specs.List.{Contains}
use Rattle.dl_stretch.specs.declared.told.Told.{Told}
use Rattle.dl_stretch.specs.declared.stretch.Stretch.{Stretch}
use Rattle.dl_stretch.specs.Laws.{AtAddresses}
use Rattle.dl_pack.specs.declared.fault.PackFault.{PackFault}
use Rattle.dl_pack.specs.declared.fault.PackFault.TheVariants as fault
use Rattle.dl_pack.specs.declared.names.FileTexts.{FileTexts}
use Rattle.dl_pack.specs.IndexOf.{told_files}
use Rattle.dl_pack.specs.Faults.{TellsUnnamed, MentionFails, TotalsFail}

-- a stretch that tells this
pub unnamed_here : (s : Stretch) (told : Told) (files : ℕ) → s.told ≡ Some told → files ≤ told.file
    → TellsUnnamed files (s ∷ [])
unnamed_here s told files is le =
    (told.file, subst (λ o. Contains (told_files o ++ []) told.file) (sym is) (0, omega arith, refl), le)

-- what holds at any error
pub on_err : {A E K : Type 0} (r : Result A E) → K → OnErr r K
on_err (Ok x) k = tt
on_err (Err e) k = k

module _ (refuses : ℕ → Type 0) (files : List FileTexts) (stands : List Stretch → Type 0) where
  pub totals_fail : (list : List Stretch) (f : PackFault) → stands list → AtAddresses list → MentionFails (length files) list f
      → TotalsFail refuses files stands f
  totals_fail list fault.BuildId s at h = h
  totals_fail list fault.File s at h = (list, s, h)
  totals_fail list fault.TooMany s at h = (list, s, at, inl h)
  totals_fail list fault.NoMemory s at h = absurd h
