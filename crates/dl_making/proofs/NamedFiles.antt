-- Each file that is told has a name.
use Rattle.std.proofs.Common.{◌≡◌, ℕ, suc, ◌<◌, ◌^◌, List, [], ◌∷◌, ◌++◌, length, get_or, Option, Some, None}
use Rattle.std.proofs.Common.{refl, sym, ap, ◌∙◌, arith}
use Rattle.std.specs.Prelude.{slice_get}
use Rattle.std.specs.List.{All}
use Rattle.std.specs.Option.{option_and_then, option_map}
use Rattle.std.proofs.lemmas.List.Elements.{All-cons, All-nil}
use Rattle.std.proofs.lemmas.Option.{slice_get_within}
use Rattle.dl_index.specs.Stretches as index
use Rattle.dl_stretch.specs.declared.told.Told.{Told}
use Rattle.dl_stretch.specs.declared.stretch.Stretch.{Stretch}
use Rattle.dl_stretch.specs.Laws.{AtAddresses}
use Rattle.dl_stretch.specs.Stretches.{AreStretches, Apart, Neighbours, told_at}
use Rattle.dl_stretch.proofs.LastBegun.{rise_at, some_at}
use Rattle.dl_stretch.proofs.StretchLemmas.{rise, start_of}
use Rattle.dl_pack.specs.Faults.{TellsUnnamed}
use Rattle.dl_pack.specs.IndexOf.{files_told, told_files}
use Rattle.dl_pack.specs.Named.{Named}
use Rattle.dl_pack.specs.Telling.{named_told, told_as}
use Rattle.dl_making.proofs.IndexLemmas.{none_some, some_same}

-- a stretch tells what is told at its first address
told_here : (stretches : List Stretch) → Neighbours Apart stretches → (k : ℕ) (d : Stretch) → k < length stretches
    → told_at stretches (get_or stretches k d).start ≡ (get_or stretches k d).told
told_here stretches apart k d lt =
    ap (option_and_then (λ (s : Stretch). s.told))
    (some_at start_of stretches (get_or stretches k d).start k d (rise stretches apart) lt (omega arith)
    (λ more. rise_at start_of stretches (rise stretches apart) k (suc k) d (omega arith) more))

module _ (files : List Named) where
  some_within : (t : Told) (o : Option Named) (u : index.Told) → slice_get files t.file ≡ o
      → option_map (told_as t) o ≡ Some u → t.file < length files
  some_within t None u at is = absurd (none_some u is)
  some_within t (Some file) u at is = slice_get_within files t.file file at

  within : (t : Told) (w : Option index.Told) → option_map (named_told files) (Some t) ≡ option_map Some w
      → t.file < length files
  within t None is = absurd (none_some (named_told files t) (sym is))
  within t (Some u) is = some_within t (slice_get files t.file) u refl (some_same (named_told files t) (Some u) is)

  all_told : (stretches : List Stretch)
      → ((k : ℕ) (d : Stretch) (t : Told) → k < length stretches → (get_or stretches k d).told ≡ Some t
      → t.file < length files)
      → All (λ file. file < length files) (files_told stretches)
  all_told [] each = All-nil (λ file. file < length files)
  all_told (s ∷ stretches) each = first s.told refl (all_told stretches (λ k d t lt is. each (suc k) d t (omega arith) is))
    where
      first : (o : Option Told) → s.told ≡ o → All (λ file. file < length files) (files_told stretches)
          → All (λ file. file < length files) (told_files o ++ files_told stretches)
      first None is rest = rest
      first (Some t) is rest =
          All-cons (λ file. file < length files) t.file (files_told stretches) (each 0 s t (omega arith) is) rest

  -- what is told of each address is named
  pub none_unnamed : (told : ℕ → Option Told) (f : ℕ → Option index.Told) (stretches : List Stretch)
      → AreStretches told stretches → AtAddresses stretches
      → ((a : ℕ) → a < 2 ^ 64 → option_map (named_told files) (told a) ≡ option_map Some (f a))
      → TellsUnnamed (length files) stretches → ⊥
  none_unnamed told f stretches are starts named (file, (k, lt, at), le) =
      let each : All (λ file. file < length files) (files_told stretches) =
      all_told stretches (λ k d t lt is.
      (let a = (get_or stretches k d).start in
      within t (f a) (ap (option_map (named_told files)) (sym is ∙ sym (told_here stretches are.apart k d lt)
      ∙ are.right a (starts k d lt)) ∙ named a (starts k d lt)))) in
      let has : get_or (files_told stretches) k file < length files = each k file lt in
      omega (arith, has, at, le)
