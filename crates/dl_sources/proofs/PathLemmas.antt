-- A path that is put together of its parts.
use Rattle.std.proofs.Common.{◌≡◌, ◌≤◌, ℕ, ◌+◌, ◌*◌, Bool, true, false, List, [], ◌++◌, length, Option}
use Rattle.std.proofs.Common.{arith, refl, sym, ap, ◌∙◌, append_assoc, length-append}
use Rattle.std.specs.Prelude.{cond, unwrap_or}
use Rattle.std.specs.Option.{option_map_or}
use Rattle.dl_path.specs.declared.path.Path.{Path}
use Rattle.dl_path.specs.Parts.{path_apart, path_seen}
use Rattle.dl_path.specs.Paths.{compiled_in, is_whole, slash_after, under}
use Rattle.dl_path.specs.PathTexts.{folder, root_of}
use Rattle.dl_path.specs.TextRoom.{PartsWithin}
use Rattle.dl_path.proofs.PathLemmas.{slash_after-under}
use Rattle.dl_making.proofs.FewLemmas.{root_few, slash_few}

module _ (directory : Option (List ℕ)) (p : Path) where
  -- what comes before a path is what it is under
  root_before : (path : List ℕ) → folder (root_of directory path) ++ path ≡ compiled_in directory path
  root_before path = by (is_whole path) where
    by : (whole : Bool)
        → folder (cond whole [] (unwrap_or directory [])) ++ path ≡ cond whole path (under (unwrap_or directory []) path)
    by true = refl
    by false = refl

  -- a path in folders, one after the other
  folders : path_seen p ≡ folder p.base.now ++ (folder p.directory.now ++ p.name.now)
  folders =
      ap (λ (w : List ℕ). (under p.base.now p.directory.now ++ w) ++ p.name.now) (slash_after-under p.base.now p.directory.now)
      ∙ ap (λ (w : List ℕ). w ++ p.name.now) (append_assoc (folder p.base.now) p.directory.now (slash_after p.directory.now))
      ∙ append_assoc (folder p.base.now) (folder p.directory.now) p.name.now

  abbrev pub root : List ℕ
  root = root_of directory (path_seen p)

  pub whole_is : folder root ++ (folder p.base.now ++ (folder p.directory.now ++ p.name.now))
      ≡ compiled_in directory (path_seen p)
  whole_is = ap (λ (w : List ℕ). folder root ++ w) (sym folders) ∙ root_before (path_seen p)

  folder_len : (w : List ℕ) → (length w ≤ length (folder w)) × (length (folder w) ≤ length w + 1)
  folder_len w = (
    omega (arith, length-append w (slash_after w)),
    omega (arith, length-append w (slash_after w), slash_few w),
  )

  pub whole_len : length (compiled_in directory (path_seen p))
      ≡ length (folder root) + length (folder p.base.now) + length (folder p.directory.now) + length p.name.now
  whole_len = omega (
    arith,
    ap length whole_is,
    length-append (folder root) (folder p.base.now ++ (folder p.directory.now ++ p.name.now)),
    length-append (folder p.base.now) (folder p.directory.now ++ p.name.now),
    length-append (folder p.directory.now) p.name.now,
  )

  -- no part is longer than it
  pub parts_few : (length root ≤ length (folder root)) × (length p.base.now ≤ length (folder p.base.now))
      × (length p.directory.now ≤ length (folder p.directory.now))
  parts_few = ((folder_len root).0, (folder_len p.base.now).0, (folder_len p.directory.now).0)

  -- nor it than its parts
  pub whole_few : (most : ℕ) → PartsWithin most (path_apart p)
      → length (compiled_in directory (path_seen p)) ≤ option_map_or length directory 0 + 3 * most + 3
  whole_few most within = omega (
    arith,
    whole_len,
    (folder_len root).1,
    (folder_len p.base.now).1,
    (folder_len p.directory.now).1,
    root_few directory (path_seen p),
    within.base,
    within.directory,
    within.name,
  )
