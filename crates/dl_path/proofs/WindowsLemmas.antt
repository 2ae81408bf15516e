-- The last component of a path in parts.
use Rattle.std.proofs.Common.{◌≡◌, ◌⊎◌, inl, inr, ℕ, Bool, true, false, List, [], ◌∷◌, ◌++◌, refl, sym, ap}
use Rattle.std.proofs.Common.{◌∙◌, append_assoc, append-nil}
use Rattle.std.specs.Prelude.{if◌then◌else◌, ◌||◌, Option, unwrap_or}
use Rattle.std.specs.List.{list_any}
use Rattle.std.proofs.lemmas.Bool.{or_right}
use Rattle.dl_path.specs.Paths.{compiled_in, is_of_windows, is_whole, slash_after, under}
use Rattle.dl_path.specs.Shown.{after_the_last, basename, separates}
use Rattle.dl_path.proofs.PathLemmas.{closes}

-- ---- whether it is of Windows

-- ---- what stands after the last separator

module _ (sep : ℕ → Bool) (slash : sep 0x2f ≡ true) where
  any_slash : (a b : List ℕ) → list_any sep (a ++ 0x2f ∷ b) ≡ true
  any_slash [] b = ap (λ (c : Bool). c || list_any sep b) slash
  any_slash (x ∷ a) b = or_right (sep x) (list_any sep (a ++ 0x2f ∷ b)) (any_slash a b)

  after_slash : (a b : List ℕ) → after_the_last sep (a ++ 0x2f ∷ b) ≡ after_the_last sep b
  after_slash [] b =
      ap (λ (c : Bool). if c then after_the_last sep b else 0x2f ∷ b) (any_slash [] b)
  after_slash (x ∷ a) b =
      ap (λ (c : Bool). if c then after_the_last sep (a ++ 0x2f ∷ b) else x ∷ a ++ 0x2f ∷ b) (any_slash (x ∷ a) b)
      ∙ after_slash a b

  pub after_under : (directory path : List ℕ) → after_the_last sep (under directory path) ≡ after_the_last sep path
  after_under [] path = refl
  after_under (b ∷ directory) path = by (closes b directory) where
    by : ((front : List ℕ) × (b ∷ directory ≡ front ++ 0x2f ∷ []) × (slash_after (b ∷ directory) ≡ []))
        ⊎ (slash_after (b ∷ directory) ≡ 0x2f ∷ [])
        → after_the_last sep (under (b ∷ directory) path) ≡ after_the_last sep path
    by (inl (front, is, none)) =
        ap (λ (l : List ℕ). after_the_last sep (((b ∷ directory) ++ l) ++ path)) none
        ∙ ap (λ (l : List ℕ). after_the_last sep (l ++ path)) (append-nil (b ∷ directory) ∙ is)
        ∙ ap (after_the_last sep) (append_assoc front (0x2f ∷ []) path)
        ∙ after_slash front path
    by (inr is) =
        ap (λ (l : List ℕ). after_the_last sep (((b ∷ directory) ++ l) ++ path)) is
        ∙ ap (after_the_last sep) (append_assoc (b ∷ directory) (0x2f ∷ []) path)
        ∙ after_slash (b ∷ directory) path

-- the last component of a path is that of its name, if what comes before tells whether it is of Windows
pub basename_under : (directory path : List ℕ) (of_windows : Bool) → of_windows ≡ is_of_windows (under directory path)
    → basename (under directory path) ≡ after_the_last (separates of_windows) path
basename_under directory path of_windows is =
    ap (λ (w : Bool). after_the_last (separates w) (under directory path)) (sym is)
    ∙ after_under (separates of_windows) refl directory path

-- the same of a path in these directories under that of the compilation
pub basename_compiled : (root : Option (List ℕ)) (directory path : List ℕ) (of_windows : Bool)
    → of_windows ≡ is_of_windows (compiled_in root (under directory path))
    → basename (compiled_in root (under directory path)) ≡ after_the_last (separates of_windows) path
basename_compiled root directory path of_windows is =
    ap (λ (w : Bool). after_the_last (separates w) (compiled_in root (under directory path))) (sym is)
    ∙ by (is_whole (under directory path))
    ∙ after_under (separates of_windows) refl directory path where
      by : (is : Bool) → after_the_last (separates of_windows) (if is then under directory path
          else under (unwrap_or root []) (under directory path)) ≡ after_the_last (separates of_windows) (under directory path)
      by true = refl
      by false = after_under (separates of_windows) refl (unwrap_or root []) (under directory path)
