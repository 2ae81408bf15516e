-- The parts of a path, one after the other.
use Rattle.std.proofs.Common.{◌≡◌, ◌⊎◌, inl, inr, ℕ, zero, suc, ◌<◌, ◌-◌, List, [], ◌∷◌, ◌++◌, length, get_or, refl}
use Rattle.std.proofs.Common.{sym, ap, ◌∙◌}
use Rattle.std.proofs.Common.{arith, append-nil, append_assoc, Bool, true, false}
use Rattle.std.proofs.lemmas.Bool.{eqb-true}
use Rattle.std.specs.Prelude.{◌==◌, if◌then◌else◌}
use Rattle.dl_path.specs.Paths.{slash_after, under}

-- of bytes that end with a directory's last one, what stands after it
slash_after-append : (front : List ℕ) (b : ℕ) (directory : List ℕ)
    → slash_after (front ++ b ∷ directory) ≡ slash_after (b ∷ directory)
slash_after-append [] b directory = refl
slash_after-append (x ∷ []) b directory = refl
slash_after-append (x ∷ y ∷ front) b directory = slash_after-append (y ∷ front) b directory

last_at : (directory : List ℕ) (n d : ℕ) → suc n ≡ length directory
    → slash_after directory ≡ (if get_or directory n d == 0x2f then [] else 0x2f ∷ [])
last_at [] n d is = absurd (omega (arith, is))
last_at (b ∷ []) zero d is = refl
last_at (b ∷ []) (suc n) d is = absurd (omega (arith, is))
last_at (b ∷ c ∷ directory) zero d is = absurd (omega (arith, is))
last_at (b ∷ c ∷ directory) (suc n) d is = last_at (c ∷ directory) n d (omega (arith, is))

-- what stands after a directory is told by its last byte
pub slash_after-last : (directory : List ℕ) (d : ℕ) → 0 < length directory
    → slash_after directory ≡ (if get_or directory (length directory - 1) d == 0x2f then [] else 0x2f ∷ [])
slash_after-last directory d some = last_at directory (length directory - 1) d (omega (arith, some))

-- nothing after a directory and what stands after it
slash_once : (directory : List ℕ) → slash_after (directory ++ slash_after directory) ≡ []
slash_once [] = refl
slash_once (b ∷ []) = by (b == 0x2f) refl where
  by : (is : Bool) → (b == 0x2f) ≡ is → slash_after (b ∷ (if is then [] else 0x2f ∷ [])) ≡ []
  by true e = ap (λ (c : Bool). if c then [] else 0x2f ∷ []) e
  by false e = refl
slash_once (b ∷ c ∷ directory) =
    slash_after-append (b ∷ []) c (directory ++ slash_after (c ∷ directory)) ∙ slash_once (c ∷ directory)

pub slash_after-under : (base directory : List ℕ) → slash_after (under base directory) ≡ slash_after directory
slash_after-under base [] = ap slash_after (append-nil (base ++ slash_after base)) ∙ slash_once base
slash_after-under base (b ∷ directory) = slash_after-append (base ++ slash_after base) b directory

-- a directory that isn't empty ends with a slash, or one comes after it
pub closes : (b : ℕ) (directory : List ℕ)
    → ((front : List ℕ) × (b ∷ directory ≡ front ++ 0x2f ∷ []) × (slash_after (b ∷ directory) ≡ []))
    ⊎ (slash_after (b ∷ directory) ≡ 0x2f ∷ [])
closes b [] = by (b == 0x2f) refl where
  by : (is : Bool) → (b == 0x2f) ≡ is
      → ((front : List ℕ) × (b ∷ [] ≡ front ++ 0x2f ∷ []) × (slash_after (b ∷ []) ≡ []))
      ⊎ (slash_after (b ∷ []) ≡ 0x2f ∷ [])
  by true e =
      inl ([], ap (λ (n : ℕ). n ∷ []) (eqb-true b 0x2f e), ap (λ (is : Bool). if is then [] else 0x2f ∷ []) e)
  by false e = inr (ap (λ (is : Bool). if is then [] else 0x2f ∷ []) e)
closes b (c ∷ directory) = further (closes c directory) where
  further : ((front : List ℕ) × (c ∷ directory ≡ front ++ 0x2f ∷ []) × (slash_after (c ∷ directory) ≡ []))
      ⊎ (slash_after (c ∷ directory) ≡ 0x2f ∷ [])
      → ((front : List ℕ) × (b ∷ c ∷ directory ≡ front ++ 0x2f ∷ []) × (slash_after (b ∷ c ∷ directory) ≡ []))
      ⊎ (slash_after (b ∷ c ∷ directory) ≡ 0x2f ∷ [])
  further (inl (front, is, none)) = inl (b ∷ front, ap (λ (l : List ℕ). b ∷ l) is, none)
  further (inr slash) = inr slash

-- what goes apart at each slash goes apart at the borders of a path's parts
module _ (f : List ℕ → List ℕ) (nothing : f [] ≡ [])
    (at_slash : (a b : List ℕ) → f (a ++ 0x2f ∷ b) ≡ f a ++ 0x2f ∷ f b) where
  pub apart : (directory path : List ℕ) → f (under directory path) ≡ (f directory ++ slash_after directory) ++ f path
  apart [] path = ap (λ (l : List ℕ). (l ++ []) ++ f path) (sym nothing)
  apart (b ∷ directory) path = by (closes b directory) where
    by : ((front : List ℕ) × (b ∷ directory ≡ front ++ 0x2f ∷ []) × (slash_after (b ∷ directory) ≡ []))
        ⊎ (slash_after (b ∷ directory) ≡ 0x2f ∷ [])
        → f (under (b ∷ directory) path) ≡ (f (b ∷ directory) ++ slash_after (b ∷ directory)) ++ f path
    by (inl (front, is, none)) =
        ap (λ (l : List ℕ). f (((b ∷ directory) ++ l) ++ path)) none
        ∙ ap (λ (l : List ℕ). f (l ++ path)) (append-nil (b ∷ directory) ∙ is)
        ∙ ap f (append_assoc front (0x2f ∷ []) path)
        ∙ at_slash front path
        ∙ sym (append_assoc (f front) (0x2f ∷ []) (f path))
        ∙ ap (λ (l : List ℕ). (f front ++ 0x2f ∷ l) ++ f path) (sym nothing)
        ∙ ap (λ (l : List ℕ). l ++ f path) (sym (at_slash front []))
        ∙ ap (λ (l : List ℕ). f l ++ f path) (sym is)
        ∙ ap (λ (l : List ℕ). l ++ f path) (sym (append-nil (f (b ∷ directory))))
        ∙ ap (λ (l : List ℕ). (f (b ∷ directory) ++ l) ++ f path) (sym none)
    by (inr slash) =
        ap (λ (l : List ℕ). f (((b ∷ directory) ++ l) ++ path)) slash
        ∙ ap f (append_assoc (b ∷ directory) (0x2f ∷ []) path)
        ∙ at_slash (b ∷ directory) path
        ∙ sym (append_assoc (f (b ∷ directory)) (0x2f ∷ []) (f path))
        ∙ ap (λ (l : List ℕ). (f (b ∷ directory) ++ l) ++ f path) (sym slash)

  pub over_parts : (base directory name : List ℕ)
      → f (under (under base directory) name)
      ≡ ((f base ++ slash_after base) ++ (f directory ++ slash_after directory)) ++ f name
  over_parts base directory name =
      apart (under base directory) name
      ∙ ap (λ (l : List ℕ). (l ++ slash_after (under base directory)) ++ f name) (apart base directory)
      ∙ ap (λ (l : List ℕ). (((f base ++ slash_after base) ++ f directory) ++ l) ++ f name)
      (slash_after-under base directory)
      ∙ ap (λ (l : List ℕ). l ++ f name)
      (append_assoc (f base ++ slash_after base) (f directory) (slash_after directory))
