-- The lines of damaged units.
use Rattle.std.proofs.Common.{◌≡◌, ◌⊎◌, inl, inr, ℕ, false, true, List, [], ◌∷◌, ◌++◌, Option, Result, Ok, Err, subst, sym, append-nil, ap}
use Rattle.std.proofs.Common.{◌∙◌}
use Rattle.std.proofs.lemmas.Grind.{flat_map-append}
use Rattle.std.specs.Prelude.{flat_map}
use Rattle.std.specs.Io.KnownBytes.{Appends}
use Rattle.std.specs.Prelude.{OnErr, OnOk}
use Rattle.std.specs.Result.{is_err}
use Rattle.std.proofs.KnownBytes.{Appends-trans}
use Rattle.dl_sections.specs.declared.around.Damage.{Damage}
use Rattle.dl_program.specs.Damages.{damage_line}

-- one line more
pub lines_more : (start old new : Option (List ℕ)) (told : List Damage) (damage : Damage)
    → Appends start old (flat_map damage_line told) → Appends old new (damage_line damage)
    → Appends start new (flat_map damage_line (told ++ damage ∷ []))
lines_more start old new told damage before line =
    subst (Appends start new) (sym (flat_map-append damage_line told (damage ∷ [])
    ∙ ap (λ (l : List ℕ). flat_map damage_line told ++ l) (append-nil (damage_line damage))))
    (Appends-trans start old new _ _ before line)

-- what is said where a write doesn't fail
pub unless_failed : {T E : Type 0} (P : Type 0) (written : Result T E) → is_err written ≡ false → OnOk written P → P
unless_failed P (Ok v) whole said = said
unless_failed P (Err error) whole said = absurd cc

-- what is said where a write fails
pub where_failed : {T E : Type 0} (P : Type 0) (written : Result T E) → is_err written ≡ true → OnErr written P → P
where_failed P (Ok v) failed said = absurd cc
where_failed P (Err error) failed said = said

-- a write failed before, or fails now
pub either_failed : {A B P : Type 0} → (A → B ⊎ P) → A ⊎ P → B ⊎ P
either_failed before (inl a) = before a
either_failed before (inr p) = inr p
