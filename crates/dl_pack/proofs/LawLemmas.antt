-- What stretches tell in the terms of an index.
use Rattle.std.proofs.Common.{◌≡◌, ℕ, Bool, true, false, List, [], ◌∷◌, map, reverse, Option, None, Some, refl, sym, ap, ◌∙◌}
use Rattle.std.specs.Prelude.{if◌then◌else◌, nat_le}
use Rattle.std.specs.List.{find}
use Rattle.std.specs.Option.{option_map, option_and_then}
use Rattle.indexmap.proofs.ReorderLemmas.{map-reverse}
use Rattle.dl_index.specs.Stretches as index
use Rattle.dl_index.specs.Telling.{find_in}
use Rattle.dl_stretch.specs.declared.stretch.Stretch.{Stretch}
use Rattle.dl_pack.specs.Named.{Named}
use Rattle.dl_pack.specs.Telling.{named_told, named_stretch}
use Rattle.dl_pack.specs.Laws.{ApartRise, NamedAreTold, NamedAreFound}

pub apart_rise : ApartRise
apart_rise [] apart = tt
apart_rise (s ∷ []) apart = tt
apart_rise (s ∷ t ∷ stretches) (apart, rest) = (apart.0, apart_rise (t ∷ stretches) rest)

find_cases : (b : Bool) (files : List Named) (s : Stretch) (o : Option index.Stretch) (p : Option Stretch)
    → o ≡ option_map (named_stretch files) p
    → (if b then Some (named_stretch files s) else o) ≡ option_map (named_stretch files) (if b then Some s else p)
find_cases true files s o p e = refl
find_cases false files s o p e = e

find_named : (files : List Named) (stretches : List Stretch) (a : ℕ)
    → find (λ (s : index.Stretch). nat_le s.start a) (map (named_stretch files) stretches)
    ≡ option_map (named_stretch files) (find (λ (s : Stretch). nat_le s.start a) stretches)
find_named files [] a = refl
find_named files (s ∷ stretches) a =
    find_cases (nat_le s.start a) files s _ _ (find_named files stretches a)

told_cases : (files : List Named) (o : Option Stretch)
    → option_and_then (λ (s : index.Stretch). s.told) (option_map (named_stretch files) o)
    ≡ option_and_then (named_told files) (option_and_then (λ (s : Stretch). s.told) o)
told_cases files None = refl
told_cases files (Some s) = refl

pub named_are_told : NamedAreTold
named_are_told files stretches a =
    ap (λ xs. option_and_then (λ (s : index.Stretch). s.told) (find (λ (s : index.Stretch). nat_le s.start a) xs))
    (sym (map-reverse (named_stretch files) stretches))
    ∙ ap (option_and_then (λ (s : index.Stretch). s.told)) (find_named files (reverse stretches) a)
    ∙ told_cases files (find (λ (s : Stretch). nat_le s.start a) (reverse stretches))

pub named_are_found : NamedAreFound
named_are_found b files stretches e a =
    let found : find_in b a ≡ index.told_at (map (named_stretch files) stretches) a = ap (λ xs. index.told_at xs a) e in
    (found, found ∙ named_are_told files stretches a)
