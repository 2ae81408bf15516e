-- Files that rows name, and those that they don't.
use Rattle.std.proofs.Common.{◌≡◌, ◌∙◌, ℕ, ◌+◌, Bool, List, [], ◌∷◌, ◌++◌}
use Rattle.std.proofs.Common.{refl, sym, ap, ap₂}
use Rattle.std.specs.Prelude.{if◌then◌else◌, nat_le, not, ◌&&◌}
use Rattle.std.proofs.lemmas.List.Elements.{filter-append}
use Rattle.std.specs.List.{filter, range_with_len}
use Rattle.dl_table_rules.specs.Keeping.{counted}
use Rattle.dl_table_rules.specs.Unused.{is_among}
use Rattle.dl_table_rules.specs.declared.files_named.FileNumbers.{FileNumbers}
use Rattle.dl_table_rules.proofs.FirstLemmas.{range-append}

-- of numbers one after the other, one more
pub filter-push : (p : ℕ → Bool) (first count : ℕ)
    → filter p (range_with_len first (count + 1))
    ≡ filter p (range_with_len first count) ++ (if p (first + count) then (first + count) ∷ [] else [])
filter-push p first count =
    ap (filter p) (range-append first count 1 (count + 1) (first + count) refl refl)
    ∙ filter-append p (range_with_len first count) ((first + count) ∷ [])

-- ---- those that aren't

abbrev pub is_unused : (files : List ℕ) → ℕ → Bool
is_unused files n = nat_le 2 n && not (is_among files n)

-- of the first numbers
abbrev pub unused_upto : (first : ℕ) (files : List ℕ) → (count : ℕ) → List ℕ
unused_upto first files count = filter (is_unused files) (range_with_len first count)

pub unused-push : (first : ℕ) (files : List ℕ) (count : ℕ)
    → unused_upto first files (count + 1)
    ≡ unused_upto first files count ++ (if is_unused files (first + count) then (first + count) ∷ [] else [])
unused-push first files count = filter-push (is_unused files) first count

-- a number more
pub unused_more : (unused : FileNumbers) (first place number : ℕ) (files : List ℕ) (is_named : Bool) → number ≡ first + place
    → is_named ≡ is_among files (first + place)
    → unused ≡ counted (unused_upto first files place ++ (if nat_le 2 number && not is_named then number ∷ [] else []))
    → unused ≡ counted (unused_upto first files (place + 1))
unused_more unused first place number files is_named at named is =
    is
    ∙ ap₂ (λ (n : ℕ) (b : Bool). counted (unused_upto first files place ++ (if nat_le 2 n && not b then n ∷ [] else []))) at named
    ∙ ap counted (sym (unused-push first files place))
