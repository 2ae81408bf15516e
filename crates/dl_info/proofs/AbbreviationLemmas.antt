-- Attributes and abbreviations one after the other.
use Rattle.std.proofs.Common.{◌≡◌, ℕ, suc, ◌+◌, ◌-◌, ◌<◌, ◌≤◌, true, false, List, ◌∷◌, Result, Ok, Err}
use Rattle.std.proofs.Common.{refl, sym, ◌∙◌, arith}
use Rattle.std.specs.Prelude.{◌==◌}
use Rattle.dl_info.specs.declared.front.FieldFault.{FieldFault}
use Rattle.dl_info.specs.declared.front.FieldFault.TheVariants.{Short}
use Rattle.dl_info.specs.declared.abbreviation.Attribute.{Attribute}
use Rattle.dl_info.specs.Front.{◌>>=◌, seen}
use Rattle.dl_info.specs.Abbreviations.{Abbreviation, attribute_at, attributes_at, declaration_at, declared_in}
use Rattle.dl_info.specs.Abbreviations.{is_end}

-- ---- attributes

abbrev after_of : Result (List Attribute × List ℕ) FieldFault → Result (List ℕ) FieldFault
after_of r = seen (λ x. x.1) r

-- what follows at most n attributes
abbrev pub end_of : ℕ → List ℕ → Result (List ℕ) FieldFault
end_of n b = after_of (attributes_at n b)

same_end : (a : Attribute) (r : Result (List Attribute × List ℕ) FieldFault)
    → after_of (r >>= λ others. Ok (a ∷ others.0, others.1)) ≡ after_of r
same_end a (Ok x) = refl
same_end a (Err s) = refl

pub has_after : (r : Result (List Attribute × List ℕ) FieldFault) (after : List ℕ) → Ok after ≡ after_of r
    → (attributes : List Attribute) × (rest : List ℕ) × (r ≡ Ok (attributes, rest))
has_after (Ok x) after is = (x.0, x.1, refl)
has_after (Err s) after is = absurd cc

-- the i-th of n isn't one
pub attribute_stops : (n i : ℕ) (b : List ℕ) (s : FieldFault) (total : Result (List ℕ) FieldFault) → i < n
    → Err s ≡ attribute_at b → end_of (n - i) b ≡ total → Err s ≡ total
unfolding attributes_at
attribute_stops n i b s total less stops so_far =
    let k : n - i ≡ suc (n - (i + 1)) = omega (arith, less) in
    let one : end_of (n - i) b ≡ Err s = rw (k, ← stops) refl in
    sym one ∙ so_far

-- it is the end
pub attributes_end : (n i : ℕ) (b after : List ℕ) (a : Attribute) (total : Result (List ℕ) FieldFault) → i < n
    → Ok (a, after) ≡ attribute_at b → is_end a ≡ true → end_of (n - i) b ≡ total → Ok after ≡ total
unfolding attributes_at
attributes_end n i b after a total less told ends so_far =
    let k : n - i ≡ suc (n - (i + 1)) = omega (arith, less) in
    let one : end_of (n - i) b ≡ Ok after = rw (k, ← told, ends) refl in
    sym one ∙ so_far

-- it is one
pub attributes_go_on : (n i : ℕ) (b after : List ℕ) (a : Attribute) (total : Result (List ℕ) FieldFault) → i < n
    → Ok (a, after) ≡ attribute_at b → is_end a ≡ false → end_of (n - i) b ≡ total
    → end_of (n - (i + 1)) after ≡ total
unfolding attributes_at
attributes_go_on n i b after a total less told other so_far =
    let k : n - i ≡ suc (n - (i + 1)) = omega (arith, less) in
    let one : end_of (n - i) b ≡ end_of (n - (i + 1)) after =
    rw (k, ← told, other) (same_end a (attributes_at (n - (i + 1)) after)) in
    sym one ∙ so_far

pub attributes_run_out : (n i : ℕ) (b : List ℕ) (total : Result (List ℕ) FieldFault) → n ≤ i
    → end_of (n - i) b ≡ total → Err (Short 1) ≡ total
unfolding attributes_at
attributes_run_out n i b total past so_far =
    let k : n - i ≡ 0 = omega (arith, past) in
    let one : end_of (n - i) b ≡ Err (Short 1) = rw k refl in
    sym one ∙ so_far

-- ---- abbreviations

pub declaration_stops : (n i code : ℕ) (b : List ℕ) (s : FieldFault) (total : Result (List Attribute) FieldFault) → i < n
    → Err s ≡ declaration_at b → declared_in (n - i) code b ≡ total → Err s ≡ total
unfolding declared_in
declaration_stops n i code b s total less stops so_far =
    let k : n - i ≡ suc (n - (i + 1)) = omega (arith, less) in
    let one : declared_in (n - i) code b ≡ Err s = rw (k, ← stops) refl in
    sym one ∙ so_far

pub declared_here : (n i code : ℕ) (b after : List ℕ) (d : Abbreviation) (total : Result (List Attribute) FieldFault) → i < n
    → Ok (d, after) ≡ declaration_at b → (d.code == code) ≡ true → declared_in (n - i) code b ≡ total
    → Ok d.attributes ≡ total
unfolding declared_in
declared_here n i code b after d total less told is so_far =
    let k : n - i ≡ suc (n - (i + 1)) = omega (arith, less) in
    let one : declared_in (n - i) code b ≡ Ok d.attributes = rw (k, ← told, is) refl in
    sym one ∙ so_far

pub declarations_go_on : (n i code : ℕ) (b after : List ℕ) (d : Abbreviation) (total : Result (List Attribute) FieldFault)
    → i < n → Ok (d, after) ≡ declaration_at b → (d.code == code) ≡ false → declared_in (n - i) code b ≡ total
    → declared_in (n - (i + 1)) code after ≡ total
unfolding declared_in
declarations_go_on n i code b after d total less told other so_far =
    let k : n - i ≡ suc (n - (i + 1)) = omega (arith, less) in
    let one : declared_in (n - i) code b ≡ declared_in (n - (i + 1)) code after = rw (k, ← told, other) refl in
    sym one ∙ so_far

pub declarations_run_out : (n i code : ℕ) (b : List ℕ) (total : Result (List Attribute) FieldFault) → n ≤ i
    → declared_in (n - i) code b ≡ total → Err (Short 1) ≡ total
unfolding declared_in
declarations_run_out n i code b total past so_far =
    let k : n - i ≡ 0 = omega (arith, past) in
    let one : declared_in (n - i) code b ≡ Err (Short 1) = rw k refl in
    sym one ∙ so_far
