-- No more attributes and abbreviations are read than there are bytes.
use Rattle.std.proofs.Common.{◌≡◌, ℕ, zero, suc, ◌+◌, ◌-◌, ◌≤◌, Bool, true, false, cond, List, [], ◌∷◌, length}
use Rattle.std.proofs.Common.{take, drop, nat_lt, Result, Ok, Err, refl, sym, ap, ◌∙◌, arith, length-append, length-drop}
use Rattle.std.specs.Prelude.{◌==◌}
use Rattle.std.proofs.lemmas.List.{nil_from_length}
use Rattle.dl_num.specs.LebFront.{is_leb, leb_front, after_leb}
use Rattle.dl_info.specs.declared.front.FieldFault.{FieldFault}
use Rattle.dl_info.specs.declared.front.FieldFault.TheVariants.{Short, Damaged}
use Rattle.dl_info.specs.declared.abbreviation.Attribute.{Attribute}
use Rattle.dl_info.specs.Front.{◌>>=◌, bytes_at, leb_at, uleb_at}
use Rattle.dl_info.specs.Abbreviations.{Abbreviation, attribute_at, attributes_at, declaration_at, declared_in, is_end}
use Rattle.dl_info.specs.Laws.{AbbreviationsAreBounded, AttributesAreBounded}
use Rattle.dl_info.proofs.SpelledLemmas.{uleb_told}

-- what is left, if anything is read, is shorter by k bytes at least
abbrev pub Uses : {A : Type 0} → ℕ → List ℕ → Result (A × List ℕ) FieldFault → Type 0
Uses k b (Ok x) = k + length x.1 ≤ length b
Uses k b (Err s) = Unit {0}

used_before : {A : Type 0} (k m : ℕ) (b c : List ℕ) (r : Result (A × List ℕ) FieldFault) → k + length c ≤ length b
    → Uses m c r → Uses (k + m) b r
used_before k m b c (Ok x) first h = omega (arith, first, h)
used_before k m b c (Err s) first h = tt

uses_then : {A B : Type 0} (k m : ℕ) (b : List ℕ) (r : Result (A × List ℕ) FieldFault)
    (next : A × List ℕ → Result (B × List ℕ) FieldFault) → Uses k b r → ((x : A × List ℕ) → Uses m x.1 (next x))
    → Uses (k + m) b (r >>= next)
uses_then k m b (Ok x) next first others = used_before k m b x.1 (next x) first (others x)
uses_then k m b (Err s) next first others = tt

uses_if : {A : Type 0} (k : ℕ) (b : List ℕ) (t : Bool) (f g : Result (A × List ℕ) FieldFault) → Uses k b f → Uses k b g
    → Uses k b (cond t f g)
uses_if k b true f g uf ug = uf
uses_if k b false f g uf ug = ug

uses_less : {A : Type 0} (k : ℕ) (b : List ℕ) (r : Result (A × List ℕ) FieldFault) → Uses k b r → Uses 0 b r
uses_less k b (Ok x) h = omega (arith, h)
uses_less k b (Err s) h = tt

uses_none : {A : Type 0} (x : A) (b : List ℕ) → Uses 0 b (Ok (x, b))
uses_none x b = omega arith

-- ---- fields

of_uleb : (b : List ℕ) (r : Result (ℕ × List ℕ) FieldFault) → uleb_at b ≡ r → Uses 1 b r
of_uleb b (Err s) is = tt
of_uleb b (Ok x) is =
    let told = uleb_told x.0 b x.1 is in
    let whole : length b ≡ length told.0 + length x.1 = ap length told.1 ∙ length-append told.0 x.1 in
    let some : length told.0 ≡ length told.2.0 + 1 =
    ap length told.2.2.bytes ∙ length-append told.2.0 (told.2.1 ∷ []) in
    omega (arith, whole, some)

uses_uleb : (b : List ℕ) → Uses 1 b (uleb_at b)
uses_uleb b = of_uleb b (uleb_at b) refl

uses_leb : (b : List ℕ) → Uses 0 b (leb_at b)
uses_leb b = uses_if 0 b (is_leb (leb_front b)) (Ok (leb_front b, after_leb b)) (Err (Short 1))
    (omega (arith, length-drop (length (leb_front b)) b)) tt

uses_bytes : (n : ℕ) (b : List ℕ) → Uses 0 b (bytes_at n b)
uses_bytes n b = uses_if 0 b (nat_lt (length b) n) (Err (Short (n - length b))) (Ok (take n b, drop n b)) tt
    (omega (arith, length-drop n b))

-- ---- attributes

pub uses_attribute : (b : List ℕ) → Uses 2 b (attribute_at b)
unfolding attribute_at
uses_attribute b =
    uses_then 1 1 b (uleb_at b) _ (uses_uleb b) (λ name. uses_then 1 0 name.1 (uleb_at name.1) _ (uses_uleb name.1)
    (λ form. let a : Attribute = record { name = name.0; form = form.0 } in
    uses_if 0 form.1 (form.0 == 0x21) (leb_at form.1 >>= λ value. Ok (a, value.1)) (Ok (a, form.1))
    (uses_then 0 0 form.1 (leb_at form.1) _ (uses_leb form.1) (λ value. uses_none a value.1)) (uses_none a form.1)))

uses_attributes : (n : ℕ) (b : List ℕ) → Uses 0 b (attributes_at n b)
unfolding attributes_at
uses_attributes zero b = tt
uses_attributes (suc n) b =
    uses_then 0 0 b (attribute_at b) _ (uses_less 2 b (attribute_at b) (uses_attribute b))
    (λ a. uses_if 0 a.1 (is_end a.0) (Ok ([], a.1)) (attributes_at n a.1 >>= λ others. Ok (a.0 ∷ others.0, others.1))
    (uses_none {A = List Attribute} [] a.1)
    (uses_then 0 0 a.1 (attributes_at n a.1) _ (uses_attributes n a.1) (λ others. uses_none (a.0 ∷ others.0) others.1)))

none_here : attribute_at [] ≡ Err (Short 1)
unfolding attribute_at uleb_at
none_here = refl

attributes_of_none : (n : ℕ) → attributes_at n [] ≡ Err (Short 1)
unfolding attributes_at
attributes_of_none zero = refl
attributes_of_none (suc n) = rw none_here refl

abbrev Attributes : Type 0
Attributes = Result (List Attribute × List ℕ) FieldFault

-- what follows an attribute, with either bound
one_more : (m k : ℕ) (b : List ℕ) (r : Result (Attribute × List ℕ) FieldFault) → attribute_at b ≡ r → Uses 2 b r
    → length b ≤ suc m → length b ≤ suc k
    → ((c : List ℕ) → length c ≤ m → length c ≤ k → attributes_at m c ≡ attributes_at k c)
    → attributes_at (suc m) b ≡ attributes_at (suc k) b
unfolding attributes_at
one_more m k b (Err s) is uses lm lk ih = rw is refl
one_more m k b (Ok x) is uses lm lk ih =
    let f : Attributes → Attributes =
    λ r. cond (is_end x.0) (Ok ([], x.1)) (r >>= λ others. Ok (x.0 ∷ others.0, others.1)) in
    rw is (ap f (ih x.1 (omega (arith, uses, lm)) (omega (arith, uses, lk))))

empty_of : (b : List ℕ) → length b ≤ 0 → b ≡ []
empty_of b few = nil_from_length b (omega (arith, few))

same_attributes : (m k : ℕ) (b : List ℕ) → length b ≤ m → length b ≤ k → attributes_at m b ≡ attributes_at k b
same_attributes zero k b lm lk = rw (empty_of b lm) (attributes_of_none 0 ∙ sym (attributes_of_none k))
same_attributes (suc m) zero b lm lk = rw (empty_of b lk) (attributes_of_none (suc m) ∙ sym (attributes_of_none 0))
same_attributes (suc m) (suc k) b lm lk =
    one_more m k b (attribute_at b) refl (uses_attribute b) lm lk (same_attributes m k)

pub attributes_are_bounded : AttributesAreBounded
attributes_are_bounded n b enough = same_attributes n (length b) b enough (omega arith)

-- ---- abbreviations

pub uses_declaration : (b : List ℕ) → Uses 1 b (declaration_at b)
unfolding declaration_at
uses_declaration b =
    uses_then 1 0 b (uleb_at b) _ (uses_uleb b) (λ code. uses_if 0 code.1 (code.0 == 0) (Err Damaged) _ tt
    (uses_then 0 0 code.1 (uleb_at code.1) _ (uses_less 1 code.1 (uleb_at code.1) (uses_uleb code.1))
    (λ tag. uses_then 0 0 tag.1 (bytes_at 1 tag.1) _ (uses_bytes 1 tag.1)
    (λ children. uses_then 0 0 children.1 (attributes_at (length children.1) children.1) _
    (uses_attributes (length children.1) children.1)
    (λ attributes. let d : Abbreviation = record { code = code.0; attributes = attributes.0 } in
    uses_none d attributes.1)))))

no_declaration : declaration_at [] ≡ Err (Short 1)
unfolding declaration_at uleb_at
no_declaration = refl

declared_in_none : (n code : ℕ) → declared_in n code [] ≡ Err (Short 1)
unfolding declared_in
declared_in_none zero code = refl
declared_in_none (suc n) code = rw no_declaration refl

one_declaration_more : (m k code : ℕ) (b : List ℕ) (r : Result (Abbreviation × List ℕ) FieldFault) → declaration_at b ≡ r
    → Uses 1 b r → length b ≤ suc m → length b ≤ suc k
    → ((c : List ℕ) → length c ≤ m → length c ≤ k → declared_in m code c ≡ declared_in k code c)
    → declared_in (suc m) code b ≡ declared_in (suc k) code b
unfolding declared_in
one_declaration_more m k code b (Err s) is uses lm lk ih = rw is refl
one_declaration_more m k code b (Ok d) is uses lm lk ih =
    let f : Result (List Attribute) FieldFault → Result (List Attribute) FieldFault =
    λ r. cond (d.0.code == code) (Ok d.0.attributes) r in
    rw is (ap f (ih d.1 (omega (arith, uses, lm)) (omega (arith, uses, lk))))

same_declared : (m k code : ℕ) (b : List ℕ) → length b ≤ m → length b ≤ k → declared_in m code b ≡ declared_in k code b
same_declared zero k code b lm lk = rw (empty_of b lm) (declared_in_none 0 code ∙ sym (declared_in_none k code))
same_declared (suc m) zero code b lm lk =
    rw (empty_of b lk) (declared_in_none (suc m) code ∙ sym (declared_in_none 0 code))
same_declared (suc m) (suc k) code b lm lk =
    one_declaration_more m k code b (declaration_at b) refl (uses_declaration b) lm lk (same_declared m k code)

pub abbreviations_are_bounded : AbbreviationsAreBounded
abbreviations_are_bounded n code b enough = same_declared n (length b) code b enough (omega arith)
