-- The readers of abbreviations, and the grammar of these.
use Rattle.std.proofs.Common.{◌≡◌, ℕ, zero, suc, ◌+◌, ◌≤◌, cond, List, [], ◌∷◌, ◌++◌, length}
use Rattle.std.proofs.Common.{Result, Ok, Err, refl, sym, ap, subst, ◌∙◌, arith, inl, inr, append_assoc}
use Rattle.std.specs.Prelude.{◌==◌}
use Rattle.std.proofs.lemmas.Bool.{cases_Bool}
use Rattle.dl_info.specs.declared.front.FieldFault.{FieldFault}
use Rattle.dl_info.specs.declared.front.FieldFault.TheVariants.{Short, Damaged}
use Rattle.dl_info.specs.declared.abbreviation.Attribute.{Attribute}
use Rattle.dl_info.specs.Front.{◌>>=◌, bytes_at, leb_at, uleb_at}
use Rattle.dl_info.specs.Abbreviations.{Abbreviation, attribute_at, attributes_at, declaration_at, declared_in, is_end}
use Rattle.dl_info.specs.Grammar.{AreAttributes, Declares, IsAbbreviation, IsAttribute, IsBytes, IsNumber, IsUleb64}
use Rattle.dl_info.proofs.BoundLemmas.{Uses, uses_attribute, uses_declaration}
use Rattle.dl_info.proofs.SpelledLemmas.{not_read, Reads, value_is}
use Rattle.dl_info.proofs.GrammarLemmas.{bound, done_reads, never_reads, Reader, then_reads, which_reads}
use Rattle.dl_info.proofs.GrammarUnits.{reads_bytes, reads_leb, reads_uleb}

reads_attribute : Reader attribute_at IsAttribute
unfolding attribute_at
reads_attribute =
    then_reads uleb_at _ IsUleb64 _ reads_uleb (λ name. then_reads uleb_at _ IsUleb64 _ reads_uleb
    (λ form. let a : Attribute = record { name = name; form = form } in
    which_reads (form == 0x21) _ _ _ _ (then_reads leb_at _ IsNumber _ reads_leb (λ value. done_reads a))
    (done_reads a)))

-- ---- attributes

abbrev with_first : Attribute → Result (List Attribute × List ℕ) FieldFault → Result (List Attribute × List ℕ) FieldFault
with_first a r = r >>= λ others. Ok (a ∷ others.0, others.1)

-- b is the spelling of attributes, and the rest
abbrev AttributesThen : List ℕ → List Attribute → List ℕ → Type 0
AttributesThen b attributes rest = (w : List ℕ) × (b ≡ w ++ rest) × AreAttributes attributes w

-- after one of them
after_one : (n : ℕ) (b rest : List ℕ) (attributes : List Attribute) (a : Attribute) (u after : List ℕ) → b ≡ u ++ after
    → IsAttribute a u
    → Reads (cond (is_end a) (Ok ([], after)) (with_first a (attributes_at n after))) attributes rest
    → ((others : List Attribute) (end : List ℕ) → Reads (attributes_at n after) others end
    → AttributesThen after others end)
    → AttributesThen b attributes rest
after_one n b rest attributes a u after parts spelt is more = elim (cases_Bool (is_end a)) [
  | inl end ↦
      let same = value_is [] attributes after rest (rw end at is) in
      subst (λ found. AttributesThen b found rest) same.0 (u, parts ∙ ap (λ r. u ++ r) same.1, (a, end, spelt))
  | inr other ↦
      let step = bound (attributes_at n after) (λ x. Ok (a ∷ x.0, x.1)) (attributes, rest) (rw other at is) in
      let same = value_is (a ∷ step.0.0) attributes step.0.1 rest step.2 in
      let told = more step.0.0 step.0.1 step.1 in
      let whole : b ≡ (u ++ told.0) ++ rest =
      parts ∙ (ap (λ r. u ++ r) (told.1 ∙ ap (λ r. told.0 ++ r) same.1) ∙ sym (append_assoc u told.0 rest)) in
      subst (λ found. AttributesThen b found rest) same.0
      (u ++ told.0, whole, (u, told.0, refl, other, spelt, told.2))
]

attributes_told : (n : ℕ) (b rest : List ℕ) (attributes : List Attribute) → Reads (attributes_at n b) attributes rest
    → AttributesThen b attributes rest
unfolding attributes_at
attributes_told zero b rest attributes is = absurd (not_read (Short 1) attributes rest is)
attributes_told (suc n) b rest attributes is =
    let next : Attribute × List ℕ → Result (List Attribute × List ℕ) FieldFault =
    λ a. cond (is_end a.0) (Ok ([], a.1)) (with_first a.0 (attributes_at n a.1)) in
    let step = bound (attribute_at b) next (attributes, rest) is in
    let one = reads_attribute.told b step.0.1 step.0.0 step.1 in
    after_one n b rest attributes step.0.0 one.0 step.0.1 one.1 one.2 step.2
    (λ others end so. attributes_told n step.0.1 end others so)

-- a part of the bytes that is used
used : {A : Type 0} (k : ℕ) (b rest : List ℕ) (x : A) (r : Result (A × List ℕ) FieldFault) → Uses k b r → Reads r x rest
    → k + length rest ≤ length b
used k b rest x r uses is = subst (λ r. Uses k b r) is uses

attributes_given : (attributes : List Attribute) (n : ℕ) (w rest : List ℕ) → length (w ++ rest) ≤ n
    → AreAttributes attributes w → Reads (attributes_at n (w ++ rest)) attributes rest
unfolding attributes_at
attributes_given [] zero w rest enough spelt =
    let is = reads_attribute.gives spelt.0 w rest spelt.2 in
    absurd (omega (arith, enough, used 2 (w ++ rest) rest spelt.0 (attribute_at (w ++ rest)) (uses_attribute (w ++ rest)) is))
attributes_given [] (suc n) w rest enough spelt =
    rw (reads_attribute.gives spelt.0 w rest spelt.2, spelt.1) refl
attributes_given (a ∷ attributes) zero w rest enough spelt =
    let whole : w ++ rest ≡ spelt.0 ++ (spelt.1 ++ rest) =
    ap (λ z. z ++ rest) spelt.2 ∙ append_assoc spelt.0 spelt.1 rest in
    let b = spelt.0 ++ (spelt.1 ++ rest) in
    let is = reads_attribute.gives a spelt.0 (spelt.1 ++ rest) spelt.4 in
    absurd (omega (arith, enough, ap length whole, used 2 b (spelt.1 ++ rest) a (attribute_at b) (uses_attribute b) is))
attributes_given (a ∷ attributes) (suc n) w rest enough spelt =
    let whole : w ++ rest ≡ spelt.0 ++ (spelt.1 ++ rest) =
    ap (λ z. z ++ rest) spelt.2 ∙ append_assoc spelt.0 spelt.1 rest in
    let b = spelt.0 ++ (spelt.1 ++ rest) in
    let is = reads_attribute.gives a spelt.0 (spelt.1 ++ rest) spelt.4 in
    let fewer : length (spelt.1 ++ rest) ≤ n =
    omega (arith, enough, ap length whole, used 2 b (spelt.1 ++ rest) a (attribute_at b) (uses_attribute b) is) in
    ap (attributes_at (suc n)) whole
    ∙ (rw (is, spelt.3) (ap (with_first a) (attributes_given attributes n spelt.1 rest fewer spelt.5)))

-- with as many as bytes
reads_attributes : Reader (λ b. attributes_at (length b) b) AreAttributes
reads_attributes =
    record {
      told = λ b rest attributes is. attributes_told (length b) b rest attributes is;
      gives = λ attributes w rest spelt. attributes_given attributes (length (w ++ rest)) w rest (omega arith) spelt;
    }

-- ---- abbreviations

reads_declaration : Reader declaration_at IsAbbreviation
unfolding declaration_at
reads_declaration =
    then_reads uleb_at _ IsUleb64 _ reads_uleb (λ code. which_reads (code == 0) _ _ _ _ (never_reads Damaged)
    (then_reads uleb_at _ IsUleb64 _ reads_uleb (λ tag. then_reads (bytes_at 1) _ (IsBytes 1) _ (reads_bytes 1)
    (λ children. then_reads (λ b. attributes_at (length b) b) _ AreAttributes _ reads_attributes
    (λ attributes. done_reads (record { code = code; attributes = attributes }))))))

abbrev pub IsDeclared : (code : ℕ) → List Attribute → List ℕ → Type 0
IsDeclared code attributes b = (before : List Abbreviation) × Declares before code attributes b

abbrev pub Is : Result (List Attribute) FieldFault → List Attribute → Type 0
Is r attributes = r ≡ Ok attributes

abbrev found_in : List Attribute → Result (List Attribute) FieldFault → List Attribute
found_in none (Ok x) = x
found_in none (Err s) = none

ok_same : (x y : List Attribute) → Is (Ok x) y → x ≡ y
ok_same x y is = ap (found_in x) is

after_declaration : (n code : ℕ) (b : List ℕ) (attributes : List Attribute) (d : Abbreviation) (w after : List ℕ)
    → b ≡ w ++ after → IsAbbreviation d w
    → Is (cond (d.code == code) (Ok d.attributes) (declared_in n code after)) attributes
    → (Is (declared_in n code after) attributes → IsDeclared code attributes after) → IsDeclared code attributes b
after_declaration n code b attributes d w after parts spelt is more = elim (cases_Bool (d.code == code)) [
  | inl here ↦ ([], (d, w, after, parts, spelt, here, ok_same d.attributes attributes (rw here at is)))
  | inr other ↦
      let told = more (rw other at is) in
      (d ∷ told.0, (w, after, parts, spelt, other, told.1))
]

pub declared_told : (n code : ℕ) (b : List ℕ) (attributes : List Attribute) → Is (declared_in n code b) attributes
    → IsDeclared code attributes b
unfolding declared_in
declared_told zero code b attributes is = absurd cc
declared_told (suc n) code b attributes is =
    let next : Abbreviation × List ℕ → Result (List Attribute) FieldFault =
    λ d. cond (d.0.code == code) (Ok d.0.attributes) (declared_in n code d.1) in
    let step = bound (declaration_at b) next attributes is in
    let one = reads_declaration.told b step.0.1 step.0.0 step.1 in
    after_declaration n code b attributes step.0.0 one.0 step.0.1 one.1 one.2 step.2
    (λ so. declared_told n code step.0.1 attributes so)

pub declared_given : (before : List Abbreviation) (n code : ℕ) (b : List ℕ) (attributes : List Attribute) → length b ≤ n
    → Declares before code attributes b → Is (declared_in n code b) attributes
unfolding declared_in
declared_given [] zero code b attributes enough s =
    let is = reads_declaration.gives s.0 s.1 s.2 s.4 in
    let part = s.1 ++ s.2 in
    absurd (omega (arith, enough, ap length s.3, used 1 part s.2 s.0 (declaration_at part) (uses_declaration part) is))
declared_given [] (suc n) code b attributes enough s =
    let is = reads_declaration.gives s.0 s.1 s.2 s.4 in
    ap (declared_in (suc n) code) s.3 ∙ (rw (is, s.5) (ap Ok s.6))
declared_given (d ∷ before) zero code b attributes enough s =
    let is = reads_declaration.gives d s.0 s.1 s.3 in
    let part = s.0 ++ s.1 in
    absurd (omega (arith, enough, ap length s.2, used 1 part s.1 d (declaration_at part) (uses_declaration part) is))
declared_given (d ∷ before) (suc n) code b attributes enough s =
    let is = reads_declaration.gives d s.0 s.1 s.3 in
    let part = s.0 ++ s.1 in
    let fewer : length s.1 ≤ n =
    omega (arith, enough, ap length s.2, used 1 part s.1 d (declaration_at part) (uses_declaration part) is) in
    ap (declared_in (suc n) code) s.2
    ∙ (rw (is, s.4) (declared_given before n code s.1 attributes fewer s.5))
