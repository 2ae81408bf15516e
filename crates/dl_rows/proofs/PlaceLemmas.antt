-- The place of a row, one operation more.
use Rattle.std.proofs.Common.{◌≡◌, ℕ, ◌+◌, ◌*◌, ◌/◌, ◌%◌, ◌-◌, ◌<◌, ◌≤◌, refl, ap, ◌∙◌, arith, inl, inr, cond, Bool}
use Rattle.std.proofs.Common.{true, false, not, List, [], ◌∷◌, ◌++◌, length, Option, None, sum_by, ◌^◌}
use Rattle.std.proofs.Common.{sym, ℤ, pos, ◌+ℤ◌}
use Rattle.std.specs.Option.{option_or}
use Rattle.std.specs.List.{after_last, list_any, suffix_len}
use Rattle.std.proofs.lemmas.List.{reverse-append, drop_all, drop-append-le, length-append}
use Rattle.std.proofs.lemmas.List.Sums.{suffix_len-le-length, sum_by-cons, sum_by_push}
use Rattle.std.proofs.Math.Nat.{zero-div, zero-mod, add-mul-div_right, add-mul-mod_self_right}
use Rattle.std.proofs.lemmas.Bool.{cases_Bool}
use Rattle.dl_field.specs.declared.params.Params.{Params}
use Rattle.dl_rows.specs.declared.operation.Operation.{Operation}
use Rattle.dl_rows.specs.declared.operation.Operation.TheVariants as op
use Rattle.dl_rows.specs.Matrix.{last_set, advance, set_address, is_address, is_fixed_add, fixed_add, onto_first, parts}
use Rattle.dl_rows.specs.Matrix.{last_part, moves, address, op_index, modulo}
use Rattle.std.specs.Prelude.{unsigned_abs}
use Rattle.std.specs.Int.{w64, cast_unsigned}
use Rattle.std.proofs.lemmas.Int.{ints}
use Rattle.std.proofs.lemmas.Nat.{div-add-mod', mul-mod_second}
use Rattle.dl_rows.specs.Machine.{advanced}
use Rattle.dl_rows.specs.declared.registers.Registers.{Registers}

-- whole steps and what is left, when a number is added to one that is split so
pub div_split : (o n m : ℕ) → 0 < m → (o + n) / m ≡ n / m + (o + n % m) / m
div_split o n m h =
    let e : o + n ≡ o + n % m + n / m * m = omega (arith, div-add-mod' n m) in
    ap (λ (x : ℕ). x / m) e ∙ add-mul-div_right (o + n % m) (n / m) h ∙ omega arith

pub mod_split : (o n m : ℕ) → (o + n) % m ≡ (o + n % m) % m
mod_split o n m =
    let e : o + n ≡ o + n % m + n / m * m = omega (arith, div-add-mod' n m) in
    ap (λ (x : ℕ). x % m) e ∙ add-mul-mod_self_right (o + n % m) (n / m) m

-- wrapping twice on the way changes nothing
pub wrapped_step : (a m q : ℕ) → (a + (m * (q % 2 ^ 64)) % 2 ^ 64) % 2 ^ 64 ≡ (a + m * q) % 2 ^ 64
wrapped_step a m q = rw (mul-mod_second m q (2 ^ 64)) (omega arith)

pub advanced_is : (h : Params) (r : Registers) (by : ℕ) {maximum index minimum : ℕ}
    → 1 ≤ h.maximum_operations_per_instruction
    → maximum ≡ h.maximum_operations_per_instruction → index ≡ r.op_index → minimum ≡ h.minimum_instruction_length
    → (record r {
      address =
          (r.address + (minimum * ((by / maximum + (index + by % maximum) / maximum) % 2 ^ 64)) % 2 ^ 64) % 2 ^ 64;
      op_index = (index + by % maximum) % maximum;
    }) ≡ advanced h r by
advanced_is h r by some a b c =
    let d = div_split r.op_index by h.maximum_operations_per_instruction some in
    let m = mod_split r.op_index by h.maximum_operations_per_instruction in
    let w = wrapped_step r.address h.minimum_instruction_length (by / h.maximum_operations_per_instruction
    + (r.op_index + by % h.maximum_operations_per_instruction) / h.maximum_operations_per_instruction) in
    rw (a, b, c, w, ← d, ← m) refl

-- where an instruction has one operation, each operation is one
pub advanced_by_one : (h : Params) (r : Registers) (by : ℕ) {maximum index minimum : ℕ} → maximum ≡ 1
    → maximum ≡ h.maximum_operations_per_instruction → index ≡ r.op_index → minimum ≡ h.minimum_instruction_length
    → (record r { address = (r.address + (minimum * ((by + index) % 2 ^ 64)) % 2 ^ 64) % 2 ^ 64; op_index = 0 })
    ≡ advanced h r by
advanced_by_one h r by one a b c =
    let m : h.maximum_operations_per_instruction ≡ 1 = sym a ∙ one in
    let d : (r.op_index + by) / 1 ≡ by + r.op_index = omega arith in
    let z : (r.op_index + by) % 1 ≡ 0 = omega arith in
    let w = wrapped_step r.address h.minimum_instruction_length (by + r.op_index) in
    rw (b, c, w, m, d, z) refl

-- a step of a line that wraps on the way
pub modulo-add : (z i : ℤ) → unsigned_abs i < 2 ^ 64
    → (modulo z (2 ^ 64) + cast_unsigned w64 i) % 2 ^ 64 ≡ modulo (z +ℤ i) (2 ^ 64)
modulo-add z i h = grind (arith, ints)

pub modulo-same : (z : ℤ) → z +ℤ pos 0 ≡ z
modulo-same z = omega (arith, ints)

-- ---- one element more at the end

suffix-push : {X : Type 0} (p : X → Bool) (xs : List X) (x : X)
    → suffix_len p (xs ++ x ∷ []) ≡ cond (p x) (1 + suffix_len p xs) 0
suffix-push p xs x = rw (reverse-append xs (x ∷ [])) refl

pub after_last-push : {X : Type 0} (p : X → Bool) (xs : List X) (x : X)
    → after_last p (xs ++ x ∷ []) ≡ cond (p x) [] (after_last p xs ++ x ∷ [])
after_last-push p xs x =
    let s = suffix-push (λ y. not (p y)) xs x in
    let l = length-append xs (x ∷ []) in
    elim (cases_Bool (p x)) [
      | inl stops ↦ let t : suffix_len (λ y. not (p y)) (xs ++ x ∷ []) ≡ 0 =
          (rw stops at s) in rw (t, stops) (drop_all _ (xs ++ x ∷ []) (omega arith))
      | inr goes ↦
          let t : suffix_len (λ y. not (p y)) (xs ++ x ∷ []) ≡ 1 + suffix_len (λ y. not (p y)) xs = (rw goes at s) in
          let b = suffix_len-le-length (λ y. not (p y)) xs in
          let n : length (xs ++ x ∷ []) - (1 + suffix_len (λ y. not (p y)) xs)
          ≡ length xs - suffix_len (λ y. not (p y)) xs = omega arith in
          rw (t, goes, n) (drop-append-le (length xs - suffix_len (λ y. not (p y)) xs) xs (x ∷ []) (omega arith))
    ]

or_none : (a : Option ℕ) → option_or None a ≡ option_or a None
or_none a = grind arith

or_assoc : (a b c : Option ℕ) → option_or (option_or a b) c ≡ option_or a (option_or b c)
or_assoc a b c = grind arith

pub last_set-push : (sets : Operation → Option ℕ) (os : List Operation) (o : Operation)
    → last_set sets (os ++ o ∷ []) ≡ option_or (sets o) (last_set sets os)
last_set-push sets [] o = or_none (sets o)
last_set-push sets (x ∷ os) o = rw (last_set-push sets os o) (or_assoc (sets o) (last_set sets os) (sets x))

pub any-push : (p : Operation → Bool) (os : List Operation) (o : Operation)
    → list_any p (os ++ o ∷ []) ≡ cond (p o) true (list_any p os)
any-push p [] o = grind arith
any-push p (x ∷ os) o = rw (any-push p os o) (elim (cases_Bool (p x)) [
  | inl a ↦ rw a (grind arith)
  | inr a ↦ rw a refl
])

-- ---- parts

onto_last : ℕ → List ℕ → List ℕ
onto_last a [] = a ∷ []
onto_last a (x ∷ []) = (x + a) ∷ []
onto_last a (x ∷ y ∷ ys) = x ∷ onto_last a (y ∷ ys)

-- a list with a first element
abbrev IsSome : List ℕ → Type 0
IsSome xs = (x : ℕ) × (ys : List ℕ) × (xs ≡ x ∷ ys)

parts_some : (h : Params) (os : List Operation) → IsSome (parts h os)
parts_some h [] = (0, [], refl)
parts_some h (o ∷ os) = elim (cases_Bool (is_fixed_add o)) [
  | inl t ↦ rw t (0, parts h os, refl)
  | inr f ↦ (let s = parts_some h os in rw f (advance h o + s.0, s.1, rw s.2 refl))
]

onto_first-push : (a : ℕ) (xs : List ℕ) → IsSome xs → onto_first a (xs ++ 0 ∷ []) ≡ onto_first a xs ++ 0 ∷ []
onto_first-push a xs s = rw s.2 refl

parts-fixed : (h : Params) (os : List Operation) (o : Operation) → is_fixed_add o ≡ true
    → parts h (os ++ o ∷ []) ≡ parts h os ++ 0 ∷ []
parts-fixed h [] o e = rw e refl
parts-fixed h (x ∷ os) o e =
    rw (parts-fixed h os o e) (elim (cases_Bool (is_fixed_add x)) [
      | inl t ↦ rw t refl
      | inr f ↦ rw f (onto_first-push (advance h x) (parts h os) (parts_some h os))
    ])

onto_last-cons : (a : ℕ) (xs : List ℕ) → IsSome xs → 0 ∷ onto_last a xs ≡ onto_last a (0 ∷ xs)
unfolding onto_last
onto_last-cons a xs s = rw s.2 refl

onto_both-some : (a b x : ℕ) (ys : List ℕ) → onto_first b (onto_last a (x ∷ ys)) ≡ onto_last a (onto_first b (x ∷ ys))
unfolding onto_last
onto_both-some a b x [] = ap (λ (n : ℕ). n ∷ []) (omega arith)
onto_both-some a b x (y ∷ ys) = refl

onto_both : (a b : ℕ) (xs : List ℕ) → IsSome xs → onto_first b (onto_last a xs) ≡ onto_last a (onto_first b xs)
onto_both a b xs s = rw s.2 (onto_both-some a b s.0 s.1)

parts-plain : (h : Params) (os : List Operation) (o : Operation) → is_fixed_add o ≡ false
    → parts h (os ++ o ∷ []) ≡ onto_last (advance h o) (parts h os)
unfolding onto_last
parts-plain h [] o e = rw e (ap (λ (n : ℕ). n ∷ []) (omega arith))
parts-plain h (x ∷ os) o e =
    rw (parts-plain h os o e) (elim (cases_Bool (is_fixed_add x)) [
      | inl t ↦ rw t (onto_last-cons (advance h o) (parts h os) (parts_some h os))
      | inr f ↦ rw f (onto_both (advance h o) (advance h x) (parts h os) (parts_some h os))
    ])

last_part-onto : (a : ℕ) (xs : List ℕ) → last_part (onto_last a xs) ≡ last_part xs + a
unfolding onto_last
last_part-onto a [] = omega arith
last_part-onto a (x ∷ []) = refl
last_part-onto a (x ∷ y ∷ []) = refl
last_part-onto a (x ∷ y ∷ z ∷ ys) = last_part-onto a (y ∷ z ∷ ys)

last_part-push : (xs : List ℕ) → last_part (xs ++ 0 ∷ []) ≡ 0
last_part-push [] = refl
last_part-push (x ∷ []) = refl
last_part-push (x ∷ y ∷ ys) = last_part-push (y ∷ ys)

abbrev pub steps : ℕ → List ℕ → ℕ
steps m xs = sum_by (λ a. a / m) xs

pub steps-cons : (m x : ℕ) (xs : List ℕ) → steps m (x ∷ xs) ≡ x / m + steps m xs
steps-cons m x xs = sum_by-cons (λ (a : ℕ). a / m) x xs

steps-onto : (m a : ℕ) (xs : List ℕ) → 0 < m → steps m (onto_last a xs) ≡ steps m xs + (last_part xs % m + a) / m
unfolding onto_last
steps-onto m a [] h =
    let z : 0 % m ≡ 0 = zero-mod m in let q : 0 + a ≡ a = omega arith in rw (z, q, steps-cons) (omega arith)
steps-onto m a (x ∷ []) h =
    rw (
      steps-cons m (x + a) [],
      steps-cons m x [],
    )
    (let d = div_split a x m h in let e : x + a ≡ a + x = omega arith in
    let f : x % m + a ≡ a + x % m = omega arith in rw (e, f) (omega arith))
steps-onto m a (x ∷ y ∷ ys) h =
    rw (steps-cons m x (onto_last a (y ∷ ys)), steps-cons m x (y ∷ ys)) (omega (arith, steps-onto m a (y ∷ ys) h))

steps-push : (m : ℕ) (xs : List ℕ) → steps m (xs ++ 0 ∷ []) ≡ steps m xs
steps-push m xs = let z : 0 / m ≡ 0 = zero-div m in sum_by_push (λ (a : ℕ). a / m) xs 0 ∙ omega arith

-- ---- place

moves-plain : (s : List Operation) (o : Operation) → is_address o ≡ false → moves (s ++ o ∷ []) ≡ moves s ++ o ∷ []
moves-plain s o e = after_last-push is_address s o ∙ rw e refl

moves-address : (s : List Operation) (o : Operation) → is_address o ≡ true → moves (s ++ o ∷ []) ≡ []
moves-address s o e = after_last-push is_address s o ∙ rw e refl

-- an operation that neither sets the address nor adds to it moves by its advance
pub address-plain : (h : Params) (s : List Operation) (o : Operation) → 1 ≤ h.maximum_operations_per_instruction
    → is_address o ≡ false → is_fixed_add o ≡ false → set_address o ≡ None → fixed_add o ≡ 0
    → address h (s ++ o ∷ [])
    ≡ address h s
    + h.minimum_instruction_length * ((op_index h s + advance h o) / h.maximum_operations_per_instruction)
address-plain h s o some a f n z =
    let m = moves-plain s o a in
    let p = parts-plain h (moves s) o f in
    let t = steps-onto h.maximum_operations_per_instruction (advance h o) (parts h (moves s)) some in
    rw (last_set-push set_address s o, n, m, sum_by_push fixed_add (moves s) o, z, p, t) (omega arith)

pub op_index-plain : (h : Params) (s : List Operation) (o : Operation) → is_address o ≡ false → is_fixed_add o ≡ false
    → op_index h (s ++ o ∷ []) ≡ (op_index h s + advance h o) % h.maximum_operations_per_instruction
op_index-plain h s o a f =
    let m = moves-plain s o a in
    let p = parts-plain h (moves s) o f in
    let x = last_part (parts h (moves s)) in
    let c : x + advance h o ≡ advance h o + x = omega arith in
    let d : x % h.maximum_operations_per_instruction + advance h o
    ≡ advance h o + x % h.maximum_operations_per_instruction = omega arith in
    rw (m, p, last_part-onto, c, d) (mod_split (advance h o) x h.maximum_operations_per_instruction)

pub address-fixed : (h : Params) (s : List Operation) (n : ℕ)
    → address h (s ++ op.FixedAdvancePc n ∷ []) ≡ address h s + n
address-fixed h s n =
    let m = moves-plain s (op.FixedAdvancePc n) refl in
    let p = parts-fixed h (moves s) (op.FixedAdvancePc n) refl in
    rw (
      last_set-push set_address s (op.FixedAdvancePc n),
      m,
      sum_by_push fixed_add (moves s) (op.FixedAdvancePc n),
      p,
      steps-push h.maximum_operations_per_instruction (parts h (moves s)),
    ) (omega arith)

pub op_index-fixed : (h : Params) (s : List Operation) (n : ℕ) → op_index h (s ++ op.FixedAdvancePc n ∷ []) ≡ 0
op_index-fixed h s n =
    let m = moves-plain s (op.FixedAdvancePc n) refl in
    let p = parts-fixed h (moves s) (op.FixedAdvancePc n) refl in
    rw (m, p, last_part-push (parts h (moves s))) (zero-mod h.maximum_operations_per_instruction)

pub address-set : (h : Params) (s : List Operation) (n : ℕ) → address h (s ++ op.SetAddress n ∷ []) ≡ n
address-set h s n =
    let m = moves-address s (op.SetAddress n) refl in
    let z : 0 / h.maximum_operations_per_instruction ≡ 0 = zero-div h.maximum_operations_per_instruction in
    let w : h.minimum_instruction_length * 0 ≡ 0 = omega arith in
    rw (last_set-push set_address s (op.SetAddress n), m, z) (omega arith)

pub op_index-set : (h : Params) (s : List Operation) (n : ℕ) → op_index h (s ++ op.SetAddress n ∷ []) ≡ 0
op_index-set h s n =
    let m = moves-address s (op.SetAddress n) refl in rw m (zero-mod h.maximum_operations_per_instruction)
