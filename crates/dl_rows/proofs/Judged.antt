-- What is computed of bytes as an operation is so: a good one is spelled, a bad one is faulty.
use Rattle.std.proofs.Common.{◌≡◌, ℕ, zero, suc, ◌+◌, ◌-◌, ◌^◌, ◌<◌, ◌≤◌, ◌⊎◌, true, not, nat_lt, ◌==◌, List, [], ◌∷◌}
use Rattle.std.proofs.Common.{◌++◌, length, slice_get, slice_index, Some, None, Ok, Err, if◌then◌else◌, refl, sym, ap}
use Rattle.std.proofs.Common.{arith, inl, inr, ℤ, pos, negsuc, false, ◌∙◌}
use Rattle.std.proofs.lemmas.Bool.{cases_Bool, cases_eq, cases_lt, lt-leb, le-leb, lt-ltb, le-ltb, eq-eqb, ne_eqb}
use Rattle.std.proofs.lemmas.Bool.{eqb-true, ltb-true, ltb-false}
use Rattle.std.proofs.lemmas.List.{append-nil}
use Rattle.dl_num.specs.declared.fixed.Order.{Order}
use Rattle.dl_num.specs.Fixed.{fixed}
use Rattle.dl_num.specs.Leb.{groups, IsUleb, signed_groups, IsSleb, IsSigned64}
use Rattle.dl_num.specs.LebFront.{is_leb, leb_front, after_leb}
use Rattle.dl_num.proofs.LebLaws.{leb_is, is_leb-of}
use Rattle.dl_field.specs.declared.params.Params.{Params}
use Rattle.dl_table.specs.declared.fault.FaultKind.TheVariants as fault
use Rattle.dl_table.specs.Value.{Judgement, good, bad}
use Rattle.dl_rows.specs.declared.operation.Operation.{Operation}
use Rattle.dl_rows.specs.declared.operation.Operation.TheVariants as op
use Rattle.dl_rows.specs.OperationSpelt.{is_empty, fits_signed, signed_number, unsigned_operand, signed_operand}
use Rattle.dl_rows.specs.OperationSpelt.{standard_opcodes, standard_spelt, are_lebs, discriminator_spelt}
use Rattle.dl_rows.specs.OperationSpelt.{extended_spelt, body_spelt, operation_spelt}
use Rattle.dl_rows.specs.Spelling.{IsBare, HasUnsigned, IsExtended, SpellsOperation, IsNumber}
use Rattle.dl_rows.specs.BadOperation.{BeginsExtended, BeginsDiscriminator, IsWrongLength, IsFaulty}
use Rattle.std.specs.List.{concat, AllByRecursion}
use Rattle.dl_num.proofs.LebFrontLemmas.{and_left, and_right, true_false}
use Rattle.dl_rows.proofs.OperandLemmas.{signed_number-is}

-- ---- numbers

pub number_is : (w : List ℕ) → is_leb w ≡ true → IsUleb w (groups w)
number_is w t = let r = leb_is w t in (r.0, r.1, r.2, refl)

pub signed_is : (w : List ℕ) → is_leb w ≡ true → IsSleb w (signed_number w)
signed_is w t =
    let r = leb_is w t in
    let s : IsSleb w (signed_groups w r.1) = (r.0, r.1, r.2, refl) in
    rw (signed_number-is w (signed_groups w r.1) s) s

pub no_number : (w : List ℕ) → is_leb w ≡ false → IsNumber w → ⊥
no_number w f n = true_false (is_leb-of w n.0 n.1 n.2) f

pub fits : (i : ℤ) → fits_signed i ≡ true → IsSigned64 i
fits (pos n) e = ltb-true n (2 ^ 63) e
fits (negsuc n) e = ltb-true n (2 ^ 63) e

pub fits_not : (i : ℤ) → fits_signed i ≡ false → IsSigned64 i → ⊥
fits_not (pos n) e f = let l = ltb-false n (2 ^ 63) e in omega arith
fits_not (negsuc n) e f = let l = ltb-false n (2 ^ 63) e in omega arith

pub empty_is : (w : List ℕ) → is_empty w ≡ true → w ≡ []
empty_is [] e = refl
empty_is (b ∷ w) e = let l = eqb-true (length (b ∷ w)) 0 e in absurd (omega arith)

-- the number at the front, and what follows it
pub leb_split : (w : List ℕ) → leb_front w ++ after_leb w ≡ w
leb_split [] = refl
leb_split (b ∷ w) = elim (cases_lt b 128) [
  | inl lt ↦ rw (lt-ltb b 128 lt) refl
  | inr le ↦ rw (le-ltb b 128 le) (ap (λ (z : List ℕ). b ∷ z) (leb_split w))
]

-- numbers, as many as these
pub record AreNumbers (count : ℕ) (w : List ℕ) : Type 0 where
  pub operands : List (List ℕ)
  pub as_many : length operands ≡ count
  pub each : AllByRecursion IsNumber operands
  pub bytes : w ≡ concat operands

pub lebs_are : (count : ℕ) (w : List ℕ) → are_lebs count w ≡ true → AreNumbers count w
lebs_are zero w e = record { operands = []; as_many = refl; each = tt; bytes = empty_is w e }
lebs_are (suc count) w e =
    let t = and_left (is_leb (leb_front w)) (are_lebs count (after_leb w)) e in
    let r = lebs_are count (after_leb w) (and_right (is_leb (leb_front w)) (are_lebs count (after_leb w)) e) in
    record {
      operands = leb_front w ∷ r.operands;
      as_many = ap suc r.as_many;
      each = (leb_is (leb_front w) t, r.each);
      bytes = sym (leb_split w) ∙ ap (λ (z : List ℕ). leb_front w ++ z) r.bytes;
    }

-- what holds of w where this is computed of it
abbrev pub Judged : Order → Params → List ℕ → Judgement Operation → Type 0
Judged order h w (Some (Ok o)) = SpellsOperation order h o w
Judged order h w (Some (Err kind)) = IsFaulty h w kind
Judged order h w None = Unit {0}

-- ---- standard opcodes

-- an opcode that takes an unsigned number
number_judged : (order : Order) (h : Params) (make : ℕ → Operation) (opcode : ℕ) (w : List ℕ) → opcode < h.opcode_base
    → (opcode ≡ 2) ⊎ (opcode ≡ 4) ⊎ (opcode ≡ 5) ⊎ (opcode ≡ 12)
    → ((n : ℕ) → HasUnsigned h opcode n (opcode ∷ w) → SpellsOperation order h (make n) (opcode ∷ w))
    → Judged order h (opcode ∷ w) (unsigned_operand make w)
number_judged order h make opcode w below takes spells = elim (cases_Bool (is_leb w)) [
  | inr f ↦ rw f tt
  | inl t ↦ rw t (elim (cases_lt (groups w) (2 ^ 64)) [
    | inl lt ↦ rw (lt-ltb (groups w) (2 ^ 64) lt)
        (spells (groups w)
        (record { below = below; operand = w; bytes = refl; spells = number_is w t; fits = lt }))
    | inr le ↦ rw (le-ltb (groups w) (2 ^ 64) le) (inl (record {
      opcode = opcode;
      takes = takes;
      below = below;
      operand = w;
      bytes = refl;
      number = groups w;
      spells = number_is w t;
      out = le;
    }))
  ])
]

signed_judged : (order : Order) (h : Params) (w : List ℕ) → 3 < h.opcode_base
    → Judged order h (3 ∷ w) (signed_operand (λ i. op.AdvanceLine i) w)
signed_judged order h w below = elim (cases_Bool (is_leb w)) [
  | inr f ↦ rw f tt
  | inl t ↦ rw t (elim (cases_Bool (fits_signed (signed_number w))) [
    | inl e ↦ rw e (record {
      below = below;
      operand = w;
      bytes = refl;
      spells = signed_is w t;
      fits = fits (signed_number w) e;
    })
    | inr e ↦ rw e (inr (inl (record {
      below = below;
      operand = w;
      bytes = refl;
      number = signed_number w;
      spells = signed_is w t;
      out = fits_not (signed_number w) e;
    })))
  ])
]

bare_judged : (order : Order) (h : Params) (o : Operation) (opcode : ℕ) (w : List ℕ) → opcode < h.opcode_base
    → (IsBare h opcode (opcode ∷ w) → SpellsOperation order h o (opcode ∷ w))
    → Judged order h (opcode ∷ w) (if is_empty w then good o else None)
bare_judged order h o opcode w below spells = elim (cases_Bool (is_empty w)) [
  | inl e ↦ rw e (spells (record { below = below; bytes = ap (λ (z : List ℕ). opcode ∷ z) (empty_is w e) }))
  | inr f ↦ rw f tt
]

two_bytes_judged : (order : Order) (h : Params) (w : List ℕ) → 9 < h.opcode_base
    → Judged order h (9 ∷ w) (if length w == 2 then good (op.FixedAdvancePc (fixed order w)) else None)
two_bytes_judged order h w below = elim (cases_eq (length w) 2) [
  | inl e ↦ rw (eq-eqb (length w) 2 e)
      (record { below = below; operand = w; bytes = refl; size = e; number = refl })
  | inr other ↦ rw (ne_eqb (length w) 2 other) tt
]

-- the opcodes from 1 to 12, counted from 0
standard_judged : (order : Order) (h : Params) (k : ℕ) (w : List ℕ) → suc k < h.opcode_base → k < 12
    → Judged order h (suc k ∷ w) (standard_spelt order (slice_get standard_opcodes k) w)
standard_judged order h zero w lt le = bare_judged order h op.Copy 1 w lt (λ b. b)
standard_judged order h (suc zero) w lt le = number_judged order h (λ n. op.AdvancePc n) 2 w lt (inl refl) (λ n u. u)
standard_judged order h (suc (suc zero)) w lt le = signed_judged order h w lt
standard_judged order h (suc (suc (suc zero))) w lt le =
    number_judged order h (λ n. op.SetFile n) 4 w lt (inr (inl refl)) (λ n u. u)
standard_judged order h (suc (suc (suc (suc zero)))) w lt le =
    number_judged order h (λ n. op.SetColumn n) 5 w lt (inr (inr (inl refl))) (λ n u. u)
standard_judged order h (suc (suc (suc (suc (suc zero))))) w lt le =
    bare_judged order h op.NegateStatement 6 w lt (λ b. b)
standard_judged order h (suc (suc (suc (suc (suc (suc zero)))))) w lt le =
    bare_judged order h op.SetBasicBlock 7 w lt (λ b. b)
standard_judged order h (suc (suc (suc (suc (suc (suc (suc zero))))))) w lt le =
    bare_judged order h op.ConstAddPc 8 w lt (λ b. b)
standard_judged order h (suc (suc (suc (suc (suc (suc (suc (suc zero)))))))) w lt le = two_bytes_judged order h w lt
standard_judged order h (suc (suc (suc (suc (suc (suc (suc (suc (suc zero))))))))) w lt le =
    bare_judged order h op.SetPrologueEnd 10 w lt (λ b. b)
standard_judged order h (suc (suc (suc (suc (suc (suc (suc (suc (suc (suc zero)))))))))) w lt le =
    bare_judged order h op.SetEpilogueBegin 11 w lt (λ b. b)
standard_judged order h (suc (suc (suc (suc (suc (suc (suc (suc (suc (suc (suc zero))))))))))) w lt le =
    number_judged order h (λ n. op.SetIsa n) 12 w lt (inr (inr (inr refl))) (λ n u. u)
standard_judged order h (suc (suc (suc (suc (suc (suc (suc (suc (suc (suc (suc (suc k)))))))))))) w lt le =
    absurd (omega arith)

-- ---- extended opcodes

-- the operands of an extended opcode of the length n, which size spells
module _ (order : Order) (h : Params) (w size : List ℕ) (n : ℕ) (s : IsUleb size n) (some : 1 ≤ n)
    (lt : n < 2 ^ 64) where
  -- w is a zero byte, the length, the opcode and its operand
  abbrev IsTo : ℕ → List ℕ → Type 0
  IsTo opcode operand = w ≡ 0 ∷ (size ++ opcode ∷ operand)

  begins : (opcode : ℕ) (operand : List ℕ) → IsTo opcode operand → BeginsExtended w n opcode operand
  begins opcode operand e = record { size = size; bytes = e; spells = s; some = some; fits = lt }

  -- the length is that of the opcode and its operand
  whole : (opcode : ℕ) (operand : List ℕ) → IsTo opcode operand → n ≡ 1 + length operand
      → IsExtended w (opcode ∷ operand)
  whole opcode operand e l =
      let same : n ≡ length (opcode ∷ operand) = omega (arith, l) in
      record { size = size; bytes = e; spells = rw same at s; fits = rw same at lt }

  wrong_length : (opcode : ℕ) (operand : List ℕ) → IsTo opcode operand → IsWrongLength h opcode n
      → is_empty operand ≡ true → IsFaulty h w fault.ExtendedLength
  wrong_length opcode operand e wrong none =
      let empty = begins opcode [] (rw (empty_is operand none) at e) in
      inl (record { n = n; opcode = opcode; begins = empty; wrong = wrong })

  end_judged : (operand : List ℕ) → IsTo 1 operand
      → Judged order h w (extended_spelt order h.address_size n 1 operand)
  end_judged operand e = elim (cases_Bool (is_empty operand)) [
    | inr f ↦ rw f tt
    | inl none ↦ rw none (elim (cases_eq n 1) [
      | inl l ↦ rw (eq-eqb n 1 l) (whole 1 [] (rw (empty_is operand none) at e) l)
      | inr l ↦ rw (ne_eqb n 1 l) (wrong_length 1 operand e (inl (refl, l)) none)
    ])
  ]

  address_judged : (operand : List ℕ) → IsTo 2 operand
      → Judged order h w (extended_spelt order h.address_size n 2 operand)
  address_judged operand e = elim (cases_eq n (1 + h.address_size)) [
    | inl fit ↦ rw (eq-eqb n (1 + h.address_size) fit) (elim (cases_eq (length operand) h.address_size) [
      | inl l ↦ rw (eq-eqb (length operand) h.address_size l) (record {
        operand = operand;
        extended = whole 2 operand e (omega (arith, fit, l));
        size = l;
        number = refl;
      })
      | inr l ↦ rw (ne_eqb (length operand) h.address_size l) tt
    ])
    | inr unfit ↦ rw (ne_eqb n (1 + h.address_size) unfit) (elim (cases_Bool (is_empty operand)) [
      | inl none ↦ rw none (wrong_length 2 operand e (inr (inl (refl, unfit))) none)
      | inr f ↦ rw f tt
    ])
  ]

  -- the operand of set_discriminator is a number, or isn't
  ended_judged : (operand : List ℕ) → IsTo 4 operand → BeginsDiscriminator w n operand → is_leb operand ≡ true
      → Judged order h w (if not (nat_lt (groups operand) (2 ^ 64)) then bad fault.LebRange
      else if 1 + length operand == n then good (op.SetDiscriminator (groups operand))
      else bad fault.ExtendedLength)
  ended_judged operand e b t = elim (cases_lt (groups operand) (2 ^ 64)) [
    | inr out ↦ rw (le-ltb (groups operand) (2 ^ 64) out) (inr (inr (inr (record {
      n = n;
      operand = operand;
      begins = b;
      number = groups operand;
      spells = number_is operand t;
      out = out;
    }))))
    | inl fits ↦ rw (lt-ltb (groups operand) (2 ^ 64) fits) (elim (cases_eq (1 + length operand) n) [
      | inl l ↦ rw (eq-eqb (1 + length operand) n l) (record {
        operand = operand;
        extended = whole 4 operand e (sym l);
        spells = number_is operand t;
        fits = fits;
      })
      | inr l ↦ rw (ne_eqb (1 + length operand) n l)
          (inr (record { n = n; operand = operand; begins = b; differs = inl (leb_is operand t, l) }))
    ])
  ]

  discriminator_judged : (operand : List ℕ) → IsTo 4 operand → Judged order h w (discriminator_spelt n operand)
  discriminator_judged operand e = elim (cases_eq n 1) [
    | inl one ↦ rw (eq-eqb n 1 one) (elim (cases_Bool (is_empty operand)) [
      | inl none ↦ rw none (wrong_length 4 operand e (inr (inr (refl, one))) none)
      | inr f ↦ rw f tt
    ])
    | inr more ↦
        let b : BeginsDiscriminator w n operand =
        record { extended = begins 4 operand e; room = omega (arith, more, some) } in
        rw (ne_eqb n 1 more) (elim (cases_Bool (is_leb operand)) [
          | inl t ↦ rw t (ended_judged operand e b t)
          | inr f ↦ rw f (elim (cases_eq (1 + length operand) n) [
            | inl l ↦ rw (eq-eqb (1 + length operand) n l)
                (inr (record { n = n; operand = operand; begins = b; differs = inr (no_number operand f, l) }))
            | inr l ↦ rw (ne_eqb (1 + length operand) n l) tt
          ])
        ])
  ]

  extended_judged : (opcode : ℕ) (operand : List ℕ) → IsTo opcode operand
      → Judged order h w (extended_spelt order h.address_size n opcode operand)
  extended_judged opcode operand e = elim (cases_eq opcode 1) [
    | inl is ↦ rw is (end_judged operand (rw is at e))
    | inr one ↦ elim (cases_eq opcode 2) [
      | inl is ↦ rw is (address_judged operand (rw is at e))
      | inr two ↦ elim (cases_eq opcode 4) [
        | inl is ↦ rw is (discriminator_judged operand (rw is at e))
        | inr four ↦ rw (ne_eqb opcode 1 one, ne_eqb opcode 2 two, ne_eqb opcode 4 four)
            (elim (cases_eq (1 + length operand) n) [
              | inl l ↦ rw (eq-eqb (1 + length operand) n l) (inr (record {
                opcode = opcode;
                operand = operand;
                extended = whole opcode operand e (sym l);
                not_end_sequence = one;
                not_set_address = two;
                not_set_discriminator = four;
              }))
              | inr l ↦ rw (ne_eqb (1 + length operand) n l) tt
            ])
      ]
    ]
  ]

body_judged : (order : Order) (h : Params) (w size : List ℕ) (n : ℕ) (u : List ℕ) → w ≡ 0 ∷ (size ++ u) → IsUleb size n
    → Judged order h w (body_spelt order h.address_size n u)
body_judged order h w size n [] e s =
    let bytes : w ≡ 0 ∷ size = rw append-nil at e in
    elim (cases_eq n 0) [
      | inl none ↦ rw (eq-eqb n 0 none) (record { size = size; bytes = bytes; spells = rw none at s })
      | inr some ↦ rw (ne_eqb n 0 some) (elim (cases_lt n (2 ^ 64)) [
        | inl lt ↦ rw (lt-ltb n (2 ^ 64) lt) tt
        | inr le ↦ rw (le-ltb n (2 ^ 64) le)
            (inr (inr (inl (record {
              number = n;
              ends = record { size = size; bytes = bytes; spells = s };
              out = le;
            }))))
      ])
    ]
body_judged order h w size n (opcode ∷ operand) e s = elim (cases_eq n 0) [
  | inl none ↦ rw (eq-eqb n 0 none) tt
  | inr some ↦ rw (ne_eqb n 0 some) (elim (cases_lt n (2 ^ 64)) [
    | inr le ↦ rw (le-ltb n (2 ^ 64) le) tt
    | inl lt ↦ rw (lt-ltb n (2 ^ 64) lt)
        (extended_judged order h w size n s (omega (arith, some)) lt opcode operand e)
  ])
]

-- ---- each opcode

pub judged : (order : Order) (h : Params) (w : List ℕ) → 1 ≤ h.opcode_base
    → Judged order h w (operation_spelt order h w)
judged order h [] some = tt
judged order h (zero ∷ w) some = rw (lt-leb h.opcode_base 0 some) (elim (cases_Bool (is_leb (leb_front w))) [
  | inr f ↦ rw f tt
  | inl t ↦ rw t (body_judged order h (0 ∷ w) (leb_front w) (groups (leb_front w)) (after_leb w)
      (ap (λ (z : List ℕ). 0 ∷ z) (sym (leb_split w))) (number_is (leb_front w) t))
])
judged order h (suc k ∷ w) some = elim (cases_lt (suc k) h.opcode_base) [
  | inr le ↦ rw (le-leb h.opcode_base (suc k) le) (elim (cases_Bool (is_empty w)) [
    | inl none ↦ rw none (le, ap (λ (z : List ℕ). suc k ∷ z) (empty_is w none))
    | inr f ↦ rw f tt
  ])
  | inl lt ↦ rw (lt-leb h.opcode_base (suc k) lt, ne_eqb (suc k) 0 (λ z. omega arith)) (elim (cases_lt 12 (suc k)) [
    | inr le ↦
        let same : suc k - 1 ≡ k = omega arith in
        rw (le-leb (suc k) 12 le, same) (standard_judged order h k w lt (omega (arith, le)))
    | inl above ↦ rw (lt-leb (suc k) 12 above)
        (elim (cases_Bool (are_lebs (slice_index h.lengths.items (suc k - 1)) w)) [
          | inr f ↦ rw f tt
          | inl t ↦
              let a = lebs_are (slice_index h.lengths.items (suc k - 1)) w t in
              rw t (inl (record {
                opcode = suc k;
                from = omega (arith, above);
                below = lt;
                operands = a.operands;
                count = a.as_many;
                each = a.each;
                bytes = ap (λ (z : List ℕ). suc k ∷ z) a.bytes;
              }))
        ])
  ])
]
