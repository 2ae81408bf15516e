-- What bytes make of an operation that is begun: set_discriminator, opcodes that are passed over,
-- and the bytes before an operand.
use Rattle.std.proofs.Common.{◌≡◌, ◌≢◌, ℕ, ◌+◌, ◌-◌, ◌^◌, ◌<◌, ◌≤◌, Bool, true, false, List, [], ◌∷◌, ◌++◌, length}
use Rattle.std.proofs.Common.{take, slice_index, slice_index_or, Some, Ok, Err, refl, sym, ap, ◌∙◌, arith, inl}
use Rattle.std.proofs.Common.{inr, append_assoc, length-append}
use Rattle.std.proofs.lemmas.Bool.{cases_lt, ne_eqb}
use Rattle.std.proofs.lemmas.List.{length-append, append-nil, take_more, take_all}
use Rattle.dl_num.specs.declared.fixed.Order.{Order}
use Rattle.dl_num.specs.declared.leb.LebRange.{LebRange}
use Rattle.dl_num.specs.declared.leb.Uleb.{Uleb}
use Rattle.dl_num.specs.declared.partial_number.PartialNumber.{PartialNumber}
use Rattle.dl_num.specs.Front.{SpellsNowhere, SpellsFirst}
use Rattle.dl_num.specs.Leb.{IsUleb}
use Rattle.dl_num.specs.LebReader.{UlebTook, UlebIs}
use Rattle.dl_num.specs.NumberBytes.{number_size, number_bytes}
use Rattle.dl_field.specs.declared.params.Params.{Params}
use Rattle.dl_table.specs.declared.fault.FaultKind.TheVariants as fault
use Rattle.dl_rows.specs.declared.operation.Operation.TheVariants as op
use Rattle.dl_rows.specs.declared.operation_state.OperationState.TheVariants as phase
use Rattle.dl_rows.specs.declared.operation_state.OperationStep.{OperationStep}
use Rattle.dl_rows.specs.declared.operation_state.OperationStep.TheVariants as step
use Rattle.dl_rows.specs.OperationSpelt.{discriminator_spelt, extended_spelt, operation_spelt}
use Rattle.dl_rows.specs.Phases.{HasLength, LebsLeft, PhaseStands, StepIs}
use Rattle.dl_rows.proofs.FirstLemmas.{At, nowhere_here, at_first, at_same, at_join, at_here, first_nil, open_byte}
use Rattle.dl_rows.proofs.OperandLemmas.{Verdict, skipped_nowhere, skipped_first, skipped_then, sized, sized_first}
use Rattle.dl_rows.proofs.SpeltFirst.{address_then, extended_at, length_pending, length_begun, length_refused, body_out}
use Rattle.dl_rows.proofs.SpeltFirst.{discriminator_nowhere, discriminator_first, discriminator_out}
use Rattle.dl_rows.proofs.SpeltFirst.{discriminator_early, discriminator_late}
use Rattle.dl_rows.proofs.PhaseLemmas.{EndsAs, Answered, piece_is}
use Rattle.dl_num.specs.Fixed.{fixed}
use Rattle.dl_rows.specs.declared.operation.Operation.{Operation}

-- ---- set_discriminator

pub discriminator_more : (order : Order) (h : Params) (left b : ℕ) (old new : Uleb) (v : List ℕ)
    → PhaseStands h (phase.Discriminator left old) v → 1 < left
    → ((w : List ℕ) → UlebTook old w → UlebTook new (w ++ b ∷ []))
    → PhaseStands h (phase.Discriminator (left - 1) new) (v ++ b ∷ [])
discriminator_more order h left b old new v s more took =
    let operand = s.2.1 in
    let l : length (operand ++ b ∷ []) ≡ length operand + 1 = length-append operand (b ∷ []) in
    let m : 1 + length operand + left ≡ 1 + length (operand ++ b ∷ []) + (left - 1) = omega arith in (
      s.0,
      omega arith,
      (
        s.2.0,
        operand ++ b ∷ [],
        piece_is s.2.0 operand (b ∷ []) v 4 s.2.2,
        rw m at s.2.3,
        took operand s.2.4,
      ),
    )

discriminator_at : (order : Order) (h : Params) (left : ℕ) (old : Uleb) {v : List ℕ}
    (s : PhaseStands h (phase.Discriminator left old) v)
    → At (operation_spelt order h) (discriminator_spelt (1 + length s.2.1 + left)) v s.2.1
discriminator_at order h left old s =
    let n = 1 + length s.2.1 + left in
    at_join (extended_at order h s.0 s.2.0 s.2.1 n 4 s.2.2 s.2.3)
    (at_same (extended_spelt order h.address_size n 4) (discriminator_spelt n) s.2.1 (λ u. refl))

-- the operand of a discriminator that is begun says nothing yet
pub discriminator_pends : (order : Order) (h : Params) (left : ℕ) (old : Uleb) (v : List ℕ)
    → PhaseStands h (phase.Discriminator left old) v → SpellsNowhere (operation_spelt order h) v
discriminator_pends order h left old v s =
    nowhere_here (discriminator_at order h left old s)
    (discriminator_nowhere (1 + length s.2.1 + left) s.2.1 s.2.4.continue (omega arith))

pub discriminator_ends : (order : Order) (h : Params) (b : ℕ) (old : Uleb) (v : List ℕ) (m : ℕ)
    → PhaseStands h (phase.Discriminator 1 old) v → m < 2 ^ 64
    → ((w : List ℕ) → UlebTook old w → UlebIs (w ++ b ∷ []) (Ok m))
    → SpellsFirst (operation_spelt order h) (v ++ b ∷ []) (Ok (op.SetDiscriminator m))
discriminator_ends order h b old v m s lt is =
    let l : length (s.2.1 ++ b ∷ []) ≡ length s.2.1 + 1 = length-append s.2.1 (b ∷ []) in
    at_first (b ∷ []) (discriminator_at order h 1 old s)
    (discriminator_first (1 + length s.2.1 + 1) m (s.2.1 ++ b ∷ []) (is s.2.1 s.2.4) lt (omega arith))

pub discriminator_beyond : (order : Order) (h : Params) (left b : ℕ) (old : Uleb) (v : List ℕ) (e : LebRange)
    → PhaseStands h (phase.Discriminator left old) v
    → ((w : List ℕ) → UlebTook old w → UlebIs (w ++ b ∷ []) (Err e))
    → SpellsFirst (operation_spelt order h) (v ++ b ∷ []) (Err fault.LebRange)
discriminator_beyond order h left b old v e s is =
    let l : length (s.2.1 ++ b ∷ []) ≡ length s.2.1 + 1 = length-append s.2.1 (b ∷ []) in
    let out = is s.2.1 s.2.4 in
    let some = s.1 in
    at_first (b ∷ []) (discriminator_at order h left old s)
    (discriminator_out (1 + length s.2.1 + left) out.0 (s.2.1 ++ b ∷ []) out.1 out.2 (omega arith))

pub discriminator_short : (order : Order) (h : Params) (left b : ℕ) (old : Uleb) (v : List ℕ) (m : ℕ)
    → PhaseStands h (phase.Discriminator left old) v → left ≢ 1 → m < 2 ^ 64
    → ((w : List ℕ) → UlebTook old w → UlebIs (w ++ b ∷ []) (Ok m))
    → SpellsFirst (operation_spelt order h) (v ++ b ∷ []) (Err fault.ExtendedLength)
discriminator_short order h left b old v m s more lt is =
    let l : length (s.2.1 ++ b ∷ []) ≡ length s.2.1 + 1 = length-append s.2.1 (b ∷ []) in
    let some = s.1 in
    at_first (b ∷ []) (discriminator_at order h left old s)
    (discriminator_early (1 + length s.2.1 + left) m (s.2.1 ++ b ∷ []) (is s.2.1 s.2.4) lt (omega arith))

pub discriminator_long : (order : Order) (h : Params) (left b : ℕ) (old new : Uleb) (v : List ℕ)
    → PhaseStands h (phase.Discriminator left old) v → left ≤ 1
    → ((w : List ℕ) → UlebTook old w → UlebTook new (w ++ b ∷ []))
    → SpellsFirst (operation_spelt order h) (v ++ b ∷ []) (Err fault.ExtendedLength)
discriminator_long order h left b old new v s one took =
    let l : length (s.2.1 ++ b ∷ []) ≡ length s.2.1 + 1 = length-append s.2.1 (b ∷ []) in
    let some = s.1 in
    at_first (b ∷ []) (discriminator_at order h left old s)
    (discriminator_late (1 + length s.2.1 + left) b s.2.1 (took s.2.1 s.2.4).continue s.2.4.continue (omega arith))

-- ---- bytes in two parts

-- what bytes after front make of v and front, they and front make of v
pub step_after : (order : Order) (h : Params) (v front bytes : List ℕ) (r : OperationStep)
    → StepIs order h (v ++ front) bytes r → StepIs order h v (front ++ bytes) r
step_after order h v front bytes (step.Within p) s =
    let same = append_assoc v front bytes in (rw same at s.0, rw same at s.1)
step_after order h v front bytes (step.Ends o tail) s =
    (front ++ s.0, rw s.1 (sym (append_assoc front s.0 tail.now)), rw (append_assoc v front s.0) at s.2)
step_after order h v front bytes (step.Refuses k tail) s =
    (front ++ s.0, rw s.1 (sym (append_assoc front s.0 tail.now)), rw (append_assoc v front s.0) at s.2)

-- the same where the bytes are told so
pub step_from : (order : Order) (h : Params) (v front rest bytes : List ℕ) (r : OperationStep) → bytes ≡ front ++ rest
    → StepIs order h (v ++ front) rest r → StepIs order h v bytes r
step_from order h v front rest bytes r e s = rw e (step_after order h v front rest r s)

-- bytes that end after one of them, where v and the front before it are told of together
pub ends_after : (order : Order) (h : Params) (v front bytes tail : List ℕ) (b : ℕ) (a : Verdict)
    → bytes ≡ (front ++ b ∷ []) ++ tail
    → SpellsFirst (operation_spelt order h) ((v ++ front) ++ b ∷ []) a → EndsAs order h v bytes tail a
ends_after order h v front bytes tail b a e first =
    (front ++ b ∷ [], e, rw (append_assoc v front (b ∷ [])) at first)

-- ---- the length of an extended opcode

pub length_within : (order : Order) (h : Params) (old new : Uleb) (v bytes : List ℕ)
    → PhaseStands h (phase.Length old) v
    → ((w : List ℕ) → UlebTook old w → UlebTook new (w ++ bytes))
    → StepIs order h v bytes (step.Within (phase.Length new))
length_within order h old new v bytes s took =
    let t = took s.1.0 s.1.2 in
    let e = ap (λ (z : List ℕ). z ++ bytes) s.1.1 in (
      (s.0, (s.1.0 ++ bytes, e, t)),
      rw e (length_begun order h s.0 (s.1.0 ++ bytes) t.continue),
    )

pub length_beyond : (order : Order) (h : Params) (old new : Uleb) (v bytes tail : List ℕ) (e : LebRange)
    → PhaseStands h (phase.Length old) v → Answered old bytes tail (Err e) new
    → EndsAs order h v bytes tail (Err fault.LebRange)
length_beyond order h old new v bytes tail e s answer =
    let a = answer s.1.0 s.1.2 in
    let out = a.2 in (
      a.0,
      a.1,
      rw s.1.1 (length_refused order h s.0 (s.1.0 ++ a.0) out.0 fault.LebRange out.1
          (body_out order h.address_size out.0 out.2)),
    )

-- the length is complete, and the rest is what the bytes after it make
pub length_read : (order : Order) (h : Params) (old new : Uleb) (v bytes tail : List ℕ) (n : ℕ) (r : OperationStep)
    → PhaseStands h (phase.Length old) v
    → Answered old bytes tail (Ok n) new → ((w : List ℕ) → IsUleb w n → StepIs order h (0 ∷ w) tail r)
    → StepIs order h v bytes r
length_read order h old new v bytes tail n r s answer rest =
    let a = answer s.1.0 s.1.2 in
    step_from order h v a.0 tail bytes r a.1
    (rw s.1.1 (rest (s.1.0 ++ a.0) a.2))

pub length_of_zero : (order : Order) (h : Params) (w bytes : List ℕ) → 1 ≤ h.opcode_base → IsUleb w 0
    → EndsAs order h (0 ∷ w) bytes bytes (Err fault.ExtendedEmpty)
length_of_zero order h w bytes some u =
    ([], refl, rw (append-nil w) (length_refused order h some w 0 fault.ExtendedEmpty u refl))

-- ---- an extended opcode

pub extended_pends : (order : Order) (h : Params) (n : ℕ) (v bytes : List ℕ) → length bytes ≡ 0
    → PhaseStands h (phase.Extended n) v → StepIs order h v bytes (step.Within (phase.Extended n))
extended_pends order h n v (x ∷ bytes) e s = absurd (omega arith)
extended_pends order h n v [] e s =
    rw (append-nil v) (s, rw s.1.1 (length_pending order h s.0 s.1.0 n s.1.2))

-- its number decides alone
pub opcode_decides : (order : Order) (h : Params) (n x : ℕ) (v bytes tail : List ℕ) (a : Verdict)
    → PhaseStands h (phase.Extended n) v → bytes ≡ x ∷ tail
    → extended_spelt order h.address_size n x [] ≡ Some a → EndsAs order h v bytes tail a
opcode_decides order h n x v bytes tail a s e is =
    let here : v ++ x ∷ [] ≡ 0 ∷ (s.1.0 ++ x ∷ []) = ap (λ (z : List ℕ). z ++ x ∷ []) s.1.1 in (
      x ∷ [],
      e,
      at_here (extended_at order h s.0 s.1.0 [] n x here s.1.2)
          (first_nil (extended_spelt order h.address_size n x) a is),
    )

pub end_is : (order : Order) (size n x : ℕ) → x ≡ 1 → n ≡ 1
    → extended_spelt order size n x [] ≡ Some (Ok op.EndSequence)
end_is order size n x e f = rw (e, f) refl

pub end_of_wrong_length : (order : Order) (size n x : ℕ) → x ≡ 1 → n ≢ 1
    → extended_spelt order size n x [] ≡ Some (Err fault.ExtendedLength)
end_of_wrong_length order size n x e f = rw (e, ne_eqb n 1 f) refl

pub address_of_wrong_length : (order : Order) (size n x : ℕ) → x ≡ 2 → n ≢ 1 + size
    → extended_spelt order size n x [] ≡ Some (Err fault.ExtendedLength)
address_of_wrong_length order size n x e f = rw (e, ne_eqb n (1 + size) f) refl

pub discriminator_of_wrong_length : (order : Order) (size n x : ℕ) → x ≡ 4 → n ≡ 1
    → extended_spelt order size n x [] ≡ Some (Err fault.ExtendedLength)
discriminator_of_wrong_length order size n x e f = rw (e, f) refl

pub unknown_alone : (order : Order) (size n x : ℕ) → x ≢ 1 → x ≢ 2 → x ≢ 4 → n ≡ 1
    → extended_spelt order size n x [] ≡ Some (Ok op.Skipped)
unknown_alone order size n x a b c e = rw (ne_eqb x 1 a, ne_eqb x 2 b, ne_eqb x 4 c, e) refl

-- ---- a standard opcode that isn't known

pub skipped_within : (order : Order) (h : Params) (left now : ℕ) (v bytes : List ℕ)
    → PhaseStands h (phase.Skipped left) v
    → ((count : ℕ) (w : List ℕ) → LebsLeft count w left → LebsLeft count (w ++ bytes) now)
    → StepIs order h v bytes (step.Within (phase.Skipped now))
skipped_within order h left now v bytes s more =
    let e = ap (λ (z : List ℕ). z ++ bytes) s.3.1 in
    let l = more (slice_index h.lengths.items (s.0 - 1)) s.3.0 s.3.2 in (
      (s.0, s.1, s.2, (s.3.0 ++ bytes, e, l)),
      rw e (skipped_nowhere order h s.0 (s.3.0 ++ bytes) now s.1 s.2 l),
    )

pub skipped_ends : (order : Order) (h : Params) (left now b : ℕ) (v front bytes tail : List ℕ)
    → PhaseStands h (phase.Skipped left) v
    → ((count : ℕ) (w : List ℕ) → LebsLeft count w left → LebsLeft count (w ++ front) now) → now ≤ 1 → b < 128
    → bytes ≡ (front ++ b ∷ []) ++ tail
    → EndsAs order h v bytes tail (Ok op.Skipped)
skipped_ends order h left now b v front bytes tail s more one lt e =
    let l = more (slice_index h.lengths.items (s.0 - 1)) s.3.0 s.3.2 in
    let some = l.some in
    let is : now ≡ 1 = omega arith in
    ends_after order h v front bytes tail b (Ok op.Skipped) e
    (rw s.3.1 (skipped_first order h s.0 (s.3.0 ++ front) b s.1 s.2 (rw is at l) lt))

pub skipped_at_once : (order : Order) (h : Params) (b : ℕ) (bytes : List ℕ) → 12 < b → b < h.opcode_base
    → slice_index h.lengths.items (b - 1) ≡ 0 → EndsAs order h (b ∷ []) bytes bytes (Ok op.Skipped)
skipped_at_once order h b bytes above below none = (
  [],
  refl,
  record {
    spells = skipped_then order h b above below [] ∙ rw none refl;
    shortest = open_byte (operation_spelt order h) b refl;
  },
)

-- ---- one turn of a loop over bytes

pub next_front : (v xs : List ℕ) (i : ℕ) → i < length xs
    → v ++ take (i + 1) xs ≡ (v ++ take i xs) ++ slice_index_or xs i 0 ∷ []
next_front v xs i lt =
    ap (λ (z : List ℕ). v ++ z) (take_more xs i 0 lt) ∙ sym (append_assoc v (take i xs) (slice_index_or xs i 0 ∷ []))

pub all_taken : (xs : List ℕ) (i : ℕ) → length xs ≤ i → take i xs ≡ xs
all_taken xs i le = take_all i xs le

false_true : ◌≡◌ {A = Bool} false true → ⊥
false_true e = absurd cc

pub not_lt : {n m : ℕ} → (n < m → ◌≡◌ {A = Bool} false true) → m ≤ n
not_lt {n = n} {m = m} h = elim (cases_lt n m) [ inl lt ↦ absurd (false_true (h lt)) | inr le ↦ le ]

-- ---- the operand of an extended opcode begins

pub address_begins : (order : Order) (h : Params) (n x : ℕ) (new : PartialNumber) (v bytes tail : List ℕ)
    (r : OperationStep) → PhaseStands h (phase.Extended n) v → bytes ≡ x ∷ tail → x ≡ 2
    → n ≡ 1 + h.address_size → number_bytes new ≡ [] → number_size new ≡ h.address_size
    → ((v : List ℕ) → PhaseStands h (phase.Address new) v → StepIs order h v tail r) → StepIs order h v bytes r
address_begins order h n x new v bytes tail r s e is size none width rest =
    let now : v ++ x ∷ [] ≡ 0 ∷ (s.1.0 ++ 2 ∷ number_bytes new) =
    ap (λ (z : List ℕ). z ++ x ∷ []) s.1.1 ∙ ap (λ (z : ℕ). 0 ∷ (s.1.0 ++ z ∷ [])) is
    ∙ ap (λ (z : List ℕ). 0 ∷ (s.1.0 ++ 2 ∷ z)) (sym none) in
    step_from order h v (x ∷ []) tail bytes r e
    (rest (v ++ x ∷ []) (s.0, (s.1.0, now, rw size at s.1.2, width)))

pub discriminator_begins : (order : Order) (h : Params) (n x : ℕ) (new : Uleb) (v bytes tail : List ℕ)
    (r : OperationStep) → PhaseStands h (phase.Extended n) v → bytes ≡ x ∷ tail → x ≡ 4
    → 1 < n → UlebTook new [] → ((v : List ℕ) → PhaseStands h (phase.Discriminator (n - 1) new) v
    → StepIs order h v tail r) → StepIs order h v bytes r
discriminator_begins order h n x new v bytes tail r s e is more took rest =
    let now : v ++ x ∷ [] ≡ 0 ∷ (s.1.0 ++ 4 ∷ []) =
    ap (λ (z : List ℕ). z ++ x ∷ []) s.1.1 ∙ ap (λ (z : ℕ). 0 ∷ (s.1.0 ++ z ∷ [])) is in
    let m : n ≡ 1 + 0 + (n - 1) = omega arith in
    step_from order h v (x ∷ []) tail bytes r e
    (rest (v ++ x ∷ []) (s.0, omega arith, (s.1.0, [], now, rw m at s.1.2, took)))

pub rest_begins : (order : Order) (h : Params) (n x : ℕ) (v bytes tail : List ℕ) (r : OperationStep)
    → PhaseStands h (phase.Extended n) v → bytes ≡ x ∷ tail → x ≢ 1 → x ≢ 2 → x ≢ 4
    → 1 < n → ((v : List ℕ) → PhaseStands h (phase.Rest (n - 1)) v → StepIs order h v tail r)
    → StepIs order h v bytes r
rest_begins order h n x v bytes tail r s e a b d more rest =
    let now : v ++ x ∷ [] ≡ 0 ∷ (s.1.0 ++ x ∷ []) = ap (λ (z : List ℕ). z ++ x ∷ []) s.1.1 in
    let m : n ≡ 1 + 0 + (n - 1) = omega arith in
    step_from order h v (x ∷ []) tail bytes r e
    (rest (v ++ x ∷ []) (
      s.0,
      omega arith,
      (s.1.0, x, [], now, a, b, d, rw m at s.1.2),
    ))

-- ---- extended opcodes whose bytes are all there, with a length of one byte

-- bytes after a zero byte spell an operation, and tail are left
abbrev pub Spelt : Order → Params → List ℕ → List ℕ → Operation → Type 0
Spelt order h bytes tail o =
    (front : List ℕ) × (bytes ≡ front ++ tail) × SpellsFirst (operation_spelt order h) (0 ∷ front) (Ok o)

one_byte : (n : ℕ) → 1 ≤ n → n < 128 → HasLength (n ∷ []) n
one_byte n some lt = (([], n, record { bytes = refl; continue = tt; ends = lt }, omega arith), some, omega arith)

front_is : (n x : ℕ) (bytes rest body w tail : List ℕ) → bytes ≡ n ∷ rest → rest ≡ x ∷ body → body ≡ w ++ tail
    → bytes ≡ (n ∷ x ∷ w) ++ tail
front_is n x bytes rest body w tail a b c = a ∙ ap (λ (z : List ℕ). n ∷ z) (b ∙ ap (λ (z : List ℕ). x ∷ z) c)

pub short_end : (order : Order) (h : Params) → 1 ≤ h.opcode_base → (n x : ℕ) (bytes rest tail : List ℕ)
    → bytes ≡ n ∷ rest → rest ≡ x ∷ tail → x ≡ 1 → n ≡ 1 → Spelt order h bytes tail op.EndSequence
short_end order h some n x bytes rest tail a b one len = (
  n ∷ x ∷ [],
  front_is n x bytes rest tail [] tail a b refl,
  at_here (extended_at order h some (n ∷ []) [] n x refl (one_byte n (omega arith) (omega arith)))
      (first_nil (extended_spelt order h.address_size n x) (Ok op.EndSequence)
      (end_is order h.address_size n x one len)),
)

pub short_address : (order : Order) (h : Params) → 1 ≤ h.opcode_base → (n x m : ℕ) (bytes rest body tail : List ℕ)
    → bytes ≡ n ∷ rest → rest ≡ x ∷ body → x ≡ 2 → n ≡ 1 + h.address_size → n < 128
    → (w : List ℕ) × (body ≡ w ++ tail) × (length w ≡ h.address_size) × (m ≡ fixed order w)
    → Spelt order h bytes tail (op.SetAddress m)
short_address order h some n x m bytes rest body tail a b two len lt (w, cut, size, value) = (
  n ∷ x ∷ w,
  front_is n x bytes rest body w tail a b cut,
  rw (value, two) (at_here (at_join
      (extended_at order h some (n ∷ []) w n 2 refl (one_byte n (omega arith) lt))
      (at_same (extended_spelt order h.address_size n 2) (sized h.address_size (λ w. op.SetAddress (fixed order w))) w
      (address_then order h.address_size n len)))
      (sized_first h.address_size (λ w. op.SetAddress (fixed order w)) w size)),
)

pub short_discriminator : (order : Order) (h : Params) → 1 ≤ h.opcode_base
    → (n x m : ℕ) (bytes rest body tail : List ℕ) → bytes ≡ n ∷ rest → rest ≡ x ∷ body → x ≡ 4 → n < 128 → m < 2 ^ 64
    → n + length tail ≡ 1 + length body → (w : List ℕ) × (body ≡ w ++ tail) × IsUleb w m
    → Spelt order h bytes tail (op.SetDiscriminator m)
short_discriminator order h some n x m bytes rest body tail a b four lt fits long (w, cut, is) =
    let l : length body ≡ length w + length tail = ap length cut ∙ length-append w tail in
    let len : 1 + length w ≡ n = omega arith in (
      n ∷ x ∷ w,
      front_is n x bytes rest body w tail a b cut,
      rw four (at_here (at_join (extended_at order h some (n ∷ []) w n 4 refl (one_byte n (omega arith) lt))
          (at_same (extended_spelt order h.address_size n 4) (discriminator_spelt n) w (λ u. refl)))
          (discriminator_first n m w is fits len)),
    )
