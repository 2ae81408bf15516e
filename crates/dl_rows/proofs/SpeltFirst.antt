-- What is spelled as an operation is computed to be it, and no shorter front of it is anything.
use Rattle.std.proofs.Common.{◌≡◌, ◌≢◌, ℕ, zero, suc, ◌+◌, ◌-◌, ◌<◌, ◌≤◌, true, false, List, [], ◌∷◌, ◌++◌, length}
use Rattle.std.proofs.Common.{slice_index, Option, Some, None, Ok, if◌then◌else◌, refl, sym, ap, ◌∙◌, arith, inl, inr}
use Rattle.std.proofs.Common.{◌^◌, drop, Err}
use Rattle.std.specs.List.{concat, AllByRecursion}
use Rattle.std.proofs.lemmas.Bool.Decides.{nat_tests}
use Rattle.std.proofs.lemmas.Bool.{lt-leb, le-leb, eq-eqb, ne_eqb, cases_Bool, and_from}
use Rattle.std.proofs.lemmas.Bool.{and_right as and_false, lt-ltb, le-ltb}
use Rattle.std.proofs.lemmas.List.{drop-append-le, length-append, append-nil, drop_all}
use Rattle.dl_num.specs.declared.fixed.Order.{Order}
use Rattle.dl_num.specs.Fixed.{fixed}
use Rattle.dl_num.specs.Front.{SpellsFirst, SpellsNowhere}
use Rattle.dl_num.specs.Leb.{groups, AllContinue, IsUleb}
use Rattle.dl_num.specs.LebFront.{is_leb, leb_front, after_leb}
use Rattle.dl_num.proofs.LebLaws.{is_leb-of, leb_is_front}
use Rattle.dl_num.proofs.LebFrontLemmas.{and_left, and_right, true_false, leb_front-append, leb_front-le}
use Rattle.dl_num.proofs.LebFrontLemmas.{is_leb-continues, leb_front-leb, leb_front-continues}
use Rattle.dl_field.specs.declared.params.Params.{Params}
use Rattle.dl_rows.specs.declared.operation.Operation.{Operation}
use Rattle.dl_rows.specs.declared.operation.Operation.TheVariants as op
use Rattle.dl_rows.specs.OperationSpelt.{unsigned_operand, signed_operand, are_lebs, discriminator_spelt}
use Rattle.dl_rows.specs.OperationSpelt.{extended_spelt, operation_spelt, body_spelt, length_and_body}
use Rattle.dl_rows.specs.Spelling.{IsBare, HasUnsigned, IsExtended, IsNumber, SkipsStandard, SkipsExtended}
use Rattle.dl_rows.specs.Spelling.{SpellsOperation}
use Rattle.dl_rows.proofs.FirstLemmas.{at_here, at_byte, at_same, first_nil, IsOpen, At, at_nowhere, nowhere_here}
use Rattle.dl_rows.proofs.FirstLemmas.{at_join, nowhere_nil}
use Rattle.dl_rows.proofs.OperandLemmas.{Verdict, unsigned_first, signed_first, sized, sized_first, skipped_then}
use Rattle.dl_rows.proofs.OperandLemmas.{continue_front, continue_before, leb_front_continues, is_leb-number}
use Rattle.dl_table.specs.declared.fault.FaultKind.{FaultKind}
use Rattle.dl_table.specs.declared.fault.FaultKind.TheVariants as fault
use Rattle.dl_rows.specs.Phases.{HasLength}

-- ---- the length

pub length_open : (order : Order) (size : ℕ) (w : List ℕ) (n : ℕ) → IsUleb w n
    → IsOpen {A = Verdict} (length_and_body order size) w
length_open order size w n u front x back e =
    let c = leb_front_continues w front u.1 u.0 x back u.2 e in
    rw (leb_front-continues front c, is_leb-continues front c) refl

pub length_nowhere : (order : Order) (size : ℕ) (w : List ℕ) → AllContinue w
    → SpellsNowhere {A = Verdict} (length_and_body order size) w
length_nowhere order size w h front back e =
    let c = continue_front w front back h e in
    rw (leb_front-continues front c, is_leb-continues front c) refl

-- after the length stands the body
pub length_then : (order : Order) (size : ℕ) (w : List ℕ) (n : ℕ) → IsUleb w n → (u : List ℕ)
    → length_and_body order size (w ++ u) ≡ body_spelt order size n u
length_then order size w n s u =
    let t = is_leb-number w s.0 s.1 s.2 in
    let same = leb_front-leb w t in
    let f : leb_front (w ++ u) ≡ w = leb_front-append w u (rw same t) ∙ same in
    let g : groups w ≡ n = sym s.3 in
    let d : drop (length w) (w ++ u) ≡ u =
    drop-append-le (length w) w u (omega arith)
    ∙ ap (λ (z : List ℕ). z ++ u) (drop_all (length w) w (omega arith)) in
    rw (f, t, g, d) refl

-- after the zero byte stands the length
pub zero_then : (order : Order) (h : Params) → 1 ≤ h.opcode_base → (u : List ℕ)
    → operation_spelt order h (0 ∷ u) ≡ length_and_body order h.address_size u
zero_then order h some u = rw (lt-leb h.opcode_base 0 some) refl

-- ---- the opcode

pub body_then : (order : Order) (size n opcode : ℕ) → 1 ≤ n → n < 2 ^ 64 → (u : List ℕ)
    → body_spelt order size n (opcode ∷ u) ≡ extended_spelt order size n opcode u
body_then order size n opcode some lt u = rw (ne_eqb n 0 (λ k. omega arith), lt-ltb n (2 ^ 64) lt) refl

pub body_nowhere : (order : Order) (size n : ℕ) → 1 ≤ n → n < 2 ^ 64
    → SpellsNowhere {A = Verdict} (body_spelt order size n) []
body_nowhere order size n some lt =
    nowhere_nil (body_spelt order size n) (rw (ne_eqb n 0 (λ k. omega arith), lt-ltb n (2 ^ 64) lt) refl)

-- ---- all before the operand

-- after a length
length_at : (order : Order) (h : Params) → 1 ≤ h.opcode_base → (w : List ℕ) (n : ℕ) (u : List ℕ) → IsUleb w n
    → At (operation_spelt order h) (body_spelt order h.address_size n) (0 ∷ (w ++ u)) u
length_at order h some w n u s =
    at_join
    (at_byte (operation_spelt order h) (length_and_body order h.address_size) 0 (w ++ u) refl (zero_then order h some))
    (record {
      head = w;
      whole = refl;
      begun = length_open order h.address_size w n s;
      same = length_then order h.address_size w n s;
    })

-- after an extended opcode, the bytes being the length's, the opcode and operand
pub extended_at : (order : Order) (h : Params) → 1 ≤ h.opcode_base → {v : List ℕ} (w operand : List ℕ) (n opcode : ℕ)
    → v ≡ 0 ∷ (w ++ opcode ∷ operand) → HasLength w n
    → At (operation_spelt order h) (extended_spelt order h.address_size n opcode) v operand
extended_at order h some w operand n opcode e s =
    let size = h.address_size in
    rw e (at_join (length_at order h some w n (opcode ∷ operand) s.0)
    (at_byte (body_spelt order size n) (extended_spelt order size n opcode) opcode operand
    (rw (ne_eqb n 0 (λ k. omega (arith, k, s.1)), lt-ltb n (2 ^ 64) s.2) refl) (body_then order size n opcode s.1 s.2)))

-- the length alone
pub length_pending : (order : Order) (h : Params) → 1 ≤ h.opcode_base → (w : List ℕ) (n : ℕ) → HasLength w n
    → SpellsNowhere (operation_spelt order h) (0 ∷ w)
length_pending order h some w n s =
    rw (append-nil w) at
    (nowhere_here (length_at order h some w n [] s.0) (body_nowhere order h.address_size n s.1 s.2))

pub length_begun : (order : Order) (h : Params) → 1 ≤ h.opcode_base → (w : List ℕ) → AllContinue w
    → SpellsNowhere (operation_spelt order h) (0 ∷ w)
length_begun order h some w c =
    at_nowhere w
    (at_byte (operation_spelt order h) (length_and_body order h.address_size) 0 [] refl (zero_then order h some))
    (length_nowhere order h.address_size w c)

-- a length that is refused: 0, or 2^64 and more
pub length_refused : (order : Order) (h : Params) → 1 ≤ h.opcode_base → (w : List ℕ) (n : ℕ) (k : FaultKind)
    → IsUleb w n
    → body_spelt order h.address_size n [] ≡ Some (Err k) → SpellsFirst (operation_spelt order h) (0 ∷ w) (Err k)
length_refused order h some w n k s e =
    let first = at_here (length_at order h some w n [] s) (first_nil (body_spelt order h.address_size n) (Err k) e) in
    rw (append-nil w) at first

pub body_out : (order : Order) (size n : ℕ) → 2 ^ 64 ≤ n → body_spelt order size n [] ≡ Some (Err fault.LebRange)
body_out order size n le = rw (ne_eqb n 0 (λ k. omega arith), le-ltb n (2 ^ 64) le) refl

-- ---- set_discriminator

pub discriminator_nowhere : (n : ℕ) (w : List ℕ) → AllContinue w → 1 + length w < n
    → SpellsNowhere {A = Verdict} (discriminator_spelt n) w
discriminator_nowhere n w c lt front back e =
    let l : length w ≡ length front + length back = ap length e ∙ length-append front back in
    rw (
      ne_eqb n 1 (λ k. omega arith),
      is_leb-continues front (continue_front w front back c e),
      ne_eqb (1 + length front) n (λ k. omega arith),
    ) refl

-- no proper front of the operand decides, where the operand fits in the length
discriminator_open : (n : ℕ) (w front : List ℕ) (x : ℕ) (back before : List ℕ) (last : ℕ) → AllContinue before
    → w ≡ before ++ last ∷ [] → 1 + length w ≤ n
    → w ≡ front ++ x ∷ back → ◌≡◌ {A = Option Verdict} (discriminator_spelt n front) None
discriminator_open n w front x back before last c is le e =
    let l : length w ≡ length front + suc (length back) = ap length e ∙ length-append front (x ∷ back) in
    let m = continue_before before last front x back c (sym is ∙ e) in
    rw (ne_eqb n 1 (λ k. omega arith), is_leb-continues front m, ne_eqb (1 + length front) n (λ k. omega arith)) refl

-- a number that fits in the length, and what it is judged to be
ended_first : (n m : ℕ) (w : List ℕ) (a : Verdict) → IsUleb w m → 1 + length w ≤ n
    → (2 ≤ length w + 1 → is_leb w ≡ true → groups w ≡ m → discriminator_spelt n w ≡ Some a)
    → SpellsFirst (discriminator_spelt n) w a
ended_first n m w a u le spelt = record {
  spells = (let l = ap length u.2.bytes in
      spelt (omega (arith, l, length-append u.0 (u.1 ∷ []))) (is_leb-number w u.0 u.1 u.2) (sym u.3));
  shortest = λ front x back k. discriminator_open n w front x back u.0 u.1 u.2.continue u.2.bytes le k;
}

pub discriminator_first : (n m : ℕ) (w : List ℕ) → IsUleb w m → m < 2 ^ 64 → 1 + length w ≡ n
    → SpellsFirst (discriminator_spelt n) w (Ok (op.SetDiscriminator m))
discriminator_first n m w u lt e =
    ended_first n m w (Ok (op.SetDiscriminator m)) u (omega arith) (λ some t g. grind (arith, nat_tests))

pub discriminator_out : (n m : ℕ) (w : List ℕ) → IsUleb w m → 2 ^ 64 ≤ m → 1 + length w ≤ n
    → SpellsFirst (discriminator_spelt n) w (Err fault.LebRange)
discriminator_out n m w u le e =
    ended_first n m w (Err fault.LebRange) u e (λ some t g. grind (arith, nat_tests))

-- the operand ends before its length does
pub discriminator_early : (n m : ℕ) (w : List ℕ) → IsUleb w m → m < 2 ^ 64 → 1 + length w < n
    → SpellsFirst (discriminator_spelt n) w (Err fault.ExtendedLength)
discriminator_early n m w u lt e =
    ended_first n m w (Err fault.ExtendedLength) u (omega arith) (λ some t g. grind (arith, nat_tests))

-- the operand goes on at its length's end
pub discriminator_late : (n b : ℕ) (w : List ℕ) → AllContinue (w ++ b ∷ []) → AllContinue w
    → 1 + length (w ++ b ∷ []) ≡ n → SpellsFirst (discriminator_spelt n) (w ++ b ∷ []) (Err fault.ExtendedLength)
discriminator_late n b w c d e = record {
  spells = (let l : length (w ++ b ∷ []) ≡ length w + 1 = length-append w (b ∷ []) in
      rw (ne_eqb n 1 (λ k. omega arith), is_leb-continues (w ++ b ∷ []) c, eq-eqb (1 + length (w ++ b ∷ [])) n e) refl);
  shortest = λ front x back k. discriminator_open n (w ++ b ∷ []) front x back w b d refl (omega arith) k;
}

-- ---- standard opcodes

-- an operation of one byte
byte_first : (order : Order) (h : Params) (o : Operation) (opcode : ℕ) (w : List ℕ) → w ≡ opcode ∷ []
    → operation_spelt order h (opcode ∷ []) ≡ Some (Ok o) → SpellsFirst (operation_spelt order h) w (Ok o)
byte_first order h o opcode w is e =
    let spelt = λ (u : List ℕ). operation_spelt order h (opcode ∷ u) in
    rw is (at_here (at_byte (operation_spelt order h) spelt opcode [] refl (λ u. refl)) (first_nil spelt (Ok o) e))

bare_first : (order : Order) (h : Params) (o : Operation) (opcode : ℕ) (w : List ℕ)
    → operation_spelt order h (opcode ∷ []) ≡ Some (Ok o)
    → IsBare h opcode w → SpellsFirst (operation_spelt order h) w (Ok o)
bare_first order h o opcode w e s = byte_first order h o opcode w s.bytes e

-- an opcode of one byte, and its operand
operand_first : (order : Order) (h : Params) (o : Operation) (opcode : ℕ) (operand w : List ℕ)
    (spelt : List ℕ → Option Verdict)
    → ((u : List ℕ) → operation_spelt order h (opcode ∷ u) ≡ spelt u) → w ≡ opcode ∷ operand
    → SpellsFirst spelt operand (Ok o) → SpellsFirst (operation_spelt order h) w (Ok o)
operand_first order h o opcode operand w spelt same e first =
    rw e (at_here (at_byte (operation_spelt order h) spelt opcode operand refl same) first)

unsigned_case : (order : Order) (h : Params) (make : ℕ → Operation) (opcode n : ℕ) (w : List ℕ)
    → (opcode < h.opcode_base → (u : List ℕ) → operation_spelt order h (opcode ∷ u) ≡ unsigned_operand make u)
    → HasUnsigned h opcode n w → SpellsFirst (operation_spelt order h) w (Ok (make n))
unsigned_case order h make opcode n w same s =
    operand_first order h (make n) opcode s.operand w (unsigned_operand make) (same s.below) s.bytes
    (unsigned_first make s.operand n s.spells s.fits)

-- ---- operands that nobody reads

after_append : (w v : List ℕ) → is_leb (leb_front w) ≡ true → after_leb (w ++ v) ≡ after_leb w ++ v
after_append w v e = rw (leb_front-append w v e) (drop-append-le (length (leb_front w)) w v (leb_front-le w))

-- numbers begin no others that are as many
lebs_once : (count : ℕ) (w : List ℕ) (x : ℕ) (v : List ℕ) → are_lebs count w ≡ true
    → are_lebs count (w ++ x ∷ v) ≡ false
lebs_once zero [] x v e = ne_eqb (length (x ∷ v)) 0 (λ k. omega arith)
lebs_once zero (b ∷ w) x v e = absurd (true_false e (ne_eqb (length (b ∷ w)) 0 (λ k. omega arith)))
lebs_once (suc count) w x v e =
    let l = and_left (is_leb (leb_front w)) (are_lebs count (after_leb w)) e in
    let r = and_right (is_leb (leb_front w)) (are_lebs count (after_leb w)) e in
    let later : are_lebs count (after_leb (w ++ x ∷ v)) ≡ false =
    ap (are_lebs count) (after_append w (x ∷ v) l) ∙ lebs_once count (after_leb w) x v r in
    and_false (is_leb (leb_front (w ++ x ∷ v))) (are_lebs count (after_leb (w ++ x ∷ v))) later

pub lebs-concat : (operands : List (List ℕ)) → AllByRecursion IsNumber operands
    → are_lebs (length operands) (concat operands) ≡ true
lebs-concat [] each = refl
lebs-concat (w ∷ operands) each =
    let v = concat operands in
    let f = leb_is_front w v (groups w) (each.0.0, each.0.1, each.0.2, refl) in
    and_from (is_leb (leb_front (w ++ v))) (are_lebs (length operands) (after_leb (w ++ v)))
    (ap is_leb f.0 ∙ is_leb-of w each.0.0 each.0.1 each.0.2) (ap (are_lebs (length operands)) f.1
    ∙ lebs-concat operands each.1)

lebs_before : (count : ℕ) (w front : List ℕ) (x : ℕ) (back : List ℕ) → are_lebs count w ≡ true → w ≡ front ++ x ∷ back
    → are_lebs count front ≡ false
lebs_before count w front x back e k = elim (cases_Bool (are_lebs count front)) [
  | inl t ↦ absurd (true_false (sym (ap (are_lebs count) k) ∙ e) (lebs_once count front x back t))
  | inr f ↦ f
]

abbrev numbers_alone : ℕ → List ℕ → Option Verdict
numbers_alone count w = if are_lebs count w then Some (Ok op.Skipped) else None

lebs_first : (count : ℕ) (w : List ℕ) → are_lebs count w ≡ true → SpellsFirst (numbers_alone count) w (Ok op.Skipped)
lebs_first count w e = record {
  spells = rw e refl;
  shortest = λ front x back k. rw (lebs_before count w front x back e k) refl;
}

skips_standard : (order : Order) (h : Params) (w : List ℕ) → SkipsStandard h w
    → SpellsFirst (operation_spelt order h) w (Ok op.Skipped)
skips_standard order h w s =
    let count = slice_index h.lengths.items (s.opcode - 1) in
    operand_first order h op.Skipped s.opcode (concat s.operands) w (numbers_alone count)
    (skipped_then order h s.opcode (omega (arith, s.from)) s.below) s.bytes
    (lebs_first count (concat s.operands) (ap (λ (n : ℕ). are_lebs n (concat s.operands)) (sym s.count)
    ∙ lebs-concat s.operands s.each))

-- ---- extended opcodes

extended_case : (order : Order) (h : Params) (o : Operation) (opcode : ℕ) (operand w : List ℕ) → 1 ≤ h.opcode_base
    → (e : IsExtended w (opcode ∷ operand))
    → SpellsFirst (extended_spelt order h.address_size (length (opcode ∷ operand)) opcode) operand (Ok o)
    → SpellsFirst (operation_spelt order h) w (Ok o)
extended_case order h o opcode operand w some e first =
    at_here (extended_at order h some e.size operand (length (opcode ∷ operand)) opcode e.bytes
    (e.spells, omega arith, e.fits)) first

pub address_then : (order : Order) (size n : ℕ) → n ≡ 1 + size → (u : List ℕ)
    → extended_spelt order size n 2 u ≡ sized size (λ w. op.SetAddress (fixed order w)) u
address_then order size n e u = rw (eq-eqb n (1 + size) e) refl

pub rest_then : (order : Order) (size n x m : ℕ) → x ≢ 1 → x ≢ 2 → x ≢ 4 → n ≡ 1 + m → (u : List ℕ)
    → extended_spelt order size n x u ≡ sized m (λ w. op.Skipped) u
rest_then order size n x m a b c e u = rw (ne_eqb x 1 a, ne_eqb x 2 b, ne_eqb x 4 c, e) (grind (arith, nat_tests))

skips_extended : (order : Order) (h : Params) (w : List ℕ) → 1 ≤ h.opcode_base → SkipsExtended w
    → SpellsFirst (operation_spelt order h) w (Ok op.Skipped)
skips_extended order h w some s = extended_case order h op.Skipped s.opcode s.operand w some s.extended
    (at_here (at_same (extended_spelt order h.address_size (suc (length s.operand)) s.opcode)
    (sized (length s.operand) (λ v. op.Skipped)) s.operand
    (rest_then order h.address_size (suc (length s.operand)) s.opcode (length s.operand) s.not_end_sequence
    s.not_set_address s.not_set_discriminator (omega arith)))
    (sized_first (length s.operand) (λ v. op.Skipped) s.operand refl))

-- ---- each operation

pub spells_first : (order : Order) (h : Params) (o : Operation) (w : List ℕ) → 1 ≤ h.opcode_base
    → SpellsOperation order h o w → SpellsFirst (operation_spelt order h) w (Ok o)
spells_first order h (op.Special b) w some s =
    byte_first order h (op.Special b) b w s.1 (rw (le-leb h.opcode_base b s.0) refl)
spells_first order h op.Copy w some s = bare_first order h op.Copy 1 w (rw (lt-leb h.opcode_base 1 s.below) refl) s
spells_first order h (op.AdvancePc n) w some s =
    unsigned_case order h (λ m. op.AdvancePc m) 2 n w (λ lt u. rw (lt-leb h.opcode_base 2 lt) refl) s
spells_first order h (op.AdvanceLine i) w some s =
    operand_first order h (op.AdvanceLine i) 3 s.operand w (signed_operand (λ j. op.AdvanceLine j))
    (λ u. rw (lt-leb h.opcode_base 3 s.below) refl) s.bytes
    (signed_first (λ j. op.AdvanceLine j) s.operand i s.spells s.fits)
spells_first order h (op.SetFile n) w some s =
    unsigned_case order h (λ m. op.SetFile m) 4 n w (λ lt u. rw (lt-leb h.opcode_base 4 lt) refl) s
spells_first order h (op.SetColumn n) w some s =
    unsigned_case order h (λ m. op.SetColumn m) 5 n w (λ lt u. rw (lt-leb h.opcode_base 5 lt) refl) s
spells_first order h op.NegateStatement w some s =
    bare_first order h op.NegateStatement 6 w (rw (lt-leb h.opcode_base 6 s.below) refl) s
spells_first order h op.SetBasicBlock w some s =
    bare_first order h op.SetBasicBlock 7 w (rw (lt-leb h.opcode_base 7 s.below) refl) s
spells_first order h op.ConstAddPc w some s =
    bare_first order h op.ConstAddPc 8 w (rw (lt-leb h.opcode_base 8 s.below) refl) s
spells_first order h (op.FixedAdvancePc n) w some s =
    rw s.number (operand_first order h (op.FixedAdvancePc (fixed order s.operand)) 9 s.operand w
    (sized 2 (λ v. op.FixedAdvancePc (fixed order v))) (λ u. rw (lt-leb h.opcode_base 9 s.below) refl) s.bytes
    (sized_first 2 (λ v. op.FixedAdvancePc (fixed order v)) s.operand s.size))
spells_first order h op.SetPrologueEnd w some s =
    bare_first order h op.SetPrologueEnd 10 w (rw (lt-leb h.opcode_base 10 s.below) refl) s
spells_first order h op.SetEpilogueBegin w some s =
    bare_first order h op.SetEpilogueBegin 11 w (rw (lt-leb h.opcode_base 11 s.below) refl) s
spells_first order h (op.SetIsa n) w some s =
    unsigned_case order h (λ m. op.SetIsa m) 12 n w (λ lt u. rw (lt-leb h.opcode_base 12 lt) refl) s
spells_first order h op.EndSequence w some s =
    extended_case order h op.EndSequence 1 [] w some s
    (first_nil (extended_spelt order h.address_size 1 1) (Ok op.EndSequence) refl)
spells_first order h (op.SetAddress n) w some s =
    rw s.number (extended_case order h (op.SetAddress (fixed order s.operand)) 2 s.operand w some s.extended
    (at_here (at_same (extended_spelt order h.address_size (length (2 ∷ s.operand)) 2)
    (sized h.address_size (λ v. op.SetAddress (fixed order v))) s.operand
    (address_then order h.address_size (length (2 ∷ s.operand)) (omega (arith, s.size))))
    (sized_first h.address_size (λ v. op.SetAddress (fixed order v)) s.operand s.size)))
spells_first order h (op.SetDiscriminator n) w some s =
    extended_case order h (op.SetDiscriminator n) 4 s.operand w some s.extended
    (at_here (at_same (extended_spelt order h.address_size (length (4 ∷ s.operand)) 4)
    (discriminator_spelt (length (4 ∷ s.operand))) s.operand (λ u. refl))
    (discriminator_first (length (4 ∷ s.operand)) n s.operand s.spells s.fits (omega arith)))
spells_first order h op.Skipped w some (inl s) = skips_standard order h w s
spells_first order h op.Skipped w some (inr s) = skips_extended order h w some s
