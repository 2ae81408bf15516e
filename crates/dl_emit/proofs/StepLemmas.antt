-- The step from a row to the next one: the operation advance, the line advance and the special opcode lead there.
-- DWARF 5, section 6.2.5.1.
use Rattle.std.proofs.Common.{◌≡◌, ℕ, ◌+◌, ◌-◌, ◌*◌, ◌/◌, ◌%◌, ◌^◌, ◌<◌, ◌≤◌, Bool, true, false, ◌&&◌, ◌==◌, nat_lt}
use Rattle.std.proofs.Common.{nat_le, if◌then◌else◌, ℤ, pos, negsuc, ◌+ℤ◌, ◌-ℤ◌, Option, Some, None, refl, ap, ◌∙◌}
use Rattle.std.proofs.Common.{arith, inl, inr}
use Rattle.std.specs.Int.{w64, cast_signed, cast_unsigned}
use Rattle.std.specs.Option.{option_and_then}
use Rattle.std.proofs.Math.Nat.{mod-eq_of_lt}
use Rattle.std.proofs.lemmas.Nat.{div-mul-add, mod-mul-add, div-add-mod'}
use Rattle.std.proofs.lemmas.Int.{ints, of_z-to_z}
use Rattle.std.proofs.lemmas.Bool.{leb-true, ltb-true, eqb-true, cases_lt, lt-ltb, le-ltb}
use Rattle.dl_num.specs.Leb.{IsSigned64}
use Rattle.dl_num.proofs.LebFrontLemmas.{and_left, and_right}
use Rattle.dl_field.specs.declared.params.Params.{Params}
use Rattle.dl_rows.specs.declared.row.Row.{Row}
use Rattle.dl_emit.specs.Program.{instructions, advance_by, advance, line_advance, special_above, special}

-- what is there only where a test holds
pub only_if : {A : Type 0} (b : Bool) (x y : A) → (if b then Some x else None) ≡ Some y → (b ≡ true) × (x ≡ y)
only_if true x y e = (refl, cc)
only_if false x y e = absurd cc

pub instructions_are : (minimum size q : ℕ) → instructions minimum size ≡ Some q → minimum * q ≡ size
instructions_are minimum size q e = least (minimum == 0) (λ t. eqb-true minimum 0 t) e where
  least : (b : Bool) → (b ≡ true → minimum ≡ 0)
      → (if b then (if size == 0 then Some 0 else None)
      else (if size % minimum == 0 then Some (size / minimum) else None)) ≡ Some q → minimum * q ≡ size
  least true none e =
      let t = only_if (size == 0) 0 q e in let z = eqb-true size 0 t.0 in rw (none refl, z) (omega arith)
  least false none e =
      let t = only_if (size % minimum == 0) (size / minimum) q e in
      let z = eqb-true (size % minimum) 0 t.0 in
      let d = div-add-mod' size minimum in
      rw (← t.1) (omega arith)

pub advance_by_is : (h : Params) (from to q k : ℕ) → advance_by h from to q ≡ Some k
    → (from + k ≡ q * h.maximum_operations_per_instruction + to) × (k < 2 ^ 64)
advance_by_is h from to q k e =
    let end = q * h.maximum_operations_per_instruction + to in
    let t = only_if (nat_le from end && nat_lt (end - from) (2 ^ 64)) (end - from) k e in
    let le = leb-true from end (and_left (nat_le from end) (nat_lt (end - from) (2 ^ 64)) t.0) in
    let lt = ltb-true (end - from) (2 ^ 64) (and_right (nat_le from end) (nat_lt (end - from) (2 ^ 64)) t.0) in
    let is = t.1 in
    (omega arith, omega arith)

-- k operations lead from a row to the next, by whole instructions
pub record Leads (h : Params) (before r : Row) (k : ℕ) : Type 0 where
  pub count : ℕ
  pub size : before.address + h.minimum_instruction_length * count ≡ r.address
  pub operations : before.op_index + k ≡ count * h.maximum_operations_per_instruction + r.op_index
  pub fits : k < 2 ^ 64

leads_by : (h : Params) (before r : Row) (k : ℕ) → before.address ≤ r.address → (o : Option ℕ)
    → ((q : ℕ) → o ≡ Some q → h.minimum_instruction_length * q ≡ r.address - before.address)
    → option_and_then (advance_by h before.op_index r.op_index) o ≡ Some k → Leads h before r k
leads_by h before r k le None size e = absurd cc
leads_by h before r k le (Some q) size e =
    let by = advance_by_is h before.op_index r.op_index q k e in
    let s = size q refl in
    record { count = q; size = omega arith; operations = by.0; fits = by.1 }

leads_if : (h : Params) (before r : Row) (k : ℕ) (b : Bool) → (b ≡ true → before.address ≤ r.address)
    → (if b then option_and_then (advance_by h before.op_index r.op_index)
    (instructions h.minimum_instruction_length (r.address - before.address)) else None) ≡ Some k
    → Leads h before r k
leads_if h before r k true le e =
    leads_by h before r k (le refl) _ (λ q i. instructions_are h.minimum_instruction_length (r.address - before.address)
    q i) e
leads_if h before r k false le e = absurd cc

pub advance_leads : (h : Params) (before r : Row) (k : ℕ) → advance h before r ≡ Some k → Leads h before r k
advance_leads h before r k e =
    leads_if h before r k (nat_le before.address r.address) (λ t. leb-true before.address r.address t) e

-- ---- the place

pub address_is : (h : Params) (before r : Row) (k : ℕ) → Leads h before r k
    → r.op_index < h.maximum_operations_per_instruction → r.address < 2 ^ 64
    → (before.address + h.minimum_instruction_length * ((before.op_index + k) / h.maximum_operations_per_instruction)) %
    2 ^ 64 ≡ r.address
address_is h before r k leads index fits =
    let maximum = h.maximum_operations_per_instruction in
    let whole : (before.op_index + k) / maximum ≡ leads.count =
    ap (λ (n : ℕ). n / maximum) leads.operations ∙ div-mul-add leads.count maximum r.op_index index in
    rw (whole, leads.size) (mod-eq_of_lt fits)

pub op_index_is : (h : Params) (before r : Row) (k : ℕ) → Leads h before r k
    → r.op_index < h.maximum_operations_per_instruction
    → (before.op_index + k) % h.maximum_operations_per_instruction ≡ r.op_index
op_index_is h before r k leads index =
    let maximum = h.maximum_operations_per_instruction in
    ap (λ (n : ℕ). n % maximum) leads.operations ∙ mod-mul-add leads.count maximum r.op_index index

-- ---- the line

pub line_is : (from to : ℕ) → from < 2 ^ 64 → to < 2 ^ 64
    → (from + cast_unsigned w64 (line_advance from to)) % 2 ^ 64 ≡ to
line_is from to f t =
    let same : cast_unsigned w64 (line_advance from to) ≡ (to + (2 ^ 64 - from)) % 2 ^ 64 =
    of_z-to_z w64 ((to + (2 ^ 64 - from)) % 2 ^ 64) (omega arith) in
    rw same (omega arith)

signed_fits : (n : ℕ) → n < 2 ^ 64 → IsSigned64 (cast_signed w64 n)
signed_fits n small = elim (cases_lt n (2 ^ 63)) [
  | inl lt ↦ rw (lt-ltb n (2 ^ 63) lt) lt
  | inr le ↦ rw (le-ltb n (2 ^ 63) le) (omega arith)
]

pub line_fits : (from to : ℕ) → IsSigned64 (line_advance from to)
line_fits from to = signed_fits ((to + (2 ^ 64 - from)) % 2 ^ 64) (omega arith)

-- ---- the special opcode

-- its line advance and its operation advance
pub record IsSpecial (h : Params) (line : ℤ) (k opcode : ℕ) : Type 0 where
  pub from : 13 ≤ opcode
  pub fits : opcode < 256
  pub advances : (opcode - 13) / h.line_range ≡ k
  pub lines : h.line_base +ℤ pos ((opcode - 13) % h.line_range) ≡ line

special_at : (h : Params) (line above : ℤ) (k opcode : ℕ) → h.line_base +ℤ above ≡ line
    → special_above h above k ≡ Some opcode → IsSpecial h line k opcode
special_at h line (negsuc n) k opcode is e = absurd cc
special_at h line (pos n) k opcode is e =
    let number = n + h.line_range * k + 13 in
    let t = only_if (nat_lt n h.line_range && nat_le number 255) number opcode e in
    let lt = ltb-true n h.line_range (and_left (nat_lt n h.line_range) (nat_le number 255) t.0) in
    let le = leb-true number 255 (and_right (nat_lt n h.line_range) (nat_le number 255) t.0) in
    let same = t.1 in
    let split : opcode - 13 ≡ k * h.line_range + n = omega arith in
    record {
      from = omega arith;
      fits = omega arith;
      advances = ap (λ (m : ℕ). m / h.line_range) split ∙ div-mul-add k h.line_range n lt;
      lines = ap (λ (m : ℕ). h.line_base +ℤ pos (m % h.line_range)) split
          ∙ ap (λ (m : ℕ). h.line_base +ℤ pos m) (mod-mul-add k h.line_range n lt) ∙ is;
    }

pub special_is : (h : Params) (line : ℤ) (k opcode : ℕ) → special h line k ≡ Some opcode → IsSpecial h line k opcode
special_is h line k opcode e = special_at h line (line -ℤ h.line_base) k opcode (omega (arith, ints)) e
