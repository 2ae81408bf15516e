-- What is true of the params of a header, by the faults that there aren't.
use Rattle.std.proofs.Common.{◌≡◌, ℕ, ◌+◌, ◌<◌, ◌≤◌, Bool, true, false, ◌==◌, ◌&&◌, nat_lt, List, [], ◌∷◌, ◌++◌, length}
use Rattle.std.proofs.Common.{subst, if◌then◌else◌, Option, Some, None, refl, arith, inl, inr}
use Rattle.std.specs.Prelude.{is_none}
use Rattle.std.specs.Option.{option_map, option_or}
use Rattle.std.proofs.lemmas.Bool.{cases_lt, ltb-true, lt-ltb, le-ltb, eqb-true, eq-eqb}
use Rattle.dl_num.specs.Fixed.{is_number_size}
use Rattle.dl_num.proofs.LebFrontLemmas.{true_false, and_left, and_right}
use Rattle.dl_table.specs.declared.form.Format.{Format}
use Rattle.dl_table.specs.declared.form.Format.TheVariants.{Dwarf32, Dwarf64}
use Rattle.dl_field.specs.declared.params.Params.{Params}
use Rattle.dl_table.specs.declared.fault.FaultKind.{FaultKind}
use Rattle.dl_head.specs.declared.fault.ParamFault.{ParamFault}
use Rattle.dl_head.specs.declared.fault.ParamFault.TheVariants as param
use Rattle.dl_table.specs.TableData.{TableData}
use Rattle.dl_field.specs.HeaderData.{HeaderData}
use Rattle.dl_field.specs.Layout.{objection, opcode_length}
use Rattle.dl_table.specs.Built.{same_format}
use Rattle.dl_field.specs.Usable.{IsUsable}
use Rattle.dl_head.specs.Built.{are_operations, is_version, param_fault, unless, with_standard_opcodes, wrong_length}

-- ---- what no refusal says of the params

neither : {A : Type 0} (a b : Option A) → option_or a b ≡ None → (a ≡ None) × (b ≡ None)
neither None b e = (refl, e)
neither (Some x) b e = absurd cc

holds : (b : Bool) (f : ParamFault) → unless b f ≡ None → b ≡ true
holds true f e = refl
holds false f e = absurd cc

no_length : (o : Option ℕ) → option_map param.StandardLength o ≡ None → o ≡ None
no_length None e = refl
no_length (Some n) e = absurd cc

formats_same : (f g : Format) → same_format f g ≡ true → f ≡ g
formats_same Dwarf32 Dwarf32 e = refl
formats_same Dwarf64 Dwarf64 e = refl
formats_same f g e = absurd (true_false e refl)

pub record Good (p : Params) (d f : TableData) : Type 0 where
  pub version : is_version p.version ≡ true
  pub address_size : is_number_size p.address_size ≡ true
  pub operations : are_operations p.version p.maximum_operations_per_instruction ≡ true
  pub lines : p.line_range ≡ 0 → ⊥
  pub opcodes : length p.lengths.items + 1 ≡ p.opcode_base
  pub lengths : wrong_length 1 p.lengths.items ≡ None
  pub directories : d.format ≡ p.format
  pub files : f.format ≡ p.format

pub all_good : (p : Params) (d f : TableData) → param_fault p d f ≡ None → Good p d f
all_good p d f e =
    let v = neither (unless (is_version p.version) param.Version) _ e in
    let a = neither (unless (is_number_size p.address_size) param.AddressSize) _ v.1 in
    let b = neither (unless (are_operations p.version p.maximum_operations_per_instruction) param.MaxOps) _ a.1 in
    let c = neither (unless (nat_lt 0 p.line_range) param.LineRange) _ b.1 in
    let g = neither (unless (length p.lengths.items + 1 == p.opcode_base) param.OpcodeBase) _ c.1 in
    let l = neither (option_map param.StandardLength (wrong_length 1 p.lengths.items)) _ g.1 in
    let formats = holds (same_format d.format p.format && same_format f.format p.format) param.TableFormat l.1 in
    let range = ltb-true 0 p.line_range (holds _ param.LineRange c.0) in
    record {
      version = holds _ param.Version v.0;
      address_size = holds _ param.AddressSize a.0;
      operations = holds _ param.MaxOps b.0;
      lines = λ z. omega arith;
      opcodes = eqb-true _ _ (holds _ param.OpcodeBase g.0);
      lengths = no_length _ l.0;
      directories = formats_same d.format p.format (and_left _ (same_format f.format p.format) formats);
      files = formats_same f.format p.format (and_right (same_format d.format p.format) _ formats);
    }

format_itself : (f : Format) → same_format f f ≡ true
format_itself Dwarf32 = refl
format_itself Dwarf64 = refl

pub no_fault : (p : Params) (d f : TableData) → is_version p.version ≡ true → is_number_size p.address_size ≡ true
    → are_operations p.version p.maximum_operations_per_instruction ≡ true → nat_lt 0 p.line_range ≡ true
    → length p.lengths.items + 1 ≡ p.opcode_base → wrong_length 1 p.lengths.items ≡ None
    → d.format ≡ p.format → f.format ≡ p.format → param_fault p d f ≡ None
no_fault p d f version size operations lines count lengths same_d same_f =
    rw (
      version,
      size,
      operations,
      lines,
      eq-eqb (length p.lengths.items + 1) p.opcode_base count,
      lengths,
      same_d,
      same_f,
      format_itself p.format,
    ) refl

-- ---- what follows of it

positive : (n : ℕ) → (n ≡ 0 → ⊥) → 0 < n
positive n some = elim (cases_lt 0 n) [ inl lt ↦ lt | inr le ↦ absurd (some (omega arith)) ]

-- an instruction has an operation at least
pub one_operation : (v n : ℕ) → are_operations v n ≡ true → 1 ≤ n
one_operation v n e = elim (cases_lt v 4) [
  | inl old ↦
      let one : (n == 1) ≡ true = rw (lt-ltb v 4 old) at e in
      let is = eqb-true n 1 one in
      omega (arith, is)
  | inr new ↦
      let some : nat_lt 0 n ≡ true = rw (le-ltb v 4 new) at e in
      let lt = ltb-true 0 n some in
      omega (arith, lt)
]

pub usable : (p : Params) (d f : TableData) → param_fault p d f ≡ None → IsUsable p
usable p d f none =
    let good = all_good p d f none in
    record {
      address_size = good.address_size;
      operations = one_operation p.version p.maximum_operations_per_instruction good.operations;
      lines =
          omega (arith, positive p.line_range good.lines);
      opcodes = good.opcodes;
    }

pub standard_fault : (h : HeaderData) → param_fault h.params h.directories h.files ≡ None
    → param_fault (with_standard_opcodes h).params h.directories h.files ≡ None
standard_fault h none =
    let p = h.params in
    let good = all_good p h.directories h.files none in
    no_fault (with_standard_opcodes h).params h.directories h.files good.version good.address_size good.operations
    (lt-ltb 0 p.line_range (positive p.line_range good.lines)) refl refl good.directories good.files

-- ---- lengths of opcodes, one more

one_right : (opcode n : ℕ) (o : Option ℕ) → (if is_none (objection (opcode_length opcode) n) then o else Some opcode)
    ≡ None → (objection (opcode_length opcode) n ≡ None) × (o ≡ None)
one_right opcode n o e = right (objection (opcode_length opcode) n) e where
  right : (f : Option FaultKind) → (if is_none f then o else Some opcode) ≡ None → (f ≡ None) × (o ≡ None)
  right None e = (refl, e)
  right (Some f) e = absurd cc

pub lengths_push : (opcode : ℕ) (lengths : List ℕ) (n : ℕ) → wrong_length opcode lengths ≡ None
    → objection (opcode_length (opcode + length lengths)) n ≡ None → wrong_length opcode (lengths ++ n ∷ []) ≡ None
lengths_push opcode [] n none right =
    let here : objection (opcode_length opcode) n ≡ None =
    subst (λ (k : ℕ). objection (opcode_length k) n ≡ None) (omega arith) right in
    rw here refl
lengths_push opcode (m ∷ lengths) n none right =
    let t = one_right opcode m (wrong_length (opcode + 1) lengths) none in
    rw t.0 (lengths_push (opcode + 1) lengths n t.1
    (subst (λ (k : ℕ). objection (opcode_length k) n ≡ None) (omega arith) right))
