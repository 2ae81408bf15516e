-- At plain operations the rules find nothing.
use Rattle.std.proofs.Common.{◌≡◌, ◌∙◌, ℕ, ◌+◌, ◌*◌, ◌/◌, ◌%◌, ◌^◌, ◌<◌, ◌≤◌, List, [], ◌++◌, Bool, true, false, Option, None, ap, ap₂, append-nil, arith, length, refl, sym}
use Rattle.std.specs.Prelude.{◌&&◌, nat_le, option_to_list, if◌then◌else◌}
use Rattle.std.proofs.Math.Bool.{and-false}
use Rattle.std.proofs.Math.Nat.{div-one, mod-eq_of_lt, mod-one}
use Rattle.std.proofs.lemmas.Bool.{le-ltb, lt-leb}
use Rattle.dl_field.specs.HeaderData.{HeaderData}
use Rattle.dl_field.specs.declared.params.Params.{Params}
use Rattle.dl_look.specs.declared.place.Place.{Place}
use Rattle.dl_rows.specs.declared.operation.Operation.{Operation}
use Rattle.dl_rows.specs.declared.operation.Operation.TheVariants as op
use Rattle.dl_rows.specs.declared.row.Row.{Row}
use Rattle.dl_rows.specs.Items.{an_operation}
use Rattle.dl_rows.specs.Matrix.{advance}
use Rattle.dl_rows.specs.Plain.{Along, IsPlain, led}
use Rattle.dl_sections.specs.Section.{of_item}
use Rattle.dl_findings.specs.declared.finding.Opcode.{Opcode}
use Rattle.dl_operation_rules.specs.declared.advance.Moved.{Moved}
use Rattle.dl_operation_rules.specs.Judging.{IsGood, is_advance, wraps}
use Rattle.dl_operation_rules.specs.Keeping.{to}
use Rattle.dl_operation_rules.specs.Operations.{UnitSeen, advanced, at_address, longest_number, moved_by, moves, passed_over, place_after, reduced, seen_with, with_bytes}
use Rattle.dl_operation_rules.proofs.OperationLemmas.{few_in_number}

-- ---- where they lead

-- what an operation makes of the registers, with what it doesn't do
record Leads (p : Params) (a : ℕ) (o : Operation) : Type 0 where
  place : place_after p (at_address a) o ≡ at_address (led p a o)
  within : wraps p (moved_by p (at_address a) o) o ≡ false
  known : (bytes : List ℕ) → passed_over o bytes ≡ None

-- an operation advance, where each instruction has one operation
advanced_to : (p : Params) (a by : ℕ) → p.maximum_operations_per_instruction ≡ 1
    → advanced p (at_address a) by ≡ to (a + p.minimum_instruction_length * by) 0
advanced_to p a by one =
    let all : 0 + by ≡ by = omega arith in
    let steps : (0 + by) / p.maximum_operations_per_instruction ≡ by = rw (all, one) (div-one by) in
    let rest : (0 + by) % p.maximum_operations_per_instruction ≡ 0 = rw (all, one) (mod-one by) in
    ap₂ (λ (q m : ℕ). to (a + p.minimum_instruction_length * q) m) steps rest

-- of one that leads to an address that fits
advance_leads : (p : Params) (a by : ℕ) (o : Operation) → moves o ≡ true → ((bytes : List ℕ) → passed_over o bytes ≡ None)
    → moved_by p (at_address a) o ≡ to (led p a o) 0 → led p a o < 2 ^ (8 * p.address_size) → Leads p a o
advance_leads p a by o moves known is fits = record {
  place = ap (λ (b : Bool). if b then reduced p (moved_by p (at_address a) o) else at_address a) moves
      ∙ ap (reduced p) is ∙ ap at_address (mod-eq_of_lt fits);
  within = ap (λ (m : Moved). wraps p m o) is
      ∙ ap (λ (b : Bool). b && is_advance o) (lt-leb (2 ^ (8 * p.address_size)) (led p a o) fits);
  known = known;
}

-- or one that stays
still_leads : (p : Params) (a : ℕ) (o : Operation) → moves o ≡ false → is_advance o ≡ false → ((bytes : List ℕ) → passed_over o bytes ≡ None)
    → a ≡ led p a o → Leads p a o
still_leads p a o still no_advance known is = record {
  place = ap (λ (b : Bool). if b then reduced p (moved_by p (at_address a) o) else at_address a) still ∙ ap at_address is;
  within = ap (λ (b : Bool). nat_le (2 ^ (8 * p.address_size)) (moved_by p (at_address a) o).address && b) no_advance
      ∙ and-false (nat_le (2 ^ (8 * p.address_size)) (moved_by p (at_address a) o).address);
  known = known;
}

plain_leads : (h : Params) (p : Along) (o : Operation) (made : Option Row) → h.maximum_operations_per_instruction ≡ 1
    → IsPlain h p o made → Leads h p.address o
plain_leads h p (op.Special b) made one is =
    advance_leads h p.address (advance h (op.Special b)) (op.Special b) refl (λ bytes. refl) (advanced_to h p.address (advance h (op.Special b)) one) (is.fits refl)
plain_leads h p (op.AdvancePc n) made one is =
    advance_leads h p.address n (op.AdvancePc n) refl (λ bytes. refl) (advanced_to h p.address n one) (is.fits refl)
plain_leads h p op.ConstAddPc made one is =
    advance_leads h p.address (advance h op.ConstAddPc) op.ConstAddPc refl (λ bytes. refl) (advanced_to h p.address (advance h op.ConstAddPc) one) (is.fits refl)
plain_leads h p (op.SetAddress n) made one is = advance_leads h p.address 0 (op.SetAddress n) refl (λ bytes. refl) refl (is.fits refl)
plain_leads h p op.Copy made one is = still_leads h p.address op.Copy refl refl (λ bytes. refl) (omega arith)
plain_leads h p (op.AdvanceLine i) made one is = still_leads h p.address (op.AdvanceLine i) refl refl (λ bytes. refl) (omega arith)
plain_leads h p (op.SetFile n) made one is = still_leads h p.address (op.SetFile n) refl refl (λ bytes. refl) (omega arith)
plain_leads h p (op.SetColumn n) made one is = still_leads h p.address (op.SetColumn n) refl refl (λ bytes. refl) (omega arith)
plain_leads h p op.NegateStatement made one is = still_leads h p.address op.NegateStatement refl refl (λ bytes. refl) (omega arith)
plain_leads h p op.SetBasicBlock made one is = still_leads h p.address op.SetBasicBlock refl refl (λ bytes. refl) (omega arith)
plain_leads h p op.SetPrologueEnd made one is = still_leads h p.address op.SetPrologueEnd refl refl (λ bytes. refl) (omega arith)
plain_leads h p op.SetEpilogueBegin made one is = still_leads h p.address op.SetEpilogueBegin refl refl (λ bytes. refl) (omega arith)
plain_leads h p (op.SetIsa n) made one is = still_leads h p.address (op.SetIsa n) refl refl (λ bytes. refl) (omega arith)
plain_leads h p (op.SetDiscriminator n) made one is = still_leads h p.address (op.SetDiscriminator n) refl refl (λ bytes. refl) (omega arith)
plain_leads h p other made one is = (let both = is.plain in absurd cc)

-- ---- what is seen

-- a plain operation of few bytes after others: nothing is found at it, and it leads there
pub record SeesPlain (h : Params) (p : Along) (s : UnitSeen) (bytes : List ℕ) (o : Operation) : Type 0 where
  pub good : IsGood h (with_bytes s bytes) o
  pub next : (header : HeaderData) → header.params ≡ h
      → seen_with (with_bytes s bytes) (of_item (an_operation header o)) ≡ record s { place = at_address (led h p.address o) }

pub sees_plain : (h : Params) (p : Along) (s : UnitSeen) (bytes : List ℕ) (o : Operation) (made : Option Row)
    → h.maximum_operations_per_instruction ≡ 1 → IsPlain h p o made → length bytes ≤ 11 → s.bytes ≡ [] → s.place ≡ at_address p.address
    → SeesPlain h p s bytes o
sees_plain h p s bytes o made one is few none at =
    let leads = plain_leads h p o made one is in
    record {
      good = record {
        short = rw none (le-ltb 10 (longest_number bytes) (few_in_number bytes few));
        within = rw at leads.within;
        known = leads.known (s.bytes ++ bytes);
      };
      next = λ header same. ap₂ (λ (place : Place) (opcodes : List Opcode). record s { bytes = []; place = place; opcodes = opcodes })
          (ap₂ (λ (q : Params) (x : Place). place_after q x o) same at ∙ leads.place)
          (ap (λ (c : Option Opcode). s.opcodes ++ option_to_list c) (leads.known (s.bytes ++ bytes)) ∙ append-nil s.opcodes)
          ∙ ap (λ (w : List ℕ). record s { bytes = w; place = at_address (led h p.address o) }) (sym none);
    }
