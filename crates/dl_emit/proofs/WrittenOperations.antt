-- The operations that are written are spelled by their bytes. DWARF 5, sections 6.2.5.1 to 6.2.5.3.
use Rattle.std.proofs.Common.{◌≡◌, ℕ, ◌*◌, ◌^◌, ◌<◌, ◌≤◌, Bool, true, false, not, ◌==◌, ℤ, pos, negsuc, List, [], ◌∷◌}
use Rattle.std.proofs.Common.{◌++◌, length, Option, Some, None, refl, sym, arith}
use Rattle.std.specs.Prelude.{unsigned_abs}
use Rattle.std.specs.List.{AllByRecursion}
use Rattle.dl_num.specs.declared.fixed.Order.{Order}
use Rattle.dl_num.specs.Fixed.{fixed_bytes, is_number_size}
use Rattle.dl_num.specs.Leb.{IsSigned64}
use Rattle.dl_num.specs.Shortest.{shortest_uleb, shortest_sleb}
use Rattle.dl_num.proofs.ShortestLemmas.{computed_is_shortest, computed_sleb_is_shortest, length-shortest_uleb}
use Rattle.dl_num.proofs.FixedLaws.{fixed_reads_back, fixed_has_its_size}
use Rattle.dl_field.specs.declared.params.Params.{Params}
use Rattle.dl_field.specs.Usable.{IsUsable}
use Rattle.dl_rows.specs.declared.row.Row.{Row}
use Rattle.dl_rows.specs.declared.operation.Operation.{Operation}
use Rattle.dl_rows.specs.declared.operation.Operation.TheVariants as op
use Rattle.dl_rows.specs.Spelling.{IsExtended, SpellsOperation, SpellsProgram}
use Rattle.dl_rows.specs.Sums.{HasRange}
use Rattle.dl_rows.proofs.RegisterLemmas.{size_cases}
use Rattle.dl_emit.specs.OperationBytes.{extended, operation_bytes}
use Rattle.dl_emit.specs.Program.{when, differs, settings, marks, is_zero, advances, special, special_or_copy, appended}
use Rattle.dl_emit.specs.Program.{placed, row_operations, operations_from, kept, advance, line_advance, start}
use Rattle.dl_emit.specs.WrittenUnit.{operations_bytes}
use Rattle.dl_emit.specs.Laws.{IsRow}
use Rattle.dl_emit.proofs.RowRuns.{Fits}
use Rattle.dl_emit.proofs.StepLemmas.{advance_leads, line_fits, special_is}

-- the operation is one that is written, its operand in range
abbrev pub IsWritten : Params → Operation → Type 0
IsWritten h (op.Special b) = (13 ≤ b) × (b < 256)
IsWritten h (op.AdvancePc n) = n < 2 ^ 64
IsWritten h (op.AdvanceLine i) = IsSigned64 i
IsWritten h (op.SetFile n) = n < 2 ^ 64
IsWritten h (op.SetColumn n) = n < 2 ^ 64
IsWritten h (op.SetIsa n) = n < 2 ^ 64
IsWritten h (op.SetAddress n) = (n < 2 ^ 64) × (n < 2 ^ (8 * h.address_size))
IsWritten h (op.SetDiscriminator n) = n < 2 ^ 64
IsWritten h op.ConstAddPc = ⊥
IsWritten h (op.FixedAdvancePc n) = ⊥
IsWritten h op.Skipped = ⊥
IsWritten h other = Unit {0}

abs_fits : (i : ℤ) → IsSigned64 i → unsigned_abs i < 2 ^ 64
abs_fits (pos n) h = omega arith
abs_fits (negsuc n) h = omega arith

pub has_range : (h : Params) (o : Operation) → IsWritten h o → HasRange o
has_range h (op.Special b) w = w.1
has_range h (op.AdvanceLine i) w = abs_fits i w
has_range h (op.SetAddress n) w = w.0
has_range h o w = tt

powers : (n k : ℕ) → is_number_size k ≡ true → n < 2 ^ (8 * k) → n < 256 ^ k
powers n k e lt =
    size_cases k e (λ is. grind (arith, is, lt)) (λ is. grind (arith, is, lt)) (λ is. grind (arith, is, lt))
    (λ is. grind (arith, is, lt))

extended_spelled : (body : List ℕ) → length body < 2 ^ 64 → IsExtended (extended body) body
extended_spelled body fits =
    record {
      size = shortest_uleb (length body);
      bytes = refl;
      spells = (computed_is_shortest (length body)).spells;
      fits = fits;
    }

module _ (order : Order) (h : Params) where
  spelled : (o : Operation) → IsUsable h → h.opcode_base ≡ 13 → IsWritten h o
      → SpellsOperation order h o (operation_bytes order h.address_size o)
  spelled (op.Special b) usable base w = (let from = w.0 in omega arith, refl)
  spelled op.Copy usable base w = record { below = omega arith; bytes = refl }
  spelled (op.AdvancePc n) usable base w =
      record {
        below = omega arith;
        operand = shortest_uleb n;
        bytes = refl;
        spells = (computed_is_shortest n).spells;
        fits = w;
      }
  spelled (op.AdvanceLine i) usable base w =
      record {
        below = omega arith;
        operand = shortest_sleb i;
        bytes = refl;
        spells =
            (computed_sleb_is_shortest i).spells;
        fits = w;
      }
  spelled (op.SetFile n) usable base w =
      record {
        below = omega arith;
        operand = shortest_uleb n;
        bytes = refl;
        spells = (computed_is_shortest n).spells;
        fits = w;
      }
  spelled (op.SetColumn n) usable base w =
      record {
        below = omega arith;
        operand = shortest_uleb n;
        bytes = refl;
        spells = (computed_is_shortest n).spells;
        fits = w;
      }
  spelled op.NegateStatement usable base w = record { below = omega arith; bytes = refl }
  spelled op.SetBasicBlock usable base w = record { below = omega arith; bytes = refl }
  spelled op.ConstAddPc usable base w = absurd w
  spelled (op.FixedAdvancePc n) usable base w = absurd w
  spelled op.SetPrologueEnd usable base w = record { below = omega arith; bytes = refl }
  spelled op.SetEpilogueBegin usable base w = record { below = omega arith; bytes = refl }
  spelled (op.SetIsa n) usable base w =
      record {
        below = omega arith;
        operand = shortest_uleb n;
        bytes = refl;
        spells = (computed_is_shortest n).spells;
        fits = w;
      }
  spelled op.EndSequence usable base w = extended_spelled (1 ∷ []) (omega arith)
  spelled (op.SetAddress n) usable base w =
      let bytes = fixed_bytes order h.address_size n in
      let size = fixed_has_its_size order h.address_size n in
      let few : h.address_size ≤ 8 =
      size_cases h.address_size usable.address_size (λ is. omega arith) (λ is. omega arith) (λ is. omega arith)
      (λ is. omega arith) in
      record {
        operand = bytes;
        extended = extended_spelled (2 ∷ bytes) (omega arith);
        size = size;
        number = sym (fixed_reads_back order h.address_size n (powers n h.address_size usable.address_size w.1));
      }
  spelled (op.SetDiscriminator n) usable base w =
      let few = length-shortest_uleb n w in
      record {
        operand = shortest_uleb n;
        extended = extended_spelled (4 ∷ shortest_uleb n) (omega arith);
        spells =
            (computed_is_shortest n).spells;
        fits = w;
      }
  spelled op.Skipped usable base w = absurd w

  pub spells_program : (os : List Operation) → IsUsable h → h.opcode_base ≡ 13 → AllByRecursion (IsWritten h) os
      → SpellsProgram order h os (operations_bytes order h os)
  spells_program [] usable base w = refl
  spells_program (o ∷ os) usable base w = (
    operation_bytes order h.address_size o,
    operations_bytes order h os,
    refl,
    spelled o usable base w.0,
    spells_program os usable base w.1,
  )

-- ---- the operations of rows are written ones

pub all_map : {A : Type 0} (P Q : A → Type 0) → ((a : A) → P a → Q a) → (xs : List A) → AllByRecursion P xs
    → AllByRecursion Q xs
all_map P Q f [] all = tt
all_map P Q f (x ∷ xs) all = (f x all.0, all_map P Q f xs all.1)

module _ (h : Params) where
  abbrev All : List Operation → Type 0
  All os = AllByRecursion (IsWritten h) os

  join : (xs ys : List Operation) → All xs → All ys → All (xs ++ ys)
  join [] ys a b = b
  join (x ∷ xs) ys a b = (a.0, join xs ys a.1 b)

  if_wanted : (b : Bool) (o : Operation) → IsWritten h o → All (when b o)
  if_wanted true o w = (w, tt)
  if_wanted false o w = tt

  two : (b c : Bool) (o p : Operation) → IsWritten h o → IsWritten h p → All (when b o ++ when c p)
  two b c o p v w = join (when b o) (when c p) (if_wanted b o v) (if_wanted c p w)

  four : (b c d e : Bool) (o p q r : Operation) → IsWritten h o → IsWritten h p → IsWritten h q → IsWritten h r
      → All (when b o ++ when c p ++ when d q ++ when e r)
  four b c d e o p q r v w x y =
      join (when b o ++ when c p ++ when d q) (when e r)
      (join (when b o ++ when c p) (when d q) (two b c o p v w) (if_wanted d q x)) (if_wanted e r y)

  written_settings : (before r : Row) → IsRow r → All (settings before r)
  written_settings before r row =
      four (not (r.file == before.file)) (not (r.column == before.column)) (differs r.is_stmt before.is_stmt)
      (not (r.isa == before.isa)) (op.SetFile r.file) (op.SetColumn r.column) op.NegateStatement
      (op.SetIsa r.isa) row.file row.column tt row.isa

  written_marks : (r : Row) → IsRow r → All (marks r)
  written_marks r row =
      four (not (r.discriminator == 0)) r.basic_block r.prologue_end r.epilogue_begin
      (op.SetDiscriminator r.discriminator) op.SetBasicBlock op.SetPrologueEnd op.SetEpilogueBegin row.discriminator
      tt tt tt

  written_advances : (line : ℤ) (k : ℕ) → IsSigned64 line → k < 2 ^ 64 → All (advances line k)
  written_advances line k l f = two (not (is_zero line)) (not (k == 0)) (op.AdvanceLine line) (op.AdvancePc k) l f

  written_special : (line : ℤ) (k : ℕ) → IsSigned64 line → k < 2 ^ 64 → (o : Option ℕ)
      → ((opcode : ℕ) → o ≡ Some opcode → (13 ≤ opcode) × (opcode < 256)) → All (special_or_copy line k o)
  written_special line k l f None is = join (advances line k) (op.Copy ∷ []) (written_advances line k l f) (tt, tt)
  written_special line k l f (Some opcode) is = (is opcode refl, tt)

  written_appended : (end : Bool) (line : ℤ) (k : ℕ) → IsSigned64 line → k < 2 ^ 64 → All (appended h end line k)
  written_appended true line k l f = join (advances line k) (op.EndSequence ∷ []) (written_advances line k l f) (tt, tt)
  written_appended false line k l f =
      written_special line k l f (special h line k) (λ opcode e. let is = special_is h line k opcode e in
      (is.from, is.fits))

  written_placed : (r : Row) (line : ℤ) → IsRow r → Fits h r → IsSigned64 line → (o : Option ℕ)
      → ((k : ℕ) → o ≡ Some k → k < 2 ^ 64) → All (placed h r line o)
  written_placed r line row fits l (Some k) few = written_appended r.end_sequence line k l (few k refl)
  written_placed r line row fits l None few = (
    (fits.place.address, fits.address),
    written_appended r.end_sequence line r.op_index l (let small =
        row.op_index in omega arith),
  )

  written_row : (before : Option Row) (r : Row) → IsRow r → Fits h r → All (row_operations h before r)
  written_row None r row fits =
      let place = placed h r (line_advance 1 r.line) None in
      join (settings (start h) r ++ marks r) place
      (join (settings (start h) r) (marks r) (written_settings (start h) r row) (written_marks r row))
      (written_placed r (line_advance 1 r.line) row fits (line_fits 1 r.line) None (λ k e. absurd cc))
  written_row (Some b) r row fits =
      let line = line_advance b.line r.line in
      let place = placed h r line (advance h b r) in
      join (settings b r ++ marks r) place
      (join (settings b r) (marks r) (written_settings b r row) (written_marks r row))
      (written_placed r line row fits (line_fits b.line r.line) (advance h b r)
      (λ k e. (advance_leads h b r k e).fits))

  pub written_rows : (before : Option Row) (rows : List Row) → AllByRecursion IsRow rows → AllByRecursion (Fits h) rows
      → All (operations_from h before rows)
  written_rows before [] row fits = tt
  written_rows before (r ∷ rows) row fits =
      join (row_operations h before r) (operations_from h (kept r) rows) (written_row before r row.0 fits.0)
      (written_rows (kept r) rows row.1 fits.1)
