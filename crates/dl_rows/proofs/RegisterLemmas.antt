-- The registers that are kept are the sums and last settings of the operations so far, and a row is made of them.
use Rattle.std.proofs.Common.{◌≡◌, ℕ, ◌+◌, ◌*◌, ◌/◌, ◌^◌, ◌%◌, ◌-◌, ◌<◌, ◌≤◌, ◌==◌, refl, sym, ap, ◌∙◌, arith, inl}
use Rattle.std.proofs.Common.{inr, ℤ, pos, ◌+ℤ◌, cond, true, false, not, List, [], ◌∷◌, ◌++◌, None, unwrap_or}
use Rattle.std.proofs.Common.{fold, append_assoc, Bool, ◌⊎◌, Some}
use Rattle.std.specs.Prelude.{unsigned_abs}
use Rattle.std.specs.Int.{w64, cast_unsigned}
use Rattle.std.specs.Option.{option_or}
use Rattle.std.specs.List.{after_last, list_any}
use Rattle.std.proofs.lemmas.List.{append-nil}
use Rattle.std.proofs.lemmas.List.Sums.{fold_push}
use Rattle.std.proofs.Math.Nat.{zero-div, zero-mod, mod-lt, div-eq_of_lt, mod-eq_of_lt}
use Rattle.std.proofs.lemmas.Bool.{cases_Bool, or_cases, eqb-true}
use Rattle.std.proofs.lemmas.Nat.{div-add-mod'}
use Rattle.std.proofs.lemmas.Int.{ints}
use Rattle.dl_field.specs.declared.params.Params.{Params}
use Rattle.dl_num.specs.Fixed.{is_number_size}
use Rattle.dl_rows.specs.declared.registers.Registers.{Registers}
use Rattle.dl_rows.specs.declared.operation.Operation.{Operation}
use Rattle.dl_rows.specs.declared.operation.Operation.TheVariants as op
use Rattle.dl_rows.specs.Matrix.{is_end, appends_row, last_set, advance, set_address, is_address, is_fixed_add}
use Rattle.dl_rows.specs.Matrix.{fixed_add, parts, last_part, moves, address, op_index, line_step, line, set_file}
use Rattle.dl_rows.specs.Matrix.{set_column, set_isa, set_discriminator, turned, is_block, is_prologue, is_epilogue}
use Rattle.dl_rows.specs.Matrix.{modulo, row, rows_after, matrix}
use Rattle.dl_rows.specs.Machine.{initial, applied, row_of, cleared}
use Rattle.dl_rows.specs.Sums.{registers_of, registers_after, settled, HasRange, FitsProgram}
use Rattle.dl_rows.proofs.PlaceLemmas.{modulo-add, modulo-same}
use Rattle.dl_rows.proofs.PlaceLemmas.{after_last-push, last_set-push, any-push, address-plain, op_index-plain}
use Rattle.dl_rows.proofs.PlaceLemmas.{address-fixed, op_index-fixed, address-set, op_index-set, steps-cons}
use Rattle.dl_rows.specs.declared.row.Row.{Row}
use Rattle.dl_rows.specs.declared.program.Program.{Program}
use Rattle.dl_rows.specs.declared.operation_state.OperationState.{OperationState}
use Rattle.dl_rows.specs.LineUnit.{ends_open}
use Rattle.dl_rows.specs.Programs.{Finishes}

index_lt : (h : Params) (s : List Operation) → 1 ≤ h.maximum_operations_per_instruction
    → op_index h s < h.maximum_operations_per_instruction
index_lt h s some = mod-lt (last_part (parts h (moves s))) some

stays : (h : Params) (s : List Operation) (o : Operation) → 1 ≤ h.maximum_operations_per_instruction
    → is_address o ≡ false → is_fixed_add o ≡ false → set_address o ≡ None → fixed_add o ≡ 0 → advance h o ≡ 0
    → (address h (s ++ o ∷ []) ≡ address h s) × (op_index h (s ++ o ∷ []) ≡ op_index h s)
stays h s o some a f n z d =
    let lt = index_lt h s some in
    let same : op_index h s + 0 ≡ op_index h s = omega arith in
    let q : op_index h s / h.maximum_operations_per_instruction ≡ 0 = div-eq_of_lt lt in
    let r : op_index h s % h.maximum_operations_per_instruction ≡ op_index h s = mod-eq_of_lt lt in
    let w : h.minimum_instruction_length * 0 ≡ 0 = omega arith in
    (address-plain h s o some a f n z ∙ rw (d, same, q) (omega arith), op_index-plain h s o a f ∙ rw (d, same) r)

wrapped : (a b : ℕ) → (a % 2 ^ 64 + b) % 2 ^ 64 ≡ (a + b) % 2 ^ 64
wrapped a b = omega arith

-- the registers after o, with its place and line
abbrev next : Params → List Operation → List Operation → Operation → ℕ → ℕ → ℕ → Registers
next h s f o a i l = record {
  address = a;
  op_index = i;
  file = unwrap_or (option_or (set_file o) (last_set set_file s)) 1;
  line = l;
  column = unwrap_or (option_or (set_column o) (last_set set_column s)) 0;
  is_stmt = turned (fold turned (not (h.default_is_stmt == 0)) s) o;
  basic_block = cond (is_block o) true (list_any is_block f);
  prologue_end = cond (is_prologue o) true (list_any is_prologue f);
  epilogue_begin = cond (is_epilogue o) true (list_any is_epilogue f);
  isa = unwrap_or (option_or (set_isa o) (last_set set_isa s)) 0;
  discriminator = unwrap_or (option_or (set_discriminator o) (last_set set_discriminator f)) 0;
}

pushed : (h : Params) (s f : List Operation) (o : Operation) (a i l : ℕ) → address h (s ++ o ∷ []) % 2 ^ 64 ≡ a
    → op_index h (s ++ o ∷ []) ≡ i → modulo (line h (s ++ o ∷ [])) (2 ^ 64) ≡ l
    → registers_of h (s ++ o ∷ []) (f ++ o ∷ []) ≡ next h s f o a i l
pushed h s f o a i l ea ei el =
    rw (
      ea,
      ei,
      el,
      last_set-push set_file s o,
      last_set-push set_column s o,
      last_set-push set_isa s o,
      last_set-push set_discriminator f o,
      fold_push turned (not (h.default_is_stmt == 0)) s o,
      any-push is_block f o,
      any-push is_prologue f o,
      any-push is_epilogue f o,
    ) refl

line-push : (h : Params) (s : List Operation) (o : Operation) → line h (s ++ o ∷ []) ≡ line h s +ℤ line_step h o
line-push h s o = fold_push (λ (z : ℤ) (x : Operation). z +ℤ line_step h x) (pos 1) s o

line_stays : (h : Params) (s : List Operation) (o : Operation) → line_step h o ≡ pos 0
    → modulo (line h (s ++ o ∷ [])) (2 ^ 64) ≡ modulo (line h s) (2 ^ 64)
line_stays h s o z = rw (line-push h s o, z, modulo-same) refl

line_moves : (h : Params) (s : List Operation) (o : Operation) → unsigned_abs (line_step h o) < 2 ^ 64
    → modulo (line h (s ++ o ∷ [])) (2 ^ 64) ≡ (modulo (line h s) (2 ^ 64) + cast_unsigned w64 (line_step h o)) % 2 ^ 64
line_moves h s o lt = rw (line-push h s o) (sym (modulo-add (line h s) (line_step h o) lt))

-- an operation that doesn't move
quiet : (h : Params) (s f : List Operation) (o : Operation) → 1 ≤ h.maximum_operations_per_instruction
    → is_address o ≡ false → is_fixed_add o ≡ false → set_address o ≡ None → fixed_add o ≡ 0 → advance h o ≡ 0
    → line_step h o ≡ pos 0
    → registers_of h (s ++ o ∷ []) (f ++ o ∷ [])
    ≡ next h s f o (address h s % 2 ^ 64) (op_index h s) (modulo (line h s) (2 ^ 64))
quiet h s f o some a x n z d l =
    let p = stays h s o some a x n z d in pushed h s f o _ _ _ (ap (λ (y : ℕ). y % 2 ^ 64) p.0) p.1 (line_stays h s o l)

place : (h : Params) (s : List Operation) (o : Operation) → 1 ≤ h.maximum_operations_per_instruction
    → is_address o ≡ false → is_fixed_add o ≡ false → set_address o ≡ None → fixed_add o ≡ 0
    → address h (s ++ o ∷ []) % 2 ^ 64
    ≡ (address h s % 2 ^ 64
    + h.minimum_instruction_length * ((op_index h s + advance h o) / h.maximum_operations_per_instruction)) % 2 ^ 64
place h s o some a x n z =
    rw (address-plain h s o some a x n z)
    (sym (wrapped (address h s)
    (h.minimum_instruction_length * ((op_index h s + advance h o) / h.maximum_operations_per_instruction))))

abs_add : (z : ℤ) (n : ℕ) → unsigned_abs z < 2 ^ 62 → n < 256 → unsigned_abs (z +ℤ pos n) < 2 ^ 64
abs_add z n h lt = grind (arith, ints)

step_lt : (h : Params) (b : ℕ) → unsigned_abs h.line_base < 2 ^ 62 → b < 256
    → unsigned_abs (h.line_base +ℤ pos ((b - h.opcode_base) % h.line_range)) < 2 ^ 64
step_lt h b good lt =
    let n = (b - h.opcode_base) % h.line_range in let small : n < 256 =
    omega (arith, div-add-mod' (b - h.opcode_base) h.line_range) in abs_add h.line_base n good small

pub registers_of-push : (h : Params) (s f : List Operation) (o : Operation) → FitsProgram h → HasRange o
    → registers_of h (s ++ o ∷ []) (f ++ o ∷ []) ≡ applied h (registers_of h s f) o
registers_of-push h s f (op.Special b) good r =
    pushed h s f (op.Special b) _ _ _ (place h s (op.Special b) good.usable.operations refl refl refl refl)
    (op_index-plain h s (op.Special b) refl refl) (line_moves h s (op.Special b) (step_lt h b good.line_base r))
registers_of-push h s f (op.AdvancePc n) good r =
    pushed h s f (op.AdvancePc n) _ _ _ (place h s (op.AdvancePc n) good.usable.operations refl refl refl refl)
    (op_index-plain h s (op.AdvancePc n) refl refl) (line_stays h s (op.AdvancePc n) refl)
registers_of-push h s f (op.AdvanceLine i) good r =
    let p = stays h s (op.AdvanceLine i) good.usable.operations refl refl refl refl refl in
    pushed h s f (op.AdvanceLine i) _ _ _ (ap (λ (y : ℕ). y % 2 ^ 64) p.0) p.1 (line_moves h s (op.AdvanceLine i) r)
registers_of-push h s f op.ConstAddPc good r =
    pushed h s f op.ConstAddPc _ _ _ (place h s op.ConstAddPc good.usable.operations refl refl refl refl)
    (op_index-plain h s op.ConstAddPc refl refl) (line_stays h s op.ConstAddPc refl)
registers_of-push h s f (op.FixedAdvancePc n) good r =
    pushed h s f (op.FixedAdvancePc n) _ _ _ (rw (address-fixed h s n) (sym (wrapped (address h s) n)))
    (op_index-fixed h s n) (line_stays h s (op.FixedAdvancePc n) refl)
registers_of-push h s f (op.SetAddress n) good r =
    pushed h s f (op.SetAddress n) _ _ _ (rw (address-set h s n) (mod-eq_of_lt r)) (op_index-set h s n)
    (line_stays h s (op.SetAddress n) refl)
registers_of-push h s f other good r = quiet h s f other good.usable.operations refl refl refl refl refl refl

pub starts : (h : Params) → initial (not (h.default_is_stmt == 0)) ≡ registers_of h [] []
starts h =
    let z : 0 / h.maximum_operations_per_instruction ≡ 0 = zero-div h.maximum_operations_per_instruction in
    let w : h.minimum_instruction_length * 0 ≡ 0 = omega arith in
    rw (steps-cons h.maximum_operations_per_instruction 0 [], z, w, zero-mod h.maximum_operations_per_instruction) refl

pub settles : (h : Params) (s f : List Operation) (o : Operation)
    → settled h o (registers_of h (s ++ o ∷ []) (f ++ o ∷ []))
    ≡ registers_of h (cond (is_end o) [] (s ++ o ∷ [])) (cond (appends_row o) [] (f ++ o ∷ []))
settles h s f op.EndSequence = starts h
settles h s f other = refl

-- ---- rows

pub size_cases : {P : Type 0} (n : ℕ) → is_number_size n ≡ true → (n ≡ 1 → P) → (n ≡ 2 → P) → (n ≡ 4 → P) → (n ≡ 8 → P)
    → P
size_cases n e a b c d = elim (or_cases _ _ e) [
  | inl front ↦ elim (or_cases _ _ front) [
    | inl two ↦ elim (or_cases _ _ two) [ inl x ↦ a (eqb-true n 1 x) | inr x ↦ b (eqb-true n 2 x) ]
    | inr x ↦ c (eqb-true n 4 x)
  ]
  | inr x ↦ d (eqb-true n 8 x)
]

cut_twice : (n x : ℕ) → is_number_size n ≡ true → x % 2 ^ 64 % 2 ^ (8 * n) ≡ x % 2 ^ (8 * n)
cut_twice n x e =
    size_cases n e (λ is. rw is (omega arith)) (λ is. rw is (omega arith)) (λ is. rw is (omega arith))
    (λ is. rw is (omega arith))

-- the row that the machine hands out is the row of the operations
pub row_is : (h : Params) (front : List Operation) (o : Operation) → FitsProgram h → HasRange o
    → row_of h (applied h (registers_after h front) o) (is_end o) ≡ row h front o
row_is h front o good range =
    let s = after_last is_end front in
    let f = after_last appends_row front in
    let one : applied h (registers_of h s f) o ≡ registers_of h (s ++ o ∷ []) (f ++ o ∷ []) =
    sym (registers_of-push h s f o good range) in
    rw (one, cut_twice h.address_size (address h (s ++ o ∷ [])) good.usable.address_size) refl

-- the registers one operation on
pub registers_after-push : (h : Params) (os : List Operation) (o : Operation) → FitsProgram h → HasRange o
    → registers_after h (os ++ o ∷ []) ≡ settled h o (applied h (registers_after h os) o)
registers_after-push h os o good range =
    let s = after_last is_end os in
    let f = after_last appends_row os in
    rw (after_last-push is_end os o, after_last-push appends_row os o)
    (sym (settles h s f o) ∙ ap (settled h o) (registers_of-push h s f o good range))

rows_after-push : (h : Params) (front os : List Operation) (o : Operation)
    → rows_after h front (os ++ o ∷ []) ≡ rows_after h front os ++ cond (appends_row o) (row h (front ++ os) o ∷ []) []
rows_after-push h front [] o = rw append-nil refl
rows_after-push h front (x ∷ os) o =
    let e = append_assoc front (x ∷ []) os in
    rw (rows_after-push h (front ++ x ∷ []) os o, e)
    (elim (cases_Bool (appends_row x)) [ inl t ↦ rw t | inr f ↦ rw f ])

-- one operation more, and its row where it appends one
pub matrix-push : (h : Params) (os : List Operation) (o : Operation)
    → matrix h (os ++ o ∷ []) ≡ matrix h os ++ cond (appends_row o) (row h os o ∷ []) []
matrix-push h os o = rows_after-push h [] os o

-- ---- an operation more of a program: its row, and what is kept after it

ends_open-push : (rows : List Row) (r : Row) → ends_open (rows ++ r ∷ []) ≡ not r.end_sequence
ends_open-push [] r = refl
ends_open-push (a ∷ []) r = refl
ends_open-push (a ∷ b ∷ rows) r = ends_open-push (b ∷ rows) r

-- an operation that appends no row leaves the registers as they are
pub settled-plain : (h : Params) (o : Operation) (r : Registers) → appends_row o ≡ false → settled h o r ≡ r
settled-plain h o r e = grind arith

pub appends_none : (o : Operation) → ((b : ℕ) → o ≡ op.Special b → ⊥) → (o ≡ op.Copy → ⊥) → (o ≡ op.EndSequence → ⊥)
    → appends_row o ≡ false
appends_none o s c e = grind arith

pub finishes_with_row : {h : Params} {before : List Operation} {o : Operation} {r : Row} {new : Program} (end : Bool)
    → FitsProgram h → HasRange o
    → appends_row o ≡ true → end ≡ is_end o → r ≡ row_of h (applied h (registers_after h before) o) end
    → new.registers ≡ settled h o (applied h (registers_after h before) o) → new.in_sequence ≡ not end
    → Finishes h before o (Some r) new
finishes_with_row {h} {before} {o} {r} end fits range appends ends is registers was =
    let made : r ≡ row h before o = is ∙ rw ends (row_is h before o fits range) in
    let rows : matrix h (before ++ o ∷ []) ≡ matrix h before ++ r ∷ [] =
    rw made (rw appends at (matrix-push h before o)) in
    record {
      registers = registers ∙ sym (registers_after-push h before o fits range);
      rows = rows;
      in_sequence = was ∙ rw (rows, ends_open-push (matrix h before) r, made) (ap not ends);
    }

pub finishes_without : {h : Params} {before : List Operation} {o : Operation} {new : Program} → FitsProgram h
    → HasRange o → appends_row o ≡ false
    → new.registers ≡ applied h (registers_after h before) o → new.in_sequence ≡ ends_open (matrix h before)
    → Finishes h before o None new
finishes_without {h} {before} {o} fits range appends registers was =
    let rows : matrix h (before ++ o ∷ []) ≡ matrix h before ++ [] = rw appends at (matrix-push h before o) in
    record {
      registers =
          registers ∙ sym (settled-plain h o (applied h (registers_after h before) o) appends)
          ∙ sym (registers_after-push h before o fits range);
      rows = rows;
      in_sequence = rw (rows, append-nil) was;
    }

-- what a special opcode and copy leave
pub settled_special : (o : Operation) → ((b : ℕ) × (o ≡ op.Special b)) ⊎ (o ≡ op.Copy)
    → (appends_row o ≡ true) × (false ≡ is_end o) × ((h : Params) (r : Registers) → settled h o r ≡ cleared r)
settled_special o (inl (b, is)) = rw is (refl, refl, λ h r. refl)
settled_special o (inr is) = rw is (refl, refl, λ h r. refl)

-- a program in an operation of which as much has come as in that of another
pub same_begun : (p q : Program) → p.phase ≡ q.phase → p.begun ≡ q.begun
    → p ≡ record q { registers = p.registers; in_sequence = p.in_sequence }
same_begun p q phase begun =
    ap (λ (z : OperationState). record p { phase = z }) phase
    ∙ ap (λ (z : ℕ). record p { phase = q.phase; begun = z }) begun
