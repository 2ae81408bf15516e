-- Operations of a plain run: where they lead, and what is made of them.
use Rattle.std.proofs.Common.{List, ◌≡◌, ◌∙◌, ◌+◌, ◌*◌, ◌/◌, ◌%◌, ◌^◌, ◌<◌, ◌≤◌, ◌-◌, ◌==◌, ◌||◌, ℕ, Bool, true, false, Option, None, ap, arith, refl, sym}
use Rattle.std.proofs.Math.Nat.{div-le_self, div-one, mod-one, mod-eq_of_lt}
use Rattle.std.proofs.lemmas.Nat.{mul-le}
use Rattle.std.specs.Prelude.{if◌then◌else◌}
use Rattle.dl_field.specs.declared.params.Params.{Params}
use Rattle.dl_rows.specs.declared.operation.Operation.{Operation}
use Rattle.dl_rows.specs.declared.operation.Operation.TheVariants as op
use Rattle.dl_rows.specs.declared.plain_run.PlainRows.{PlainRows}
use Rattle.dl_rows.specs.declared.program.Program.{Program}
use Rattle.dl_rows.specs.declared.program.plain.PlainWalk.{PlainWalk}
use Rattle.dl_rows.specs.declared.registers.Registers.{Registers}
use Rattle.dl_rows.specs.declared.row.Row.{Row}
use Rattle.dl_rows.specs.Machine.{applied, made_by, row_of}
use Rattle.dl_rows.specs.Matrix.{advance, appends_row}
use Rattle.dl_rows.specs.Plain.{Along, IsPlain, IsPlainRow, along_with, is_plain, is_quiet, led, with_file}
use Rattle.dl_rows.specs.PlainWalks.{IsSingle, along_of, is_move, is_row, is_still}
use Rattle.dl_rows.specs.Sums.{HasRange, settled}

-- ---- addresses

-- no wrap where it doesn't fall
no_wrap : (a m t : ℕ) → m < 2 ^ 63 → (a + m) % 2 ^ 64 ≡ t → a ≤ t → t < 2 ^ 64 → t ≡ a + m
no_wrap a m t few is rises fits = omega (arith, few, is, rises, fits)

few_bytes : (least by : ℕ) → least ≤ 16 → by < 2 ^ 32 → least * by < 2 ^ 63
few_bytes least by small few = omega (arith, mul-le least by 16 (2 ^ 32) small (omega (arith, few)))

-- one operation to an instruction
single_steps : (index by most : ℕ) → most ≡ 1 → index ≡ 0 → (index + by) / most ≡ by
single_steps index by most one zero =
    let steps : (index + by) / most ≡ index + by = rw one (div-one (index + by)) in
    let all : index + by ≡ by = omega (arith, zero) in
    steps ∙ all

single_index : (index by most : ℕ) → most ≡ 1 → (index + by) % most ≡ 0
single_index index by most one = rw one (mod-one (index + by))

pub special_few : (h : Params) (b : ℕ) → b < 256 → (b - h.opcode_base) / h.line_range < 2 ^ 32
special_few h b lt = omega (arith, div-le_self (b - h.opcode_base) h.line_range, lt)

-- an operation advance
pub advanced_to : (h : Params) (r : Registers) (by t : ℕ) → h.maximum_operations_per_instruction ≡ 1 → r.op_index ≡ 0
    → h.minimum_instruction_length ≤ 16 → by < 2 ^ 32
    → (r.address + h.minimum_instruction_length * ((r.op_index + by) / h.maximum_operations_per_instruction)) % 2 ^ 64 ≡ t
    → r.address ≤ t → t < 2 ^ 64 → t ≡ r.address + h.minimum_instruction_length * by
advanced_to h r by t one zero small few is rises fits =
    no_wrap r.address (h.minimum_instruction_length * by) t (few_bytes h.minimum_instruction_length by small few)
    (rw (single_steps r.op_index by h.maximum_operations_per_instruction one zero) at is) rises fits

-- ---- what is made

-- a row more that fits
row_fits : (h : Params) (r : Registers) (at : ℕ) → r.address ≡ at → at < 2 ^ (8 * h.address_size) → r.op_index ≡ 0 → r.line < 2 ^ 32
    → IsPlainRow at r.file (row_of h r false)
row_fits h r at is fits zero line = record {
  address = ap (λ (a : ℕ). a % 2 ^ (8 * h.address_size)) is ∙ mod-eq_of_lt fits;
  op_index = zero;
  file = refl;
  line = line;
  within = refl;
}

-- with a row more
abbrev rows_at : Along → (to at : ℕ) → Bool → Along
rows_at p to at stmt = record p {
  address = to;
  is_named = true;
  count = p.count + 1;
  first = if p.count == 0 then at else p.first;
  last = at;
  has_statement = p.has_statement || stmt;
}

-- the rows of a run with the row of these registers
abbrev pub rows_with : PlainRows → Registers → PlainRows
rows_with rows r = record rows {
  count = rows.count + 1;
  first = if rows.count == 0 then r.address else rows.first;
  last = r.address;
  has_statement = rows.has_statement || r.is_stmt;
}

-- an operation that appends a row, where the address doesn't fall and fits
pub record TakesRow (h : Params) (w : PlainWalk) (o : Operation) (new : Program) (made : Option Row) : Type 0 where
  pub made_is : made ≡ made_by h w.program.registers o
  pub registers : new.registers ≡ settled h o (applied h w.program.registers o)
  pub rises : w.program.registers.address ≤ new.registers.address
  pub fits : new.registers.address < 2 ^ (8 * h.address_size)
  pub size : 2 ^ (8 * h.address_size) ≤ 2 ^ 64
  pub line : new.registers.line < 2 ^ 32
  pub least : h.minimum_instruction_length ≤ 16

module _ (h : Params) (w : PlainWalk) (new : Program) (made : Option Row) (files : List ℕ) where
  abbrev r : Registers
  r = w.program.registers

  pub row_taken : (o : Operation) → is_row o ≡ true → TakesRow h w o new made → HasRange o → IsSingle h w.program
      → IsPlain h (along_of w files) o made
      × (along_of (record { program = new; rows = rows_with w.rows new.registers; is_named = true }) files ≡ along_with h (along_of w files) o made)
  row_taken (op.Special b) is t range single =
      let o = op.Special b in
      let s = applied h r o in
      let by = (b - h.opcode_base) / h.line_range in
      let rises : r.address ≤ s.address = rw t.registers at t.rises in
      let fits : s.address < 2 ^ (8 * h.address_size) = rw t.registers at t.fits in
      let line : s.line < 2 ^ 32 = rw t.registers at t.line in
      let to : s.address ≡ led h r.address o =
      advanced_to h r by s.address single.one single.first t.least (special_few h b range) refl rises (omega (arith, fits, t.size)) in
      let within : led h r.address o < 2 ^ (8 * h.address_size) = rw to at fits in
      let row = row_fits h s (led h r.address o) to within (single_index r.op_index by h.maximum_operations_per_instruction single.one) line in (
        rw t.made_is (record { plain = refl; fits = λ quiet. within; row = (refl, row) }),
        rw (t.registers, t.made_is) (ap (λ (a : ℕ). rows_at (along_of w files) a s.address s.is_stmt) to
            ∙ ap (λ (a : ℕ). rows_at (along_of w files) (led h r.address o) a s.is_stmt) (to ∙ sym row.address)),
      )
  row_taken op.Copy is t range single =
      let o = op.Copy in
      let fits : r.address < 2 ^ (8 * h.address_size) = rw t.registers at t.fits in
      let line : r.line < 2 ^ 32 = rw t.registers at t.line in
      let to : r.address ≡ led h r.address o = omega arith in
      let within : led h r.address o < 2 ^ (8 * h.address_size) = rw to at fits in
      let row = row_fits h r (led h r.address o) to within single.first line in (
        rw t.made_is (record { plain = refl; fits = λ quiet. within; row = (refl, row) }),
        rw (t.registers, t.made_is) (ap (λ (a : ℕ). rows_at (along_of w files) a r.address r.is_stmt) to
            ∙ ap (λ (a : ℕ). rows_at (along_of w files) (led h r.address o) a r.is_stmt) (to ∙ sym row.address)),
      )
  row_taken other is t range single = absurd cc

  -- each instruction has one operation after it too
  pub row_single : (o : Operation) → is_row o ≡ true → new.registers ≡ settled h o (applied h w.program.registers o)
      → IsSingle h w.program → IsSingle h new
  row_single (op.Special b) is registers single = record {
    one = single.one;
    first = rw registers (single_index r.op_index ((b - h.opcode_base) / h.line_range) h.maximum_operations_per_instruction single.one);
  }
  row_single op.Copy is registers single = record { one = single.one; first = rw registers single.first }
  row_single other is registers single = absurd cc

  -- ---- operations that append no row

  -- of an advance, where the address doesn't fall and fits
  pub advance_taken : (o : Operation) → is_move o ≡ true → made ≡ made_by h w.program.registers o
      → new.registers ≡ settled h o (applied h w.program.registers o) → r.address ≤ new.registers.address
      → new.registers.address < 2 ^ (8 * h.address_size) → 2 ^ (8 * h.address_size) ≤ 2 ^ 64
      → h.minimum_instruction_length ≤ 16 → advance h o < 2 ^ 32 → IsSingle h w.program
      → IsPlain h (along_of w files) o made
      × (along_of (record { program = new; rows = w.rows; is_named = w.is_named }) files ≡ along_with h (along_of w files) o made)
  advance_taken (op.AdvancePc n) is none registers rises fits size least few single =
      let s = applied h r (op.AdvancePc n) in
      let up : r.address ≤ s.address = rw registers at rises in
      let in_size : s.address < 2 ^ (8 * h.address_size) = rw registers at fits in
      let to : s.address ≡ led h r.address (op.AdvancePc n) =
      advanced_to h r n s.address single.one single.first least few refl up (omega (arith, in_size, size)) in
      let within : led h r.address (op.AdvancePc n) < 2 ^ (8 * h.address_size) = rw to at in_size in (
        rw none (record { plain = refl; fits = λ quiet. within; row = refl }),
        rw (registers, none) (ap (λ (a : ℕ). record (along_of w files) { address = a }) to),
      )
  advance_taken op.ConstAddPc is none registers rises fits size least few single =
      let s = applied h r op.ConstAddPc in
      let up : r.address ≤ s.address = rw registers at rises in
      let in_size : s.address < 2 ^ (8 * h.address_size) = rw registers at fits in
      let to : s.address ≡ led h r.address op.ConstAddPc =
      advanced_to h r ((255 - h.opcode_base) / h.line_range) s.address single.one single.first least few refl up (omega (arith, in_size, size)) in
      let within : led h r.address op.ConstAddPc < 2 ^ (8 * h.address_size) = rw to at in_size in (
        rw none (record { plain = refl; fits = λ quiet. within; row = refl }),
        rw (registers, none) (ap (λ (a : ℕ). record (along_of w files) { address = a }) to),
      )
  advance_taken other is none registers rises fits size least few single = absurd cc

  pub advance_single : (o : Operation) → is_move o ≡ true → new.registers ≡ settled h o (applied h r o)
      → IsSingle h w.program → IsSingle h new
  advance_single (op.AdvancePc n) is registers single = record {
    one = single.one;
    first = rw registers (single_index r.op_index n h.maximum_operations_per_instruction single.one);
  }
  advance_single op.ConstAddPc is registers single = record {
    one = single.one;
    first = rw registers (single_index r.op_index ((255 - h.opcode_base) / h.line_range) h.maximum_operations_per_instruction single.one);
  }
  advance_single other is registers single = absurd cc

-- an operation that neither moves the address, sets the file nor appends a row
record Still (h : Params) (r : Registers) (o : Operation) : Type 0 where
  none : made_by h r o ≡ None
  settled_is : settled h o (applied h r o) ≡ applied h r o
  address : (applied h r o).address ≡ r.address
  file : (applied h r o).file ≡ r.file
  op_index : (applied h r o).op_index ≡ r.op_index
  led_is : r.address ≡ led h r.address o
  plain : (count : ℕ) → is_plain count o ≡ true
  quiet : is_quiet o ≡ true
  no_row : appends_row o ≡ false
  no_file : (p : Along) → with_file o p ≡ p

still : (h : Params) (r : Registers) (o : Operation) → is_still o ≡ true → Still h r o
still h r (op.AdvanceLine i) is = record { none = refl; settled_is = refl; address = refl; file = refl; op_index = refl; led_is = omega arith; plain = λ count. refl; quiet = refl; no_row = refl; no_file = λ p. refl }
still h r (op.SetColumn n) is = record { none = refl; settled_is = refl; address = refl; file = refl; op_index = refl; led_is = omega arith; plain = λ count. refl; quiet = refl; no_row = refl; no_file = λ p. refl }
still h r op.NegateStatement is = record { none = refl; settled_is = refl; address = refl; file = refl; op_index = refl; led_is = omega arith; plain = λ count. refl; quiet = refl; no_row = refl; no_file = λ p. refl }
still h r op.SetBasicBlock is = record { none = refl; settled_is = refl; address = refl; file = refl; op_index = refl; led_is = omega arith; plain = λ count. refl; quiet = refl; no_row = refl; no_file = λ p. refl }
still h r op.SetPrologueEnd is = record { none = refl; settled_is = refl; address = refl; file = refl; op_index = refl; led_is = omega arith; plain = λ count. refl; quiet = refl; no_row = refl; no_file = λ p. refl }
still h r op.SetEpilogueBegin is = record { none = refl; settled_is = refl; address = refl; file = refl; op_index = refl; led_is = omega arith; plain = λ count. refl; quiet = refl; no_row = refl; no_file = λ p. refl }
still h r (op.SetIsa n) is = record { none = refl; settled_is = refl; address = refl; file = refl; op_index = refl; led_is = omega arith; plain = λ count. refl; quiet = refl; no_row = refl; no_file = λ p. refl }
still h r (op.SetDiscriminator n) is = record { none = refl; settled_is = refl; address = refl; file = refl; op_index = refl; led_is = omega arith; plain = λ count. refl; quiet = refl; no_row = refl; no_file = λ p. refl }
still h r other is = absurd cc

-- what an operation that isn't an advance or a row leaves as it is
pub still_taken : (h : Params) (w : PlainWalk) (o : Operation) (new : Program) (made : Option Row) (files : List ℕ) → is_still o ≡ true
    → made ≡ made_by h w.program.registers o → new.registers ≡ settled h o (applied h w.program.registers o)
    → (IsSingle h w.program → IsSingle h new)
    × IsPlain h (along_of w files) o made
    × (along_of (record { program = new; rows = w.rows; is_named = w.is_named }) files ≡ along_with h (along_of w files) o made)
still_taken h w o new made files is made_is registers =
    let r = w.program.registers in
    let q = still h r o is in
    let none : made ≡ None = made_is ∙ q.none in
    let regs : new.registers ≡ applied h r o = registers ∙ q.settled_is in (
      λ single. record { one = single.one; first = ap (λ (s : Registers). s.op_index) regs ∙ q.op_index ∙ single.first },
      rw none (record { plain = q.plain w.rows.count; fits = λ loud. (let both : true ≡ false = sym q.quiet ∙ loud in absurd cc); row = q.no_row }),
      rw (none, q.no_file (record (along_of w files) { address = led h r.address o }))
          (ap (λ (a : ℕ). record (along_of w files) { address = a; file = new.registers.file })
          (ap (λ (s : Registers). s.address) regs ∙ q.address ∙ q.led_is)
          ∙ ap (λ (f : ℕ). record (along_of w files) { address = led h r.address o; file = f }) (ap (λ (s : Registers). s.file) regs ∙ q.file)),
    )
