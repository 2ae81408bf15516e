-- The operations of a row are run to the row: its settings, its marks and its place.
use Rattle.std.proofs.Common.{◌≡◌, ℕ, ◌+◌, ◌-◌, ◌*◌, ◌/◌, ◌%◌, ◌^◌, ◌<◌, ◌≤◌, Bool, true, false, not, ◌==◌}
use Rattle.std.proofs.Common.{if◌then◌else◌, ℤ, pos, negsuc, ◌+ℤ◌, List, [], ◌∷◌, ◌++◌, Option, Some, None, unwrap_or}
use Rattle.std.proofs.Common.{refl, sym, ap, ◌∙◌, arith, append_assoc}
use Rattle.std.specs.Int.{w64, cast_unsigned}
use Rattle.std.specs.List.{AllByRecursion}
use Rattle.std.proofs.lemmas.Bool.{eqb-true}
use Rattle.std.proofs.Math.Nat.{mod-eq_of_lt, div-eq_of_lt}
use Rattle.dl_field.specs.declared.params.Params.{Params}
use Rattle.dl_rows.specs.declared.registers.Registers.{Registers}
use Rattle.dl_rows.specs.declared.row.Row.{Row}
use Rattle.dl_rows.specs.declared.operation.Operation.{Operation}
use Rattle.dl_rows.specs.declared.operation.Operation.TheVariants as op
use Rattle.dl_rows.specs.Machine.{initial, advanced, line_advanced, cleared, row_of}
use Rattle.dl_emit.specs.Program.{start, when, differs, settings, marks, is_zero, advances, special, special_or_copy}
use Rattle.dl_emit.specs.Program.{appended, placed, advance, line_advance, row_operations, kept, operations_from}
use Rattle.dl_emit.proofs.RunLemmas.{run}
use Rattle.dl_emit.proofs.StepLemmas.{Leads, advance_leads, address_is, op_index_is, line_is, IsSpecial, special_is}

-- the registers after a row of a sequence
abbrev pub tail : Row → Registers
tail r = record {
  address = r.address;
  file = r.file;
  line = r.line;
  column = r.column;
  isa = r.isa;
  discriminator = 0;
  op_index = r.op_index;
  is_stmt = r.is_stmt;
  basic_block = false;
  prologue_end = false;
  epilogue_begin = false;
}

-- the registers before the row r, at the place of the row before it
abbrev set : Row → Row → Registers
set before r = record {
  address = before.address;
  file = r.file;
  line = before.line;
  column = r.column;
  isa = r.isa;
  discriminator = r.discriminator;
  op_index = before.op_index;
  is_stmt = r.is_stmt;
  basic_block = r.basic_block;
  prologue_end = r.prologue_end;
  epilogue_begin = r.epilogue_begin;
}

module _ (h : Params) where
  -- ---- one setting or mark

  run_file : (q : Registers) (n : ℕ) (rest : List Operation)
      → run h q (when (not (n == q.file)) (op.SetFile n) ++ rest) ≡ run h (record q { file = n }) rest
  run_file q n rest = cases (n == q.file) (λ t. eqb-true n q.file t) where
    cases : (b : Bool) → (b ≡ true → n ≡ q.file)
        → run h q (when (not b) (op.SetFile n) ++ rest) ≡ run h (record q { file = n }) rest
    cases true same = ap (λ (m : ℕ). run h (record q { file = m }) rest) (sym (same refl))
    cases false same = refl

  run_column : (q : Registers) (n : ℕ) (rest : List Operation)
      → run h q (when (not (n == q.column)) (op.SetColumn n) ++ rest) ≡ run h (record q { column = n }) rest
  run_column q n rest = cases (n == q.column) (λ t. eqb-true n q.column t) where
    cases : (b : Bool) → (b ≡ true → n ≡ q.column)
        → run h q (when (not b) (op.SetColumn n) ++ rest) ≡ run h (record q { column = n }) rest
    cases true same = ap (λ (m : ℕ). run h (record q { column = m }) rest) (sym (same refl))
    cases false same = refl

  run_isa : (q : Registers) (n : ℕ) (rest : List Operation)
      → run h q (when (not (n == q.isa)) (op.SetIsa n) ++ rest) ≡ run h (record q { isa = n }) rest
  run_isa q n rest = cases (n == q.isa) (λ t. eqb-true n q.isa t) where
    cases : (b : Bool) → (b ≡ true → n ≡ q.isa)
        → run h q (when (not b) (op.SetIsa n) ++ rest) ≡ run h (record q { isa = n }) rest
    cases true same = ap (λ (m : ℕ). run h (record q { isa = m }) rest) (sym (same refl))
    cases false same = refl

  run_negate : (q : Registers) (to from : Bool) (rest : List Operation)
      → run h (record q { is_stmt = from }) (when (differs to from) op.NegateStatement ++ rest)
      ≡ run h (record q { is_stmt = to }) rest
  run_negate q true true rest = refl
  run_negate q true false rest = refl
  run_negate q false true rest = refl
  run_negate q false false rest = refl

  run_discriminator : (q : Registers) (n : ℕ) (rest : List Operation)
      → run h (record q { discriminator = 0 }) (when (not (n == 0)) (op.SetDiscriminator n) ++ rest)
      ≡ run h (record q { discriminator = n }) rest
  run_discriminator q n rest = cases (n == 0) (λ t. eqb-true n 0 t) where
    cases : (b : Bool) → (b ≡ true → n ≡ 0)
        → run h (record q { discriminator = 0 }) (when (not b) (op.SetDiscriminator n) ++ rest)
        ≡ run h (record q { discriminator = n }) rest
    cases true same = ap (λ (m : ℕ). run h (record q { discriminator = m }) rest) (sym (same refl))
    cases false same = refl

  run_block : (q : Registers) (b : Bool) (rest : List Operation)
      → run h (record q { basic_block = false }) (when b op.SetBasicBlock ++ rest) ≡ run h (record q {
        basic_block =
            b;
      }) rest
  run_block q true rest = refl
  run_block q false rest = refl

  run_prologue : (q : Registers) (b : Bool) (rest : List Operation)
      → run h (record q { prologue_end = false }) (when b op.SetPrologueEnd ++ rest) ≡ run h (record q {
        prologue_end =
            b;
      }) rest
  run_prologue q true rest = refl
  run_prologue q false rest = refl

  run_epilogue : (q : Registers) (b : Bool) (rest : List Operation)
      → run h (record q { epilogue_begin = false }) (when b op.SetEpilogueBegin ++ rest)
      ≡ run h (record q { epilogue_begin = b }) rest
  run_epilogue q true rest = refl
  run_epilogue q false rest = refl

  -- ---- all of them

  regroup : (a b c d e : List Operation) → (a ++ b ++ c ++ d) ++ e ≡ a ++ (b ++ (c ++ (d ++ e)))
  regroup a b c d e = simp append_assoc

  run_settings : (before r : Row) (rest : List Operation)
      → run h (tail before) (settings before r ++ rest) ≡ run h (record (tail before) {
        file = r.file;
        column =
            r.column;
        is_stmt = r.is_stmt;
        isa = r.isa;
      }) rest
  run_settings before r rest =
      let q = tail before in
      let file = when (not (r.file == before.file)) (op.SetFile r.file) in
      let column = when (not (r.column == before.column)) (op.SetColumn r.column) in
      let stmt = when (differs r.is_stmt before.is_stmt) op.NegateStatement in
      let isa = when (not (r.isa == before.isa)) (op.SetIsa r.isa) in
      ap (run h q) (regroup file column stmt isa rest)
      ∙ run_file q r.file (column ++ (stmt ++ (isa ++ rest)))
      ∙ run_column (record q { file = r.file }) r.column (stmt ++ (isa ++ rest))
      ∙ run_negate (record q { file = r.file; column = r.column }) r.is_stmt before.is_stmt (isa ++ rest)
      ∙ run_isa (record q { file = r.file; column = r.column; is_stmt = r.is_stmt }) r.isa rest

  run_marks : (before r : Row) (rest : List Operation)
      → run h (record (tail before) {
        file = r.file;
        column = r.column;
        is_stmt = r.is_stmt;
        isa =
            r.isa;
      }) (marks r ++ rest) ≡ run h (set before r) rest
  run_marks before r rest =
      let q : Registers =
      record (tail before) { file = r.file; column = r.column; is_stmt = r.is_stmt; isa = r.isa } in
      let discriminator = when (not (r.discriminator == 0)) (op.SetDiscriminator r.discriminator) in
      let block = when r.basic_block op.SetBasicBlock in
      let prologue = when r.prologue_end op.SetPrologueEnd in
      let epilogue = when r.epilogue_begin op.SetEpilogueBegin in
      ap (run h q) (regroup discriminator block prologue epilogue rest)
      ∙ run_discriminator q r.discriminator (block ++ (prologue ++ (epilogue ++ rest)))
      ∙ run_block (record q { discriminator = r.discriminator }) r.basic_block (prologue ++ (epilogue ++ rest))
      ∙ run_prologue (record q {
        discriminator = r.discriminator;
        basic_block =
            r.basic_block;
      }) r.prologue_end (epilogue ++ rest)
      ∙ run_epilogue (record q {
        discriminator = r.discriminator;
        basic_block = r.basic_block;
        prologue_end =
            r.prologue_end;
      }) r.epilogue_begin rest

  -- ---- the place and the line

  -- after an operation advance and a line advance
  abbrev moved : Registers → ℕ → ℤ → Registers
  moved q k line = line_advanced (advanced h q k) line

  run_lines : (q : Registers) (line : ℤ) (rest : List Operation) → q.line < 2 ^ 64
      → run h q (when (not (is_zero line)) (op.AdvanceLine line) ++ rest) ≡ run h (line_advanced q line) rest
  run_lines q (negsuc n) rest fits = refl
  run_lines q (pos n) rest fits = cases (n == 0) (λ t. eqb-true n 0 t) where
    cases : (b : Bool) → (b ≡ true → n ≡ 0)
        → run h q (when (not b) (op.AdvanceLine (pos n)) ++ rest) ≡ run h (line_advanced q (pos n)) rest
    cases true none =
        let same : (q.line + cast_unsigned w64 (pos n)) % 2 ^ 64 ≡ q.line =
        rw (none refl) (omega arith) in ap (λ (l : ℕ). run h (record q { line = l }) rest) (sym same)
    cases false none = refl

  run_operations : (q : Registers) (k : ℕ) (line : ℤ) (rest : List Operation) → q.address < 2 ^ 64
      → q.op_index < h.maximum_operations_per_instruction
      → run h (line_advanced q line) (when (not (k == 0)) (op.AdvancePc k) ++ rest) ≡ run h (moved q k line) rest
  run_operations q k line rest fits index = cases (k == 0) (λ t. eqb-true k 0 t) where
    cases : (b : Bool) → (b ≡ true → k ≡ 0)
        → run h (line_advanced q line) (when (not b) (op.AdvancePc k) ++ rest) ≡ run h (moved q k line) rest
    cases true none =
        let stays : q.op_index + k ≡ q.op_index = omega (arith, none refl) in
        let whole : (q.op_index + k) / h.maximum_operations_per_instruction ≡ 0 = rw stays (div-eq_of_lt index) in
        let part : (q.op_index + k) % h.maximum_operations_per_instruction ≡ q.op_index =
        rw stays (mod-eq_of_lt index) in
        let address : (q.address
        + h.minimum_instruction_length * ((q.op_index + k) / h.maximum_operations_per_instruction)) % 2 ^ 64
        ≡ q.address = rw whole (omega arith) in
        ap (λ (a : ℕ). run h (record (line_advanced q line) { address = a }) rest) (sym address)
        ∙ ap (λ (i : ℕ). run h (record (line_advanced q line) {
          address =
              (q.address + h.minimum_instruction_length * ((q.op_index + k) / h.maximum_operations_per_instruction)) %
              2 ^ 64;
          op_index = i;
        }) rest) (sym part)
    cases false none = refl

  -- the place and the line of these registers can be those of a row
  pub record IsPlace (at to index : ℕ) : Type 0 where
    pub address : at < 2 ^ 64
    pub line : to < 2 ^ 64
    pub op_index : index < h.maximum_operations_per_instruction

  run_advances : (q : Registers) (k : ℕ) (line : ℤ) (rest : List Operation) → IsPlace q.address q.line q.op_index
      → run h q (advances line k ++ rest) ≡ run h (moved q k line) rest
  run_advances q k line rest place =
      let lines = when (not (is_zero line)) (op.AdvanceLine line) in
      let operations = when (not (k == 0)) (op.AdvancePc k) in
      ap (run h q) (append_assoc lines operations rest) ∙ run_lines q line (operations ++ rest) place.line
      ∙ run_operations q k line rest place.address place.op_index

  -- ---- what appends the row

  -- the registers after a row that is appended with these
  abbrev next : Bool → Registers → Registers
  next true q = initial (not (h.default_is_stmt == 0))
  next false q = cleared q

  run_special : (q : Registers) (k : ℕ) (line : ℤ) (rest : List Operation) → h.opcode_base ≡ 13
      → IsPlace q.address q.line q.op_index → (o : Option ℕ)
      → ((opcode : ℕ) → o ≡ Some opcode → IsSpecial h line k opcode)
      → run h q (special_or_copy line k o ++ rest) ≡ row_of h (moved q k line) false
      ∷ run h (cleared (moved q k line)) rest
  run_special q k line rest base place None is =
      ap (run h q) (append_assoc (advances line k) (op.Copy ∷ []) rest) ∙ run_advances q k line (op.Copy ∷ rest) place
  run_special q k line rest base place (Some opcode) is =
      let step = is opcode refl in
      let same : line_advanced (advanced h q ((opcode - h.opcode_base) / h.line_range))
      (h.line_base +ℤ pos ((opcode - h.opcode_base) % h.line_range)) ≡ moved q k line =
      rw (base, step.advances, step.lines) refl in
      ap (λ (m : Registers). row_of h m false ∷ run h (cleared m) rest) same

  run_appended : (end : Bool) (q : Registers) (k : ℕ) (line : ℤ) (rest : List Operation) → h.opcode_base ≡ 13
      → IsPlace q.address q.line q.op_index
      → run h q (appended h end line k ++ rest) ≡ row_of h (moved q k line) end ∷ run h (next end (moved q k line)) rest
  run_appended true q k line rest base place =
      ap (run h q) (append_assoc (advances line k) (op.EndSequence ∷ []) rest)
      ∙ run_advances q k line (op.EndSequence ∷ rest) place
  run_appended false q k line rest base place =
      run_special q k line rest base place (special h line k) (λ opcode e. special_is h line k opcode e)

  -- ---- a row

  -- the row can be one of these params
  pub record Fits (r : Row) : Type 0 where
    pub place : IsPlace r.address r.line r.op_index
    pub address : r.address < 2 ^ (8 * h.address_size)

  arrives : (q m : Registers) (r : Row) (end : Bool) (rest : List Operation) → Fits r → end ≡ r.end_sequence
      → m ≡ set r r → row_of h m end ∷ run h (next end m) rest ≡ r ∷ run h (tail (unwrap_or (kept r) (start h))) rest
  arrives q m r end rest fits ends at =
      let address : r.address % 2 ^ (8 * h.address_size) ≡ r.address = mod-eq_of_lt fits.address in
      rw (at, ends) (rw address (ap (λ (n : Registers). r ∷ run h n rest) (goes_on r.end_sequence)))
    where
      goes_on : (b : Bool) → next b (set r r) ≡ tail (unwrap_or (if b then None else Some r) (start h))
      goes_on true = refl
      goes_on false = refl

  run_placed : (before r : Row) (rest : List Operation) → h.opcode_base ≡ 13
      → IsPlace before.address before.line before.op_index → Fits r → (o : Option ℕ)
      → ((k : ℕ) → o ≡ Some k → Leads h before r k)
      → run h (set before r) (placed h r (line_advance before.line r.line) o ++ rest)
      ≡ r ∷ run h (tail (unwrap_or (kept r) (start h))) rest
  run_placed before r rest base from to (Some k) leads =
      let line = line_advance before.line r.line in
      let step = leads k refl in
      let at : moved (set before r) k line ≡ set r r =
      rw (
        address_is h before r k step to.place.op_index to.place.address,
        op_index_is h before r k step to.place.op_index,
        line_is before.line r.line from.line to.place.line,
      ) refl in
      run_appended r.end_sequence (set before r) k line rest base from
      ∙ arrives (set before r) _ r r.end_sequence rest to refl at
  run_placed before r rest base from to None leads =
      let line = line_advance before.line r.line in
      let q : Registers = record (set before r) { address = r.address; op_index = 0 } in
      let index = to.place.op_index in
      let here : IsPlace r.address before.line 0 =
      record { address = to.place.address; line = from.line; op_index = omega arith } in
      let start_index : 0 + r.op_index ≡ r.op_index = omega arith in
      let whole : (0 + r.op_index) / h.maximum_operations_per_instruction ≡ 0 = rw start_index (div-eq_of_lt index) in
      let part : (0 + r.op_index) % h.maximum_operations_per_instruction ≡ r.op_index =
      rw start_index (mod-eq_of_lt index) in
      let address : (r.address
      + h.minimum_instruction_length * ((0 + r.op_index) / h.maximum_operations_per_instruction)) % 2 ^ 64
      ≡ r.address = rw whole (let fits = to.place.address in omega arith) in
      let at : moved q r.op_index line ≡ set r r =
      rw (address, part, line_is before.line r.line from.line to.place.line) refl in
      run_appended r.end_sequence q r.op_index line rest base here ∙ arrives q _ r r.end_sequence rest to refl at

  three : (a b c d : List Operation) → (a ++ b ++ c) ++ d ≡ a ++ (b ++ (c ++ d))
  three a b c d = simp append_assoc

  run_row : (before r : Row) (rest : List Operation) → h.opcode_base ≡ 13
      → IsPlace before.address before.line before.op_index → Fits r → (o : Option ℕ)
      → ((k : ℕ) → o ≡ Some k → Leads h before r k)
      → run h (tail before) ((settings before r ++ marks r ++ placed h r (line_advance before.line r.line) o) ++ rest)
      ≡ r ∷ run h (tail (unwrap_or (kept r) (start h))) rest
  run_row before r rest base from to o leads =
      let place = placed h r (line_advance before.line r.line) o in
      ap (run h (tail before)) (three (settings before r) (marks r) place rest)
      ∙ run_settings before r (marks r ++ (place ++ rest)) ∙ run_marks before r (place ++ rest)
      ∙ run_placed before r rest base from to o leads

  pub starts_somewhere : 1 ≤ h.maximum_operations_per_instruction → IsPlace 0 1 0
  starts_somewhere some = record { address = omega arith; line = omega arith; op_index = omega arith }

  -- the operations of rows, run to these rows
  pub run_rows : (rows : List Row) (before : Option Row) → h.opcode_base ≡ 13 → 1 ≤ h.maximum_operations_per_instruction
      → AllByRecursion Fits rows → (let b = unwrap_or before (start h) in IsPlace b.address b.line b.op_index)
      → run h (tail (unwrap_or before (start h))) (operations_from h before rows) ≡ rows
  run_rows [] before base some fits from = refl
  run_rows (r ∷ rows) before base some fits from =
      first before from
      ∙ ap (λ (l : List Row). r ∷ l) (run_rows rows (kept r) base some fits.1 (goes_on r.end_sequence))
    where
      first : (before : Option Row) → (let b = unwrap_or before (start h) in IsPlace b.address b.line b.op_index)
          → run h (tail (unwrap_or before (start h))) (row_operations h before r ++ operations_from h (kept r) rows)
          ≡ r ∷ run h (tail (unwrap_or (kept r) (start h))) (operations_from h (kept r) rows)
      first None from = run_row (start h) r (operations_from h (kept r) rows) base from fits.0 None (λ k e. absurd cc)
      first (Some b) from =
          run_row b r (operations_from h (kept r) rows) base from fits.0 (advance h b r)
          (λ k e. advance_leads h b r k e)

      goes_on : (b : Bool) → (let n = unwrap_or (if b then None else Some r) (start h) in
          IsPlace n.address n.line n.op_index)
      goes_on true = starts_somewhere some
      goes_on false = fits.0.place
