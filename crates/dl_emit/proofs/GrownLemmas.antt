-- A program that grows by a row: its operations and bytes, and what is refused of it.
use Rattle.std.proofs.Common.{◌≡◌, ℕ, ◌+◌, ◌<◌, Bool, true, false, if◌then◌else◌, List, [], ◌∷◌, ◌++◌, length, min}
use Rattle.std.proofs.Common.{Option, Some, None, refl, sym, ap, ap₂, ◌∙◌, arith, append_assoc, append-nil}
use Rattle.std.proofs.Common.{length-append, ◌^◌, ◌-◌}
use Rattle.std.specs.Option.{option_map, option_or, is_some}
use Rattle.std.proofs.lemmas.Grind.{flat_map-append}
use Rattle.dl_num.specs.declared.fixed.Order.{Order}
use Rattle.dl_field.specs.declared.params.Params.{Params}
use Rattle.dl_table.proofs.SoundLemmas.{all_push}
use Rattle.dl_rows.specs.declared.row.Row.{Row}
use Rattle.dl_rows.specs.declared.operation.Operation.{Operation}
use Rattle.dl_rows.specs.declared.operation.Operation.TheVariants as op
use Rattle.dl_emit.specs.declared.fault.EmitFault.{EmitFault}
use Rattle.dl_emit.specs.declared.fault.EmitFault.TheVariants as fault
use Rattle.dl_emit.specs.Grown.{ProgramData, IsGrown, before_next}
use Rattle.dl_emit.specs.Laws.{IsRow}
use Rattle.dl_emit.specs.OperationBytes.{operation_bytes}
use Rattle.dl_emit.specs.Program.{row_operations, operations_from, kept, settings, marks, placed, appended, advances}
use Rattle.dl_emit.specs.Program.{special, special_or_copy, advance, line_advance, start}
use Rattle.dl_emit.specs.WrittenUnit.{operations_bytes, program_bytes, program_len, is_in_range, out_of_range}
use Rattle.dl_emit.specs.WrittenUnit.{rows_refusal}
use Rattle.dl_emit.proofs.LengthLemmas.{length-program}
use Rattle.dl_emit.proofs.ProgramLemmas.{program_cons, refused_rows, accepted_version}
use Rattle.std.specs.Prelude.{ℤ}

-- ---- a row at the end

before_next-push : (b : Option Row) (rows : List Row) (r : Row) → before_next b (rows ++ r ∷ []) ≡ kept r
before_next-push b [] r = refl
before_next-push b (first ∷ rows) r = before_next-push (kept first) rows r

program-push : (order : Order) (h : Params) (b : Option Row) (rows : List Row) (r : Row)
    → operations_bytes order h (operations_from h b (rows ++ r ∷ []))
    ≡ operations_bytes order h (operations_from h b rows)
    ++ operations_bytes order h (row_operations h (before_next b rows) r)
program-push order h b [] r =
    program_cons order h b r [] ∙ append-nil (operations_bytes order h (row_operations h b r))
program-push order h b (first ∷ rows) r =
    let front = operations_bytes order h (row_operations h b first) in
    let more = operations_bytes order h (operations_from h (kept first) rows) in
    let last = operations_bytes order h (row_operations h (before_next (kept first) rows) r) in
    program_cons order h b first (rows ++ r ∷ [])
    ∙ ap (λ (l : List ℕ). front ++ l) (program-push order h (kept first) rows r)
    ∙ sym (append_assoc front more last)
    ∙ ap (λ (l : List ℕ). l ++ last) (sym (program_cons order h b first rows))

-- why one of the rows from place i on is refused
abbrev refused_at : Bool → ℕ → Option EmitFault
refused_at b i = if b then None else Some (fault.RowRange i)

choice-push : (b : Bool) (i : ℕ) (o p q : Option EmitFault) → o ≡ option_or p q
    → (if b then o else Some (fault.RowRange i)) ≡ option_or (if b then p else Some (fault.RowRange i)) q
choice-push true i o p q e = e
choice-push false i o p q e = refl

out_of_range-push : (h : Params) (i : ℕ) (rows : List Row) (r : Row)
    → out_of_range h i (rows ++ r ∷ [])
    ≡ option_or (out_of_range h i rows) (refused_at (is_in_range h r) (i + length rows))
out_of_range-push h i [] r = ap (refused_at (is_in_range h r)) (omega arith)
out_of_range-push h i (first ∷ rows) r =
    let places : i + 1 + length rows ≡ i + length (first ∷ rows) = omega arith in
    choice-push (is_in_range h first) i _ _ _ (out_of_range-push h (i + 1) rows r
    ∙ ap (λ (n : ℕ). option_or (out_of_range h (i + 1) rows) (refused_at (is_in_range h r) n)) places)

-- ---- each row has a byte at least

module _ (order : Order) (h : Params) where
  abbrev HasBytes : List Operation → Type 0
  HasBytes os = 0 < length (operations_bytes order h os)

  after : (before os : List Operation) → HasBytes os → HasBytes (before ++ os)
  after before os some =
      let split = ap length (flat_map-append (operation_bytes order h.address_size) before os) in
      let sum = length-append (operations_bytes order h before) (operations_bytes order h os) in
      omega (arith, split, sum, some)

  ends : (o : Operation) → 0 < length (operation_bytes order h.address_size o) → HasBytes (o ∷ [])
  ends o some =
      let sum = length-append (operation_bytes order h.address_size o) [] in omega (arith, sum, some)

  special_has : (line : ℤ) (k : ℕ) (o : Option ℕ) → HasBytes (special_or_copy line k o)
  special_has line k (Some opcode) = ends (op.Special opcode) (omega arith)
  special_has line k None = after (advances line k) (op.Copy ∷ []) (ends op.Copy (omega arith))

  appended_has : (end : Bool) (line : ℤ) (k : ℕ) → HasBytes (appended h end line k)
  appended_has true line k = after (advances line k) (op.EndSequence ∷ []) (ends op.EndSequence (omega arith))
  appended_has false line k = special_has line k (special h line k)

  placed_has : (r : Row) (line : ℤ) (o : Option ℕ) → HasBytes (placed h r line o)
  placed_has r line (Some k) = appended_has r.end_sequence line k
  placed_has r line None =
      after (op.SetAddress r.address ∷ []) (appended h r.end_sequence line r.op_index)
      (appended_has r.end_sequence line r.op_index)

  pub row_has_bytes : (b : Option Row) (r : Row) → HasBytes (row_operations h b r)
  row_has_bytes None r =
      let last = placed h r (line_advance 1 r.line) None in
      after (settings (start h) r ++ marks r) last (placed_has r (line_advance 1 r.line) None)
  row_has_bytes (Some before) r =
      let line = line_advance before.line r.line in
      let last = placed h r line (advance h before r) in
      after (settings before r ++ marks r) last (placed_has r line (advance h before r))

-- ---- a program and a row more

-- what is not there is none
pub refused_none : (o : Option ℕ) → is_some o ≡ false → o ≡ None
refused_none (Some i) e = absurd cc
refused_none None e = refl

module _ (p : ProgramData) (order : Order) (h : Params) (rows : List Row) (r : Row) (g : IsGrown p order h rows) where
  -- one before it is out of range
  pub stays_refused : is_some p.refused ≡ true → IsGrown p order h (rows ++ r ∷ [])
  stays_refused some = record {
    order_is = g.order_is;
    params_are = g.params_are;
    standard = g.standard;
    refused = first_stays p.refused some g.refused;
    holds = λ none. absurd (let no : false ≡ true = ap is_some (sym none) ∙ some in cc);
  } where
    first_stays : (o : Option ℕ) → is_some o ≡ true → option_map fault.RowRange o ≡ out_of_range h 0 rows
        → option_map fault.RowRange o ≡ out_of_range h 0 (rows ++ r ∷ [])
    first_stays (Some i) some e =
        sym (out_of_range-push h 0 rows r
        ∙ ap (λ (o : Option EmitFault). option_or o (refused_at (is_in_range h r) (0 + length rows))) (sym e))
    first_stays None some e = absurd cc

  -- none before it is out of range, and it is
  pub becomes_refused : p.refused ≡ None → is_in_range p.params r ≡ false
      → IsGrown (record p { refused = Some p.rows }) order h (rows ++ r ∷ [])
  becomes_refused none out = record {
    order_is = g.order_is;
    params_are = g.params_are;
    standard = g.standard;
    refused =
        let before : None ≡ out_of_range h 0 rows = ap (option_map fault.RowRange) (sym none) ∙ g.refused in
        let here : is_in_range h r ≡ false = ap (λ (q : Params). is_in_range q r) (sym g.params_are) ∙ out in
        sym (out_of_range-push h 0 rows r
        ∙ ap (λ (o : Option EmitFault). option_or o (refused_at (is_in_range h r) (0 + length rows))) (sym before)
        ∙ ap (λ (b : Bool). refused_at b (0 + length rows)) here
        ∙ ap (λ (n : ℕ). Some (fault.RowRange n)) (omega (arith, (g.holds none).count)));
    holds = λ e. absurd cc;
  }

  -- it is held
  pub grows : (first last more : List ℕ) → p.refused ≡ None → is_in_range p.params r ≡ true → IsRow r
      → first ++ last ≡ p.first ++ p.last
      → more ≡ last ++ operations_bytes p.order p.params (row_operations p.params p.before r)
      → IsGrown (record p { before = kept r; rows = p.rows + 1; first = first; last = more }) order h (rows ++ r ∷ [])
  grows first last more none fits row same is = record {
    order_is = g.order_is;
    params_are = g.params_are;
    standard = g.standard;
    refused =
        let before : None ≡ out_of_range h 0 rows = ap (option_map fault.RowRange) (sym none) ∙ g.refused in
        let here : is_in_range h r ≡ true = ap (λ (q : Params). is_in_range q r) (sym g.params_are) ∙ fits in
        ap (option_map fault.RowRange) none
        ∙ sym (out_of_range-push h 0 rows r
        ∙ ap (λ (o : Option EmitFault). option_or o (refused_at (is_in_range h r) (0 + length rows))) (sym before)
        ∙ ap (λ (b : Bool). refused_at b (0 + length rows)) here);
    holds = λ e.
        let held = g.holds none in
        record {
          bytes =
              ap (λ (l : List ℕ). first ++ l) is
              ∙ sym (append_assoc first last (its_bytes p.before))
              ∙ ap₂ (λ (l : List ℕ) (b : Option Row). l ++ its_bytes b) (same ∙ held.bytes) held.before
              ∙ sym (program-push p.order p.params None rows r);
          before = sym (before_next-push None rows r);
          count = omega (arith, held.count, length-append rows (r ∷ []));
          each = all_push IsRow rows r held.each row;
        };
  } where
    its_bytes : Option Row → List ℕ
    its_bytes b = operations_bytes p.order p.params (row_operations p.params b r)

-- ---- a program that is written

module _ (p : ProgramData) (h : Params) (rows : List Row) (g : IsGrown p p.order h rows) where
  pub refuses_row : (i : ℕ) → h.version ≡ 5 → p.refused ≡ Some i → rows_refusal h rows ≡ Some (fault.RowRange i)
  refuses_row i own is =
      refused_rows h rows _ own g.standard (sym (ap (option_map fault.RowRange) (sym is) ∙ g.refused))

  module _ (none : p.refused ≡ None) where
    pub refuses_none : h.version ≡ 5 → rows_refusal h rows ≡ None
    refuses_none own =
        refused_rows h rows _ own g.standard (sym (ap (option_map fault.RowRange) (sym none) ∙ g.refused))

    pub bytes_are : p.first ++ p.last ≡ program_bytes p.order h rows
    bytes_are =
        (g.holds none).bytes ∙ ap (λ (q : Params). program_bytes p.order q rows) g.params_are

    pub counts_all : (m : ℕ) → m ≡ length p.first + length p.last → m < 2 ^ 64
        → m ≡ min (program_len h rows) (2 ^ 64 - 1)
    counts_all m is fits =
        omega (arith, is, fits, ap length bytes_are, length-append p.first p.last, length-program p.order h rows)

  -- without a reason against the rows none is refused, and all are held
  pub bytes_of_rows : rows_refusal h rows ≡ None → p.first ++ p.last ≡ program_bytes p.order h rows
  bytes_of_rows accepted = by p.refused refl where
    by : (o : Option ℕ) → p.refused ≡ o → p.first ++ p.last ≡ program_bytes p.order h rows
    by None e = bytes_are e
    by (Some i) e = absurd (let no : None ≡ Some (fault.RowRange i) =
        sym accepted ∙ refuses_row i (accepted_version h rows accepted) e in cc)
