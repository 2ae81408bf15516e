-- The program of rows, one row at a time: their ranges, the count of their bytes, and the bytes.
use Rattle.std.proofs.Common.{◌≡◌, ◌≢◌, ◌==◌, ℕ, ◌+◌, ◌^◌, ◌-◌, ◌<◌, ◌≤◌, min, Bool, true, false, List, ◌∷◌, ◌++◌}
use Rattle.std.proofs.Common.{length, drop, get_or}
use Rattle.std.proofs.Common.{Option, Some, None, refl, ap, ◌∙◌, arith, length-append, drop-cons, add-one}
use Rattle.std.proofs.lemmas.Grind.{flat_map-append}
use Rattle.std.proofs.lemmas.List.{drop_all}
use Rattle.std.proofs.lemmas.Bool.{eq-eqb, eqb-true, ne_eqb}
use Rattle.std.specs.Option.{option_or}
use Rattle.dl_num.specs.declared.fixed.Order.{Order}
use Rattle.dl_num.specs.declared.fixed.Order.TheVariants.{Little}
use Rattle.dl_field.specs.declared.params.Params.{Params}
use Rattle.dl_rows.specs.declared.row.Row.{Row}
use Rattle.dl_emit.specs.declared.fault.EmitFault.{EmitFault}
use Rattle.dl_emit.specs.declared.fault.EmitFault.TheVariants as fault
use Rattle.dl_emit.specs.OperationBytes.{operation_bytes}
use Rattle.dl_emit.specs.Program.{row_operations, operations_from, kept}
use Rattle.dl_emit.specs.WrittenUnit.{operations_bytes, program_len, is_in_range, out_of_range, rows_refusal, unless}

-- the bytes of a row and of those after it
pub program_cons : (order : Order) (h : Params) (before : Option Row) (r : Row) (rows : List Row)
    → operations_bytes order h (operations_from h before (r ∷ rows))
    ≡ operations_bytes order h (row_operations h before r) ++ operations_bytes order h (operations_from h (kept r) rows)
program_cons order h before r rows =
    flat_map-append (operation_bytes order h.address_size) (row_operations h before r) (operations_from h (kept r) rows)

module _ (h : Params) (rows : List Row) where
  -- the rows from one on
  pub rows_from : (i : ℕ) (d : Row) → i < length rows → drop i rows ≡ get_or rows i d ∷ drop (i + 1) rows
  rows_from i d lt = rw (add-one, drop-cons rows i d) refl

  -- ---- ranges

  pub row_in_range : (i : ℕ) (d : Row) → i < length rows → is_in_range h (get_or rows i d) ≡ true
      → out_of_range h (i + 1) (drop (i + 1) rows) ≡ out_of_range h i (drop i rows)
  row_in_range i d lt t = rw (rows_from i d lt, t) refl

  pub row_out_of_range : (i : ℕ) (d : Row) → i < length rows → is_in_range h (get_or rows i d) ≡ false
      → out_of_range h i (drop i rows) ≡ Some (fault.RowRange i)
  row_out_of_range i d lt f = rw (rows_from i d lt, f) refl

  pub refused_rows : (o : Option EmitFault) → h.version ≡ 5 → h.opcode_base ≡ 13 → out_of_range h 0 rows ≡ o
      → rows_refusal h rows ≡ o
  refused_rows o own base e = rw (eq-eqb h.version 5 own, eq-eqb h.opcode_base 13 base) e

  pub refused_version : h.version ≢ 5 → rows_refusal h rows ≡ Some fault.Version
  refused_version other = rw (ne_eqb h.version 5 other) refl

  -- where nothing stands against them, the version is 5
  pub accepted_version : rows_refusal h rows ≡ None → h.version ≡ 5
  accepted_version e = eqb-true h.version 5 (first (h.version == 5) e) where
    first : (b : Bool) → option_or (unless b fault.Version)
        (option_or (unless (h.opcode_base == 13) fault.OpcodeBase) (out_of_range h 0 rows)) ≡ None → b ≡ true
    first true none = refl
    first false none = absurd cc

  pub no_row_left : (i : ℕ) → length rows ≤ i → out_of_range h i (drop i rows) ≡ None
  no_row_left i le = rw (drop_all i rows le) refl

  -- ---- the count of the bytes

  -- len is the count of the bytes before the rest's
  abbrev pub Counts : ℕ → Option Row → List Row → Type 0
  Counts len before rest =
      (n : ℕ) × (len ≡ min n (2 ^ 64 - 1))
      × (n + length (operations_bytes Little h (operations_from h before rest)) ≡ program_len h rows)

  pub counts_more : (len new more i : ℕ) (d : Row) (before : Option Row) → i < length rows
      → more ≡ length (operations_bytes Little h (row_operations h before (get_or rows i d)))
      → new ≡ min (len + more) (2 ^ 64 - 1) → Counts len before (drop i rows)
      → Counts new (kept (get_or rows i d)) (drop (i + 1) rows)
  counts_more len new more i d before lt e is (n, counted, whole) =
      let r = get_or rows i d in
      let rest = drop (i + 1) rows in
      let split : operations_bytes Little h (operations_from h before (drop i rows))
      ≡ operations_bytes Little h (row_operations h before r)
      ++ operations_bytes Little h (operations_from h (kept r) rest) =
      rw (rows_from i d lt) (program_cons Little h before r rest) in
      let sum =
      ap length split
      ∙ length-append (operations_bytes Little h (row_operations h before r))
      (operations_bytes Little h (operations_from h (kept r) rest)) in
      (n + more, omega arith, omega (arith, sum, whole, e))

  pub counts_all : (len i : ℕ) (before : Option Row) → length rows ≤ i → Counts len before (drop i rows)
      → len ≡ min (program_len h rows) (2 ^ 64 - 1)
  counts_all len i before le (n, counted, whole) =
      let none : length (operations_bytes Little h (operations_from h before (drop i rows))) ≡ 0 =
      rw (drop_all i rows le) refl in omega arith
