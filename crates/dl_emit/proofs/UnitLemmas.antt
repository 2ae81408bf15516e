-- A unit that is written, and why one isn't.
use Rattle.std.proofs.Common.{◌≡◌, ℕ, ◌+◌, ◌^◌, ◌-◌, ◌<◌, min, Bool, true, false, if◌then◌else◌, List, [], ◌∷◌, length}
use Rattle.std.proofs.Common.{take, Option, Some, None, Result, Ok, Err, MatchResult, refl, sym, ap, subst, ◌∙◌, arith}
use Rattle.std.proofs.Common.{length-append}
use Rattle.std.specs.Option.{option_or}
use Rattle.std.specs.Io.KnownBytes.{Appends, Keeps}
use Rattle.std.proofs.lemmas.List.{take-append-le}
use Rattle.std.proofs.lemmas.Bool.{leb-true, leb-false, lt-leb}
use Rattle.dl_num.specs.declared.fixed.Order.{Order}
use Rattle.dl_table.specs.declared.counted.HeadWrite.{HeadWrite}
use Rattle.dl_table.specs.declared.counted.HeadWrite.TheVariants as head
use Rattle.dl_field.specs.declared.params.Params.{Params}
use Rattle.dl_field.specs.HeaderData.{HeaderData}
use Rattle.dl_table.specs.Writing.{IsOut, TellsOut, Writes}
use Rattle.dl_head.specs.Writing.{WritesHeader}
use Rattle.dl_head.specs.Written.{header_bytes, is_within_limit, unit_length_of, written_limit}
use Rattle.dl_head.proofs.OrderLemmas.{length-header, written_limit-le, initial_size-le}
use Rattle.dl_rows.specs.declared.row.Row.{Row}
use Rattle.dl_emit.specs.declared.fault.EmitFault.{EmitFault}
use Rattle.dl_emit.specs.declared.fault.EmitFault.TheVariants as fault
use Rattle.dl_emit.specs.HeadFault.{emit_fault}
use Rattle.dl_emit.specs.WrittenUnit.{program_bytes, program_len, unit_of, is_in_range, out_of_range, unless}
use Rattle.dl_emit.specs.WrittenUnit.{rows_refusal, refusal}
use Rattle.dl_emit.specs.Writing.{WritesUnit, WritesUnitHeader}
use Rattle.dl_emit.proofs.LengthLemmas.{length-program}

-- ---- what stands against rows is no failed write

if_refused : (b : Bool) (o : Option EmitFault) (p q : EmitFault) → (p ≡ q → ⊥) → option_or (unless b p) o ≡ Some q
    → o ≡ Some q
if_refused true o p q differ e = e
if_refused false o p q differ e = absurd (differ (let same : p ≡ q = cc in same))

in_range : (b : Bool) (i out : ℕ) (o : Option EmitFault) → (o ≡ Some (fault.Write out) → ⊥)
    → (if b then o else Some (fault.RowRange i)) ≡ Some (fault.Write out) → ⊥
in_range true i out o none e = none e
in_range false i out o none e = absurd cc

in_range_all : (h : Params) (i out : ℕ) (rows : List Row) → out_of_range h i rows ≡ Some (fault.Write out) → ⊥
in_range_all h i out [] e = absurd cc
in_range_all h i out (r ∷ rows) e =
    in_range (is_in_range h r) i out (out_of_range h (i + 1) rows) (in_range_all h (i + 1) out rows) e

pub no_write : (h : Params) (out : ℕ) (rows : List Row) → rows_refusal h rows ≡ Some (fault.Write out) → ⊥
no_write h out rows e =
    in_range_all h 0 out rows (if_refused _ _ fault.OpcodeBase (fault.Write out) (λ same. absurd cc)
    (if_refused _ _ fault.Version (fault.Write out) (λ same. absurd cc) e))

module _ (h : HeaderData) (rows : List Row) where
  abbrev count : ℕ
  count = program_len h.params rows

  -- the rows are no reason
  limit_decides : (b : Bool) → rows_refusal h.params rows ≡ None → is_within_limit h count ≡ b
      → refusal h rows ≡ unless b fault.TooLong
  limit_decides b none e = rw (none, e) refl

  -- what is counted up to 2^64 - 1 decides the limit
  counted : (m : ℕ) → m ≡ min count (2 ^ 64 - 1) → is_within_limit h m ≡ true → m ≡ count
  counted m e t =
      let le = leb-true (unit_length_of h m) (written_limit h.params.format) t in
      let limit = written_limit-le h.params.format in omega arith

  within : (m : ℕ) → rows_refusal h.params rows ≡ None → m ≡ min count (2 ^ 64 - 1) → is_within_limit h m ≡ true
      → refusal h rows ≡ None
  within m none e t = limit_decides true none (ap (is_within_limit h) (sym (counted m e t)) ∙ t)

  beyond : (m : ℕ) → rows_refusal h.params rows ≡ None → m ≡ min count (2 ^ 64 - 1) → is_within_limit h m ≡ false
      → refusal h rows ≡ Some fault.TooLong
  beyond m none e f =
      let gt = leb-false (unit_length_of h m) (written_limit h.params.format) f in
      limit_decides false none (lt-leb (unit_length_of h count) (written_limit h.params.format) (omega arith))

  pub length-unit : (order : Order) → length (unit_of order h rows) ≡ length (header_bytes order h count) + count
  length-unit order =
      length-append (header_bytes order h count) (program_bytes order h.params rows)
      ∙ ap (λ (n : ℕ). length (header_bytes order h count) + n) (length-program order h.params rows)

  pub measured : (n m : ℕ) → rows_refusal h.params rows ≡ None → m ≡ min count (2 ^ 64 - 1) → is_within_limit h m ≡ true
      → ((order : Order) → n ≡ length (header_bytes order h m))
      → (refusal h rows ≡ None) × ((order : Order) → n + m ≡ length (unit_of order h rows))
  measured n m none e t len =
      let same = counted m e t in (
        within m none e t,
        λ order. (let header = len order ∙ ap (λ (k : ℕ). length (header_bytes order h k)) same in
            omega (arith, length-unit order)),
      )

  module _ (order : Order) (old new : Option (List ℕ)) where
    pub refused_first : (f : EmitFault) → rows_refusal h.params rows ≡ Some f → Keeps old new
        → WritesUnit order h rows old new (Err f)
    refused_first fault.Version e keeps = (rw e refl, keeps)
    refused_first fault.OpcodeBase e keeps = (rw e refl, keeps)
    refused_first (fault.RowRange i) e keeps = (rw e refl, keeps)
    refused_first fault.TooLong e keeps = (rw e refl, keeps)
    refused_first (fault.Write out) e keeps = absurd (no_write h.params out rows e)

    pub refuses_header : (f : EmitFault) → rows_refusal h.params rows ≡ Some f → Keeps old new
        → WritesUnitHeader order h rows old new (Err f)
    refuses_header fault.Version e keeps = (rw e refl, keeps)
    refuses_header fault.OpcodeBase e keeps = (rw e refl, keeps)
    refuses_header (fault.RowRange i) e keeps = (rw e refl, keeps)
    refuses_header fault.TooLong e keeps = (rw e refl, keeps)
    refuses_header (fault.Write out) e keeps = absurd (no_write h.params out rows e)

    -- what is said of a header before m bytes holds of one before the program
    pub header_written : (m : ℕ) (result : Result ℕ HeadWrite) → rows_refusal h.params rows ≡ None
        → m ≡ min count (2 ^ 64 - 1) → WritesHeader order h m old new result
        → MatchResult result (λ n. WritesUnitHeader order h rows old new (Ok n))
        (λ f. WritesUnitHeader order h rows old new (Err (emit_fault f)))
    header_written m (Ok n) none e (t, len, out) =
        let same = counted m e t in (
          within m none e t,
          len ∙ ap (λ (k : ℕ). length (header_bytes order h k)) same,
          subst (λ (k : ℕ). Appends old new (header_bytes order h k)) same out,
        )
    header_written m (Err head.TooLong) none e (f, keeps) = (beyond m none e f, keeps)
    header_written m (Err (head.Write out)) none e (t, lt, part) =
        let same = counted m e t in (
          within m none e t,
          subst (λ (k : ℕ). out < length (header_bytes order h k)) same lt,
          subst (λ (k : ℕ). Appends old new (take out (header_bytes order h k))) same part,
        )

    pub header_failed : (m : ℕ) (f : HeadWrite) → rows_refusal h.params rows ≡ None → m ≡ min count (2 ^ 64 - 1)
        → WritesHeader order h m old new (Err f) → WritesUnit order h rows old new (Err (emit_fault f))
    header_failed m head.TooLong none e (f, keeps) = (beyond m none e f, keeps)
    header_failed m (head.Write out) none e (t, lt, part) =
        let same = counted m e t in
        let header = header_bytes order h count in
        let shorter : out < length header = subst (λ (k : ℕ). out < length (header_bytes order h k)) same lt in
        let front : Appends old new (take out header) =
        subst (λ (k : ℕ). Appends old new (take out (header_bytes order h k))) same part in (
          within m none e t,
          omega (arith, length-unit order),
          subst (Appends old new) (sym (take-append-le out header (program_bytes order h.params rows) (omega arith)))
              front,
        )

    unit_written : (result : Result ℕ HeadWrite) → refusal h rows ≡ None → length (unit_of order h rows) < 2 ^ 64
        → MatchResult result (λ n. IsOut old new (unit_of order h rows) n)
        (λ f. TellsOut old new (unit_of order h rows) f)
        → MatchResult result (λ n. WritesUnit order h rows old new (Ok n))
        (λ f. WritesUnit order h rows old new (Err (emit_fault f)))
    unit_written (Ok n) none short out = let counted = out.counted in (none, omega arith, out.written)
    unit_written (Err head.TooLong) none short out = absurd out
    unit_written (Err (head.Write n)) none short (out, part) =
        let below = part.within in
        let counted = part.counted in
        let same : out ≡ n = omega arith in
        (none, omega arith, subst (λ (k : ℕ). Appends old new (take k (unit_of order h rows))) same part.written)

    pub program_written : (m n : ℕ) (mid : Option (List ℕ)) (result : Result ℕ HeadWrite)
        → rows_refusal h.params rows ≡ None → m ≡ min count (2 ^ 64 - 1) → WritesHeader order h m old mid (Ok n)
        → Writes mid new n (program_bytes order h.params rows) result
        → MatchResult result (λ n. WritesUnit order h rows old new (Ok n))
        (λ f. WritesUnit order h rows old new (Err (emit_fault f)))
    program_written m n mid result none e (t, len, out) writes =
        let same = counted m e t in
        let header = header_bytes order h count in
        let le = leb-true (unit_length_of h m) (written_limit h.params.format) t in
        let limit = written_limit-le h.params.format in
        let initial = initial_size-le h.params.format in
        let size = length-header order h count in
        let long : n ≡ length header = len ∙ ap (λ (k : ℕ). length (header_bytes order h k)) same in
        let short : length (unit_of order h rows) < 2 ^ 64 = omega (arith, length-unit order) in
        let front : Appends old mid header = subst (λ (k : ℕ). Appends old mid (header_bytes order h k)) same out in
        unit_written result (within m none e t) short (writes old header (record {
          written = front;
          counted =
              omega arith;
        }))
