-- The program that is written for rows is read again as these rows.
use Rattle.std.proofs.Common.{◌≡◌, ℕ, ◌+◌, ◌^◌, ◌<◌, ◌≤◌, Bool, true, false, nat_lt, if◌then◌else◌, ℤ, pos, negsuc}
use Rattle.std.proofs.Common.{List, [], ◌∷◌, Option, Some, None, refl, sym, ap, subst, map, ◌∙◌, arith}
use Rattle.std.specs.Option.{option_or}
use Rattle.std.specs.Prelude.{unsigned_abs, ◌*◌, ◌==◌}
use Rattle.std.specs.Int.{w8}
use Rattle.std.specs.Int.RustNames.{FitsSigned}
use Rattle.std.specs.List.{AllByRecursion}
use Rattle.std.proofs.lemmas.List.{append-nil}
use Rattle.std.proofs.lemmas.Bool.{ltb-true, eqb-true}
use Rattle.std.proofs.lemmas.Int.{ints}
use Rattle.dl_num.specs.Fixed.{is_number_size}
use Rattle.dl_num.specs.Front.{Standing}
use Rattle.dl_num.proofs.LebFrontLemmas.{and_left, and_right}
use Rattle.dl_field.specs.declared.params.Params.{Params}
use Rattle.dl_field.specs.HeaderData.{HeaderData}
use Rattle.dl_head.specs.Written.{header_bytes, is_within_limit}
use Rattle.dl_head.specs.Sound.{IsSoundHeader}
use Rattle.dl_head.proofs.HeaderLaws.{header_is_found}
use Rattle.dl_head.proofs.HeaderSound.{usable}
use Rattle.dl_head.proofs.WrittenHeaders.{header_is_written, length_is_written}
use Rattle.dl_rows.specs.declared.row.Row.{Row}
use Rattle.dl_rows.specs.declared.operation.Operation.{Operation}
use Rattle.dl_rows.specs.OperationSpelt.{operations_in}
use Rattle.dl_rows.specs.declared.reader.Event.TheVariants as event
use Rattle.dl_rows.specs.LineUnit.{IsOwnUnit}
use Rattle.dl_rows.specs.Spelling.{SpellsProgram}
use Rattle.dl_rows.proofs.UnitLaws.{unit_comes_to}
use Rattle.dl_rows.proofs.UnitLengths.{length_is_computed}
use Rattle.dl_rows.specs.Matrix.{matrix}
use Rattle.dl_rows.specs.Sums.{HasRange, FitsProgram}
use Rattle.dl_rows.proofs.ProgramLaws.{program_is_found}
use Rattle.dl_rows.proofs.RegisterLemmas.{size_cases}
use Rattle.dl_emit.specs.declared.fault.EmitFault.{EmitFault}
use Rattle.dl_emit.specs.declared.fault.EmitFault.TheVariants as fault
use Rattle.dl_emit.specs.Program.{operations}
use Rattle.dl_emit.specs.WrittenUnit.{unit_of, program_len, rows_refusal, program_bytes, is_in_range, out_of_range}
use Rattle.dl_emit.specs.WrittenUnit.{unless}
use Rattle.dl_emit.specs.Laws.{IsRow, IsParams, ProgramIsReadAgain, UnitIsReadAgain}
use Rattle.dl_emit.proofs.ProgramLemmas.{accepted_version}
use Rattle.dl_emit.proofs.RunLemmas.{matrix_is_run}
use Rattle.dl_emit.proofs.RowRuns.{Fits, run_rows, starts_somewhere}
use Rattle.dl_emit.proofs.UnitLemmas.{length-unit}
use Rattle.dl_emit.proofs.WrittenOperations.{IsWritten, has_range, spells_program, all_map, written_rows}

address_fits : (n size : ℕ) → is_number_size size ≡ true → n < 2 ^ (8 * size) → n < 2 ^ 64
address_fits n size e lt =
    size_cases size e (λ is. grind (arith, is, lt)) (λ is. grind (arith, is, lt)) (λ is. grind (arith, is, lt))
    (λ is. grind (arith, is, lt))

-- ---- what isn't refused

none_first : (b : Bool) (f : EmitFault) (o : Option EmitFault) → option_or (unless b f) o ≡ None
    → (b ≡ true) × (o ≡ None)
none_first true f o e = (refl, e)
none_first false f o e = absurd cc

none_here : (b : Bool) (i : ℕ) (o : Option EmitFault) → (if b then o else Some (fault.RowRange i)) ≡ None
    → (b ≡ true) × (o ≡ None)
none_here true i o e = (refl, e)
none_here false i o e = absurd cc

module _ (h : Params) (params : IsParams h) where
  fits_row : (r : Row) → IsRow r → is_in_range h r ≡ true → Fits h r
  fits_row r row t =
      let index =
      ltb-true r.op_index h.maximum_operations_per_instruction
      (and_left (nat_lt r.op_index h.maximum_operations_per_instruction)
      (nat_lt r.address (2 ^ (8 * h.address_size))) t) in
      let address =
      ltb-true r.address (2 ^ (8 * h.address_size))
      (and_right (nat_lt r.op_index h.maximum_operations_per_instruction)
      (nat_lt r.address (2 ^ (8 * h.address_size))) t) in
      let small : r.address < 2 ^ 64 = address_fits r.address h.address_size params.usable.address_size address in
      record { place = record { address = small; line = row.line; op_index = index }; address = address }

  fits_rows : (i : ℕ) (rows : List Row) → AllByRecursion IsRow rows → out_of_range h i rows ≡ None
      → AllByRecursion (Fits h) rows
  fits_rows i [] row none = tt
  fits_rows i (r ∷ rows) row none =
      let t = none_here (is_in_range h r) i (out_of_range h (i + 1) rows) none in
      (fits_row r row.0 t.0, fits_rows (i + 1) rows row.1 t.1)

base_fits : (i : ℤ) → FitsSigned w8 i → unsigned_abs i < 2 ^ 62
base_fits (pos n) fits = omega (arith, ints)
base_fits (negsuc n) fits = omega (arith, ints)

pub program_is_read_again : ProgramIsReadAgain
program_is_read_again order h rows params row none =
    let own = none_first (h.version == 5) fault.Version
    (option_or (unless (h.opcode_base == 13) fault.OpcodeBase) (out_of_range h 0 rows)) none in
    let t = none_first (h.opcode_base == 13) fault.OpcodeBase (out_of_range h 0 rows) own.1 in
    let base = eqb-true h.opcode_base 13 t.0 in
    let fits = fits_rows h params 0 rows row t.1 in
    let os = operations h rows in
    let bytes = program_bytes order h rows in
    let written = written_rows h None rows row fits in
    let spelled = spells_program order h os params.usable base written in
    let some : 1 ≤ h.opcode_base = omega arith in
    let read = program_is_found order h os bytes [] some spelled in
    let found : operations_in order h bytes ≡ record { found = os; rest = [] } =
    sym (ap (operations_in order h) (append-nil bytes)) ∙ read
    ∙ ap (λ (l : List Operation). let s : Standing Operation = record { found = l; rest = [] } in
    s) (append-nil os) in
    let program : FitsProgram h =
    record { usable = params.usable; line_base = base_fits h.line_base params.line_base } in
    let rows_are = matrix_is_run h program os (all_map (IsWritten h) HasRange (has_range h) os written) in
    record {
      spells =
          subst (λ (l : List Operation). SpellsProgram order h l bytes)
          (sym (ap (λ (s : Standing Operation). s.found) found)) spelled;
      all = ap (λ (s : Standing Operation). s.rest) found;
      same = ap (λ (s : Standing Operation). matrix h s.found) found ∙ rows_are
          ∙ run_rows h rows None base params.usable.operations fits (starts_somewhere h params.usable.operations);
    }

-- ---- the unit

module _ (h : HeaderData) (sound : IsSoundHeader h) where
  sound_params : IsParams h.params
  sound_params = record { usable = usable h.params h.directories h.files sound.params; line_base = sound.line_base }

nothing_left : (b : Bool) (f : EmitFault) (o : Option EmitFault) → option_or o (unless b f) ≡ None
    → (o ≡ None) × (b ≡ true)
nothing_left true f None e = (refl, refl)
nothing_left false f None e = absurd cc
nothing_left b f (Some g) e = absurd cc

pub unit_is_read_again : UnitIsReadAgain
unit_is_read_again dialect h rows sound row none =
    let count = program_len h.params rows in
    let program = program_bytes dialect.order h.params rows in
    let t = nothing_left (is_within_limit h count) fault.TooLong (rows_refusal h.params rows) none in
    let size = length-unit h rows dialect.order in
    let again = program_is_read_again dialect.order h.params rows (sound_params h sound) row t.0 in
    let own = accepted_version h.params rows t.0 in
    let whole =
    length_is_written dialect h count program sound own t.1 ∙ ap (λ (n : ℕ). let o : Option ℕ = Some n in o)
    (sym size) in
    let header = header_is_written dialect h count sound own t.1 in
    let unit : IsOwnUnit dialect h (operations_in dialect.order h.params program).found
    (unit_of dialect.order h rows) = record {
      its_length = (length_is_computed dialect (unit_of dialect.order h rows)).1 whole;
      header = header_bytes dialect.order h count;
      program = program;
      whole = refl;
      spells_header = header;
      spells_program = again.spells;
    } in
    record {
      unit = unit;
      events_are =
          unit_comes_to dialect h (operations_in dialect.order h.params program).found
          (unit_of dialect.order h rows) unit ∙ ap (λ (l : List Row). event.Header ∷ map event.Row l) again.same;
      whole = whole;
      header = header_is_found dialect h (header_bytes dialect.order h count) program header;
      program = again;
    }
