-- The rows of a unit are in the range of its params, so that it isn't written only where it is too long.
use Rattle.dl_sections.proofs.Names.{if◌then◌else◌, ◌%◌, ◌*◌, ◌++◌, ◌+◌, ◌^◌, ◌∙◌, ◌∷◌, ◌≡◌, ◌≤◌, [], address, ap}
use Rattle.dl_sections.proofs.Names.{appends_row, arith, Bool, Dialect, EmitFault, eq-eqb, false, found_is_header, fresh}
use Rattle.dl_sections.proofs.Names.{header_is_usable, header_of, HeaderData, is_end, is_in_range, is_within_limit}
use Rattle.dl_sections.proofs.Names.{IsHeader, last_part, List, lt-ltb, Made, mod-lt, moves, None, op_index, Operation}
use Rattle.dl_sections.proofs.Names.{operations_in, Option, option_or, out_of_range, Params, params_are, parts, pow_pos}
use Rattle.dl_sections.proofs.Names.{program_len, refl, refusal, Row, row, row_from, rows_later, rows_refusal, sequence}
use Rattle.dl_sections.proofs.Names.{Some, sym, to_5, TooLong, true, unit_rows, unless, with_standard_opcodes, ℕ}
use Rattle.dl_sections.proofs.Names.emit
use Rattle.dl_rows.specs.Matrix.{rows_after}
use Rattle.dl_sections.proofs.EventLemmas.{header_parts}
use Rattle.dl_sections.proofs.Fronts.{none_is_some, value_same}

-- what is made of a header of a unit is of version 5 with standard opcodes, and has the ranges of the unit's rows
pub record KeepsRange (h made : Params) : Type 0 where
  pub version : made.version ≡ 5
  pub opcodes : made.opcode_base ≡ 13
  pub operations : made.maximum_operations_per_instruction ≡ h.maximum_operations_per_instruction
  pub address_size : made.address_size ≡ h.address_size

module _ (h its_params : Params) (keeps : KeepsRange h its_params)
    (some : 1 ≤ h.maximum_operations_per_instruction) where
  row_in_range : (s f : List Operation) (end : Bool) → is_in_range its_params (row_from h s f end) ≡ true
  row_in_range s f end =
      let most = h.maximum_operations_per_instruction in
      let size = 2 ^ (8 * h.address_size) in
      rw (keeps.operations, keeps.address_size)
      (rw (
        lt-ltb (op_index h s) most (mod-lt (last_part (parts h (moves s))) (omega (arith, some))),
        lt-ltb (address h s % size) size (mod-lt (address h s) (pow_pos (8 * h.address_size))),
      ) refl)

  none_out : (i : ℕ) (front os : List Operation) → out_of_range its_params i (rows_after h front os) ≡ None
  none_out i front [] = refl
  none_out i front (o ∷ os) =
      let tail = rows_after h (front ++ o ∷ []) os in
      elim (appends_row o)
      as (λ b. out_of_range its_params i (if b then row h front o ∷ tail else tail) ≡ None) [
        | true ↦ rw (row_in_range (sequence front o) (fresh front o) (is_end o)) (none_out (i + 1) (front ++ o ∷ []) os)
        | false ↦ none_out i (front ++ o ∷ []) os
      ]

length_alone : (b : Bool) (f : EmitFault) → unless b emit.TooLong ≡ Some f → f ≡ emit.TooLong
length_alone true f e = absurd (none_is_some e)
length_alone false f e = value_same f emit.TooLong (sym e)

refused_rows : (std : HeaderData) (rows : List Row) (f : EmitFault) → std.params.version ≡ 5
    → std.params.opcode_base ≡ 13 → out_of_range std.params 0 rows ≡ None → refusal std rows ≡ Some f
    → f ≡ emit.TooLong
refused_rows std rows f own opcodes none e =
    let within = is_within_limit std (program_len std.params rows) in
    let all : rows_refusal std.params rows ≡ None =
    rw (eq-eqb std.params.version 5 own, eq-eqb std.params.opcode_base 13 opcodes) none in
    length_alone within f (sym (ap (λ (o : Option EmitFault). option_or o (unless within emit.TooLong)) all) ∙ e)

-- so it is of each header that is read, wherever its unit stands
abbrev pub KeepsRanges : Dialect → Made → Type 0
KeepsRanges dialect made =
    (offset : ℕ) (h : HeaderData) (w : List ℕ) → IsHeader dialect h w → KeepsRange h.params (made offset h).params

-- where each header that is read is of version 5, its standard opcodes alone are changed
pub standard_keeps : (dialect : Dialect)
    → ((h : HeaderData) (w : List ℕ) → IsHeader dialect h w → h.params.version ≡ 5)
    → KeepsRanges dialect (λ offset h. with_standard_opcodes h)
standard_keeps dialect alone offset h w is =
    record { version = alone h w is; opcodes = refl; operations = refl; address_size = refl }

-- so it is in version 5
pub to_5_keeps : (dialect : Dialect) (directories : ℕ → Option (List ℕ)) → KeepsRanges dialect (to_5 directories)
to_5_keeps dialect directories offset h w is =
    let same = params_are h (directories offset) in
    record {
      version = ap (λ (p : Params). p.version) same;
      opcodes = refl;
      operations = ap (λ (p : Params). p.maximum_operations_per_instruction) same;
      address_size = ap (λ (p : Params). p.address_size) same;
    }

-- a unit that was read is refused for its length alone
pub too_long : (dialect : Dialect) (made : Made) → KeepsRanges dialect made → (offset : ℕ)
    (u : List ℕ) (h : HeaderData) (f : EmitFault) → header_of dialect u ≡ Some h
    → refusal (made offset h) (unit_rows dialect u) ≡ Some f → f ≡ emit.TooLong
too_long dialect made keeps offset u h f is refused =
    let parts = header_parts dialect u h is in
    let w = found_is_header dialect h u parts.0 parts.1 in
    let usable = header_is_usable dialect h w.0 w.2 in
    let range = keeps offset h w.0 w.2 in
    refused_rows (made offset h) (rows_later dialect.order (Some (h, parts.0))) f range.version range.opcodes
    (none_out h.params (made offset h).params range usable.operations 0 []
    (operations_in dialect.order h.params parts.0).found) (rw parts.1 at refused)
