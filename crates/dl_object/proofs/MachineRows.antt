-- The rows of a program, by the registers of the state machine: a sequence begins where they are as at the start.
use Rattle.std.proofs.Common.{◌≡◌, true, false, not, cond, ◌==◌, List, [], ◌∷◌, ◌++◌, refl, sym, ap, subst, ◌∙◌}
use Rattle.std.specs.List.{AllByRecursion}
use Rattle.dl_field.specs.declared.params.Params.{Params}
use Rattle.dl_rows.specs.declared.operation.Operation.{Operation}
use Rattle.dl_rows.specs.declared.operation.Operation.TheVariants as op
use Rattle.dl_rows.specs.declared.registers.Registers.{Registers}
use Rattle.dl_rows.specs.declared.row.Row.{Row}
use Rattle.dl_rows.specs.Machine.{initial, applied, row_of}
use Rattle.dl_rows.specs.Matrix.{is_end, appends_row, row, rows_after, matrix}
use Rattle.dl_rows.specs.Sums.{FitsProgram, HasRange, registers_after, settled}
use Rattle.dl_rows.proofs.RegisterLemmas.{row_is, registers_after-push, starts}
use Rattle.dl_object.proofs.FrontLemmas.{is_end_of}

-- the rows of operations from these registers on
abbrev pub machine_rows : Params → Registers → List Operation → List Row
machine_rows h r [] = []
machine_rows h r (o ∷ os) =
    let later = machine_rows h (settled h o (applied h r o)) os in
    cond (appends_row o) (row_of h (applied h r o) (is_end o) ∷ later) later

abbrev pub start : Params → Registers
start h = initial (not (h.default_is_stmt == 0))

abbrev pub Ranged : List Operation → Type 0
Ranged os = AllByRecursion HasRange os

rows_after_are : (h : Params) → FitsProgram h → (front os : List Operation) → Ranged os
    → rows_after h front os ≡ machine_rows h (registers_after h front) os
rows_after_are h fits front [] all = refl
rows_after_are h fits front (o ∷ os) all =
    let later : rows_after h (front ++ o ∷ []) os
    ≡ machine_rows h (settled h o (applied h (registers_after h front) o)) os =
    rows_after_are h fits (front ++ o ∷ []) os all.1
    ∙ ap (λ (r : Registers). machine_rows h r os) (registers_after-push h front o fits all.0) in
    ap (λ (rows : List Row). cond (appends_row o) (row h front o ∷ rows) rows) later
    ∙ ap (λ (r : Row). cond (appends_row o) (r ∷ machine_rows h (settled h o (applied h (registers_after h front) o)) os)
    (machine_rows h (settled h o (applied h (registers_after h front) o)) os)) (sym (row_is h front o fits all.0))

pub matrix_is : (h : Params) → FitsProgram h → (os : List Operation) → Ranged os
    → matrix h os ≡ machine_rows h (start h) os
matrix_is h fits os all =
    rows_after_are h fits [] os all ∙ ap (λ (r : Registers). machine_rows h r os) (sym (starts h))

ends_rows : (h : Params) (r : Registers) (o : Operation) (more : List Operation) → o ≡ op.EndSequence
    → machine_rows h r (o ∷ more) ≡ machine_rows h r (o ∷ []) ++ machine_rows h (start h) more
ends_rows h r o more e =
    subst (λ (p : Operation). machine_rows h r (p ∷ more) ≡ machine_rows h r (p ∷ []) ++ machine_rows h (start h) more)
    (sym e) refl

-- after the end of a sequence
pub sequence_rows : (h : Params) (r : Registers) (front : List Operation) (last : Operation) (more : List Operation)
    → is_end last ≡ true
    → machine_rows h r ((front ++ last ∷ []) ++ more)
    ≡ machine_rows h r (front ++ last ∷ []) ++ machine_rows h (start h) more
sequence_rows h r [] last more e = ends_rows h r last more (is_end_of last e)
sequence_rows h r (o ∷ front) last more e =
    let s = settled h o (applied h r o) in
    let a = row_of h (applied h r o) (is_end o) in
    let later = sequence_rows h s front last more e in
    elim (appends_row o) as (λ b.
    cond b (a ∷ machine_rows h s ((front ++ last ∷ []) ++ more)) (machine_rows h s ((front ++ last ∷ []) ++ more))
    ≡ cond b (a ∷ machine_rows h s (front ++ last ∷ [])) (machine_rows h s (front ++ last ∷ []))
    ++ machine_rows h (start h) more) [
      | true ↦ ap (λ (rows : List Row). a ∷ rows) later
      | false ↦ later
    ]
