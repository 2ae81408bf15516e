-- The rows of a program by its registers, operation after operation.
use Rattle.std.proofs.Common.{◌≡◌, Bool, true, false, not, ◌==◌, if◌then◌else◌, List, [], ◌∷◌, ◌++◌, refl, sym, ap, ◌∙◌}
use Rattle.std.proofs.Common.{append_assoc}
use Rattle.std.proofs.lemmas.List.{append-nil}
use Rattle.std.specs.List.{AllByRecursion}
use Rattle.dl_field.specs.declared.params.Params.{Params}
use Rattle.dl_rows.specs.declared.registers.Registers.{Registers}
use Rattle.dl_rows.specs.declared.row.Row.{Row}
use Rattle.dl_rows.specs.declared.operation.Operation.{Operation}
use Rattle.dl_rows.specs.Matrix.{is_end, appends_row, row, matrix}
use Rattle.dl_rows.specs.Machine.{initial, applied, row_of}
use Rattle.dl_rows.specs.Sums.{registers_after, settled, HasRange, FitsProgram}
use Rattle.dl_rows.proofs.RegisterLemmas.{matrix-push, registers_after-push, row_is, starts}

-- the rows from these registers on
abbrev pub run : Params → Registers → List Operation → List Row
run h q [] = []
run h q (o ∷ os) =
    (if appends_row o then row_of h (applied h q o) (is_end o) ∷ [] else []) ++ run h (settled h o (applied h q o)) os

one_more : (b : Bool) (rows rest : List Row) (r s : Row) → r ≡ s
    → (rows ++ (if b then s ∷ [] else [])) ++ rest ≡ rows ++ ((if b then r ∷ [] else []) ++ rest)
one_more true rows rest r s e = rw e (append_assoc rows (s ∷ []) rest)
one_more false rows rest r s e = append_assoc rows [] rest

matrix_runs : (h : Params) → FitsProgram h → (front os : List Operation) → AllByRecursion HasRange os
    → matrix h (front ++ os) ≡ matrix h front ++ run h (registers_after h front) os
matrix_runs h fits front [] range = rw (append-nil front, append-nil (matrix h front)) refl
matrix_runs h fits front (o ∷ os) range =
    let next : matrix h ((front ++ o ∷ []) ++ os) ≡ matrix h (front ++ o ∷ [])
    ++ run h (registers_after h (front ++ o ∷ [])) os = matrix_runs h fits (front ++ o ∷ []) os range.1 in
    let made = row_is h front o fits range.0 in
    let regrouped = append_assoc front (o ∷ []) os in
    sym (ap (matrix h) regrouped) ∙ next
    ∙ rw (matrix-push h front o, registers_after-push h front o fits range.0)
    (one_more (appends_row o) (matrix h front) (run h (settled h o (applied h (registers_after h front) o)) os)
    (row_of h (applied h (registers_after h front) o) (is_end o)) (row h front o) made)

-- the rows of a program
pub matrix_is_run : (h : Params) → FitsProgram h → (os : List Operation) → AllByRecursion HasRange os
    → matrix h os ≡ run h (initial (not (h.default_is_stmt == 0))) os
matrix_is_run h fits os range = rw (starts h) (matrix_runs h fits [] os range)
