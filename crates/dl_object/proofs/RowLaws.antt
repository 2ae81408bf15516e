-- The rows of what is left of a program.
use Rattle.std.proofs.Common.{◌≡◌, ℕ, ◌+◌, ◌≤◌, Bool, true, false, cond, List, [], ◌∷◌, ◌++◌, length, map, refl, sym}
use Rattle.std.proofs.Common.{ap, subst}
use Rattle.std.proofs.Common.{◌∙◌, arith, append_assoc, append-nil}
use Rattle.std.proofs.lemmas.List.{map-append}
use Rattle.std.specs.List.{AllByRecursion}
use Rattle.dl_num.specs.declared.fixed.Order.{Order}
use Rattle.dl_num.specs.Front.{IsCut}
use Rattle.dl_field.specs.declared.params.Params.{Params}
use Rattle.dl_reloc.specs.declared.placed.Placed.{Placed}
use Rattle.dl_rows.specs.declared.operation.Operation.{Operation}
use Rattle.dl_rows.specs.declared.row.Row.{Row}
use Rattle.dl_rows.specs.Matrix.{matrix}
use Rattle.dl_rows.specs.Sums.{FitsProgram}
use Rattle.dl_rows.proofs.HeaderParams.{header_fits}
use Rattle.dl_object.specs.Sequences.{Spelled, spelled, spelled_in, bytes_of, sequences}
use Rattle.dl_object.specs.Kept.{section_of, is_same, program_kept}
use Rattle.dl_object.specs.Laws.{RowsOfSection, rows_alone, rows_kept}
use Rattle.dl_object.proofs.LeftOperations.{AllGood, IsGoodSequence, good_append, cut_good, cut_build, operations_are}
use Rattle.dl_object.proofs.LeftOperations.{good_cut, left_of}
use Rattle.dl_object.proofs.LeftOperations.{sequence_left, left_bytes, left_good}
use Rattle.dl_object.proofs.MachineRows.{machine_rows, start, Ranged, matrix_is, sequence_rows}
use Rattle.dl_object.proofs.RunLemmas.{cut_of}

abbrev operations : List Spelled → List Operation
operations s = map (λ o. o.operation) s

good_ranged : (order : Order) (h : Params) (s : List Spelled) → AllGood order h s → Ranged (operations s)
good_ranged order h [] all = tt
good_ranged order h (o ∷ s) all = (all.0.1, good_ranged order h s all.1)

module _ (order : Order) (h : Params) (fits : FitsProgram h) (places : List Placed) (section : ℕ) where
  -- a sequence, and what follows it
  alone : (s : List Spelled) (more : List Operation) → IsGoodSequence order h s
      → machine_rows h (start h) (operations s ++ more) ≡ rows_alone h s ++ machine_rows h (start h) more
  alone s more good =
      let front = good.0.front in
      let last = good.0.last in
      let split : operations s ≡ operations front ++ last.operation ∷ [] =
      ap operations good.0.is ∙ map-append (λ o. o.operation) front (last ∷ []) in
      ap (λ (z : List Operation). machine_rows h (start h) (z ++ more)) split
      ∙ sequence_rows h (start h) (operations front) last.operation more good.0.ends
      ∙ ap (λ (z : List Operation). machine_rows h (start h) z ++ machine_rows h (start h) more) (sym split)
      ∙ ap (λ (z : List Row). z ++ machine_rows h (start h) more)
      (sym (matrix_is h fits (operations s) (good_ranged order h s good.1)))

  left_one : (same : Bool) (s : List Spelled) (more : List Operation) → IsGoodSequence order h s
      → machine_rows h (start h) (operations (sequence_left order h places section same s) ++ more)
      ≡ cond same (rows_alone h s) [] ++ machine_rows h (start h) more
  left_one true s more good = alone s more good
  left_one false s more good = refl

  left_rows : (at : ℕ) (whole : List (List Spelled)) (begun : List Spelled)
      → AllByRecursion (IsGoodSequence order h) whole
      → machine_rows h (start h) (operations (left_of order h places section at whole ++ begun))
      ≡ rows_kept h places section at whole ++ machine_rows h (start h) (operations begun)
  left_rows at [] begun all = refl
  left_rows at (s ∷ more) begun all =
      let same = is_same section (section_of h places at s) in
      let first = sequence_left order h places section same s in
      let next = at + length (bytes_of s) in
      let left = left_of order h places section next more in
      ap (λ (z : List Spelled). machine_rows h (start h) (operations z)) (append_assoc first left begun)
      ∙ ap (machine_rows h (start h)) (map-append (λ o. o.operation) first (left ++ begun))
      ∙ left_one same s (operations (left ++ begun)) all.0
      ∙ ap (λ (z : List Row). cond same (rows_alone h s) [] ++ z) (left_rows next more begun all.1)
      ∙ sym (append_assoc (cond same (rows_alone h s) []) (rows_kept h places section next more)
      (machine_rows h (start h) (operations begun)))

pub rows_of_section : RowsOfSection
rows_of_section dialect h head program places section at all bytes is =
    let p = h.params in
    let good = header_fits dialect h head all is in
    let fits : FitsProgram p = record { usable = good.0; line_base = good.1 } in
    let some : 1 ≤ p.opcode_base = omega (arith, good.0.opcodes) in
    let found = spelled_in dialect.order p program in
    let cut = sequences found.found in
    let parts = cut_good dialect.order p good.0 found.found program found.rest bytes (cut_of dialect.order p program) in
    let goods = good_cut dialect.order p [] found.found tt tt parts.0 in
    let left = left_of dialect.order p places section at cut.whole in
    let last : IsCut (spelled dialect.order p) (bytes_of cut.begun ++ found.rest) cut.begun found.rest =
    subst (λ (z : List Spelled). IsCut (spelled dialect.order p) (bytes_of cut.begun ++ found.rest) z found.rest)
    (append-nil cut.begun)
    (cut_build dialect.order p cut.begun found.rest [] found.rest goods.begun (refl, parts.1)) in
    let lefts = left_good dialect.order p places section some at cut.whole goods.whole in
    let kept : IsCut (spelled dialect.order p) (program_kept dialect.order p places section at program)
    (left ++ cut.begun) found.rest =
    subst (λ (z : List ℕ). IsCut (spelled dialect.order p) (z ++ (bytes_of cut.begun ++ found.rest))
    (left ++ cut.begun) found.rest)
    (left_bytes dialect.order p places section at cut.whole)
    (cut_build dialect.order p left (bytes_of cut.begun ++ found.rest) cut.begun found.rest lefts last) in
    ap (matrix p) (operations_are dialect.order p (program_kept dialect.order p places section at program)
    (left ++ cut.begun) found.rest kept) ∙ matrix_is p fits (operations (left ++ cut.begun))
    (good_ranged dialect.order p (left ++ cut.begun) (good_append dialect.order p left cut.begun lefts goods.begun))
    ∙ left_rows dialect.order p fits places section at cut.whole cut.begun goods.whole
    ∙ ap (λ (z : List Row). rows_kept p places section at cut.whole ++ z)
    (sym (matrix_is p fits (operations cut.begun) (good_ranged dialect.order p cut.begun goods.begun)))
