-- The laws of programs: what is cut off the front of bytes is the program that stands there, and has few rows.
use Rattle.std.proofs.Common.{◌≡◌, ℕ, ◌≤◌, List, [], ◌∷◌, ◌++◌, length, Option, Some, None}
use Rattle.std.proofs.Common.{refl, sym, ap, ◌∙◌, arith, append_assoc, inl, inr}
use Rattle.std.proofs.lemmas.Bool.{cases_Bool}
use Rattle.std.proofs.lemmas.List.{append-nil}
use Rattle.dl_num.specs.declared.fixed.Order.{Order}
use Rattle.dl_num.specs.Front.{SpellsNowhere, SpellsFirst, IsCut, Standing, standing_after}
use Rattle.dl_num.proofs.FrontLemmas.{standing_on, one_cut}
use Rattle.dl_field.specs.declared.params.Params.{Params}
use Rattle.dl_table.specs.Value.{Judgement, good}
use Rattle.dl_rows.specs.declared.operation.Operation.{Operation}
use Rattle.dl_rows.specs.OperationSpelt.{operation_spelt, good_one, operations_in}
use Rattle.dl_rows.specs.Spelling.{SpellsOperation, SpellsProgram}
use Rattle.dl_rows.specs.Matrix.{appends_row, rows_after}
use Rattle.dl_rows.specs.Laws.{OneProgram, ProgramIsFound, FoundIsProgram, NoneBeginsRest, RowForByte}
use Rattle.dl_rows.proofs.SpeltFirst.{spells_first}
use Rattle.dl_rows.proofs.OperationLaws.{spelt_is_spelled}

-- the operation that bytes spell, if they do
abbrev pub spelt : Order → Params → List ℕ → Option Operation
spelt order h w = good_one (operation_spelt order h w)

first_of : (order : Order) (h : Params) (o : Operation) (w : List ℕ) → 1 ≤ h.opcode_base → SpellsOperation order h o w
    → SpellsFirst (spelt order h) w o
first_of order h o w some s =
    let f = spells_first order h o w some s in
    record { spells = ap good_one f.spells; shortest = λ front x back e. ap good_one (f.shortest front x back e) }

good_one_is : (j : Judgement Operation) (o : Operation) → good_one j ≡ Some o → j ≡ good o
good_one_is j o e = grind arith

-- a program, and then what is cut off the bytes after it
pub program_cut : (order : Order) (h : Params) (p : List Operation) (w v : List ℕ) (found : List Operation)
    (rest : List ℕ) → 1 ≤ h.opcode_base
    → SpellsProgram order h p w → IsCut (spelt order h) v found rest → IsCut (spelt order h) (w ++ v) (p ++ found) rest
program_cut order h [] w v found rest some e c = rw e c
program_cut order h (o ∷ p) w v found rest some (front, back, e, s, q) c = (
  front,
  back ++ v,
  ap (λ (z : List ℕ). z ++ v) e ∙ append_assoc front back v,
  first_of order h o front some s,
  program_cut order h p back v found rest some q c,
)

-- the computed cut
cut_of : (order : Order) (h : Params) (b : List ℕ)
    → IsCut (spelt order h) b (operations_in order h b).found (operations_in order h b).rest
cut_of order h b =
    (one_cut Operation (spelt order h) b (operations_in order h b).found (operations_in order h b).rest refl).1 refl

pub program_is_found : ProgramIsFound
program_is_found order h p w v some s =
    let t = operations_in order h v in
    (one_cut Operation (spelt order h) (w ++ v) (p ++ t.found) t.rest refl).0
    (program_cut order h p w v t.found t.rest some s (cut_of order h v))

pub one_program : OneProgram
one_program order h p q w some s t =
    let a = program_is_found order h p w [] some s in
    let b = program_is_found order h q w [] some t in
    let e : p ++ [] ≡ q ++ [] = ap (λ (f : Standing Operation). f.found) (sym a ∙ b) in
    sym (append-nil p) ∙ e ∙ append-nil q

cut_program : (order : Order) (h : Params) (found : List Operation) (b rest : List ℕ) → 1 ≤ h.opcode_base
    → IsCut (spelt order h) b found rest
    → (w : List ℕ) × (b ≡ w ++ rest) × SpellsProgram order h found w
cut_program order h [] b rest some c = ([], c.0, refl)
cut_program order h (o ∷ found) b rest some (front, v, e, first, c) =
    let r = cut_program order h found v rest some c in (
      front ++ r.0,
      e ∙ ap (λ (z : List ℕ). front ++ z) r.1 ∙ sym (append_assoc front r.0 rest),
      (
        front,
        r.0,
        refl,
        (spelt_is_spelled order h o front some).1 (good_one_is (operation_spelt order h front) o first.spells),
        r.2,
      ),
    )

pub found_is_program : FoundIsProgram
found_is_program order h b some =
    cut_program order h (operations_in order h b).found b (operations_in order h b).rest some (cut_of order h b)

cut_nowhere : (order : Order) (h : Params) (found : List Operation) (b rest : List ℕ)
    → IsCut (spelt order h) b found rest → SpellsNowhere (spelt order h) rest
cut_nowhere order h [] b rest c = c.1
cut_nowhere order h (o ∷ found) b rest (front, v, e, first, c) = cut_nowhere order h found v rest c

pub none_begins_rest : NoneBeginsRest
none_begins_rest order h b o w v some e s =
    let none =
    cut_nowhere order h (operations_in order h b).found b (operations_in order h b).rest (cut_of order h b) w v e in
    let f : ◌≡◌ {A = Option Operation} (Some o) None =
    sym (ap good_one ((spelt_is_spelled order h o w some).0 s)) ∙ none in absurd cc

-- ---- few rows

-- each thing that is found takes a byte
found_le : {A : Type 0} (spells : List ℕ → Option A) (begun b : List ℕ)
    → length (standing_after spells begun b).found ≤ length b
found_le spells begun [] = omega arith
found_le {A = A} spells begun (x ∷ b) =
    let later = found_le spells [] b in
    let on = found_le spells (begun ++ x ∷ []) b in
    elim (spells (begun ++ x ∷ [])) as (λ o. length (standing_on spells (begun ++ x ∷ []) o b).found ≤ length (x ∷ b)) [
      | Some a ↦ omega arith
      | None ↦ omega arith
    ]

-- and each row an operation
rows_le : (h : Params) (front os : List Operation) → length (rows_after h front os) ≤ length os
rows_le h front [] = omega arith
rows_le h front (o ∷ os) =
    let later = rows_le h (front ++ o ∷ []) os in
    elim (cases_Bool (appends_row o)) [ inl t ↦ rw t (omega arith) | inr f ↦ rw f (omega arith) ]

pub a_row_for_a_byte : RowForByte
a_row_for_a_byte order h b =
    let rows = rows_le h [] (operations_in order h b).found in
    let found = found_le (spelt order h) [] b in
    omega arith
