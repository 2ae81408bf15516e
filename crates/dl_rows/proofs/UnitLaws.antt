-- The laws of units and refusals that need no more than those of headers and programs.
use Rattle.std.proofs.Common.{◌≡◌, ℕ, List, [], length, Option, Some, None, sym, ap, ◌∙◌, arith, inl, inr, append-nil}
use Rattle.dl_head.specs.declared.dialect.Dialect.{Dialect}
use Rattle.dl_num.specs.Front.{Standing}
use Rattle.dl_table.specs.declared.fault.FaultKind.{FaultKind}
use Rattle.dl_field.specs.HeaderData.{HeaderData}
use Rattle.dl_head.specs.Header.{foreign_in, header_in}
use Rattle.dl_field.proofs.FieldLemmas.{none_some}
use Rattle.dl_head.proofs.FrontLemmas.{GoesOn, fronts}
use Rattle.dl_head.proofs.HeaderLaws.{header_is_found, header_is_not_foreign}
use Rattle.dl_rows.specs.declared.operation.Operation.{Operation}
use Rattle.dl_rows.specs.OperationSpelt.{operations_in}
use Rattle.dl_rows.specs.LineUnit.{rows_later}
use Rattle.dl_rows.specs.Refusal.{Refused}
use Rattle.dl_rows.specs.UnitLaws.{ForeignComesTo, UnitComesTo, OneRefusal, RowForProgramByte}
use Rattle.dl_rows.proofs.HeaderParams.{header_is_usable}
use Rattle.dl_rows.proofs.ProgramLaws.{program_is_found, a_row_for_a_byte}
use Rattle.dl_rows.proofs.UnitLengths.{foreign_of}

pub foreign_comes_to : ForeignComesTo
foreign_comes_to dialect version u is = rw (foreign_of dialect version u is)

pub unit_comes_to : UnitComesTo
unit_comes_to dialect h p u is =
    let opcodes = (header_is_usable dialect h is.header is.spells_header).opcodes in
    let own : foreign_in dialect u ≡ None =
    ap (foreign_in dialect) is.whole ∙ header_is_not_foreign dialect h is.header is.program is.spells_header in
    let parts : header_in dialect u ≡ Some (h, is.program) =
    ap (header_in dialect) is.whole ∙ header_is_found dialect h is.header is.program is.spells_header in
    let found = program_is_found dialect.order h.params p is.program [] (omega arith) is.spells_program in
    let operations : (operations_in dialect.order h.params is.program).found ≡ p =
    rw (append-nil p, append-nil is.program) at (ap (λ (s : Standing Operation). s.found) found) in
    rw (own, parts, operations)

not_longer : (dialect : Dialect) (b c : List ℕ) (at at2 : ℕ) (kind kind2 : FaultKind) → Refused dialect b at kind
    → Refused dialect c at2 kind2 → GoesOn b c → ⊥
not_longer dialect b c at at2 kind kind2 r s g = none_some (s.shortest b g.0 g.1 g.2) r.decided

same_refusal : (dialect : Dialect) (b : List ℕ) (at at2 : ℕ) (kind kind2 : FaultKind) → Refused dialect b at kind
    → Refused dialect b at2 kind2 → (at ≡ at2) × (kind ≡ kind2)
same_refusal dialect b at at2 kind kind2 r s =
    let same : ◌≡◌ {A = Option FaultKind} (Some kind) (Some kind2) = sym r.decided ∙ s.decided in
    (omega (arith, r.place, s.place), cc)

pub one_refusal : OneRefusal
one_refusal dialect b c v u at at2 kind kind2 e r s = elim (fronts b c v u e) [
  | inl same ↦
      let t = same_refusal dialect c at at2 kind kind2 (rw same at r) s in (same, t.0, t.1)
  | inr (inl g) ↦ absurd (not_longer dialect b c at at2 kind kind2 r s g)
  | inr (inr g) ↦ absurd (not_longer dialect c b at2 at kind2 kind s r g)
]

pub row_for_program_byte : RowForProgramByte
row_for_program_byte dialect b h program e =
    let few = a_row_for_a_byte dialect.order h.params program in
    let rows = ap (λ (o : Option (HeaderData × List ℕ)). length (rows_later dialect.order o)) e in
    omega (arith, few, rows)
