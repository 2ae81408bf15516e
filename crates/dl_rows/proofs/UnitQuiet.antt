-- No front of a unit is refused.
use Rattle.dl_head.specs.declared.dialect.Dialect.{Dialect}
use Rattle.std.proofs.Common.{◌≡◌, ◌≢◌, ℕ, ◌+◌, ◌≤◌, List, [], ◌∷◌, ◌++◌, length, Option, Some, None, Err, refl, sym}
use Rattle.std.proofs.Common.{ap, ◌∙◌, arith, inl, inr, length-append, append_assoc, append-nil}
use Rattle.std.proofs.lemmas.Bool.{ne_eqb}
use Rattle.dl_num.specs.declared.fixed.Order.{Order}
use Rattle.dl_num.specs.Front.{Standing}
use Rattle.dl_table.specs.declared.fault.FaultKind.{FaultKind}
use Rattle.dl_table.specs.declared.fault.FaultKind.TheVariants as fault
use Rattle.dl_field.specs.declared.params.Params.{Params}
use Rattle.dl_field.specs.HeaderData.{HeaderData}
use Rattle.dl_table.specs.Value.{Judgement}
use Rattle.dl_head.specs.Header.{unit_len, foreign_in, header_in}
use Rattle.dl_head.specs.Refusal.{or_else, bad_kind, at_end}
use Rattle.dl_field.proofs.FieldLemmas.{none_some}
use Rattle.dl_head.proofs.FrontLemmas.{fronts, after_front}
use Rattle.dl_head.proofs.HeaderLaws.{found_is_header, header_is_found, header_is_not_foreign}
use Rattle.dl_head.proofs.QuietLemmas.{header_is_not_refused, foreign_is_not_refused}
use Rattle.dl_rows.specs.declared.operation.Operation.{Operation}
use Rattle.dl_rows.specs.OperationSpelt.{operation_spelt, operations_in}
use Rattle.dl_rows.specs.Spelling.{SpellsOperation, SpellsProgram}
use Rattle.dl_rows.specs.LineUnit.{IsOwnUnit, IsUnit}
use Rattle.dl_rows.specs.Refusal.{operation_decided, decided_after, unit_decided, Refused}
use Rattle.dl_rows.proofs.HeaderParams.{header_is_usable}
use Rattle.dl_rows.proofs.OperationLaws.{bad_is_faulty, no_spelling_is_faulty}
use Rattle.dl_rows.proofs.ProgramLaws.{program_is_found, found_is_program, none_begins_rest}
use Rattle.dl_rows.proofs.UnitLemmas.{header_on, unit_len_on, refused_in_header}
use Rattle.dl_rows.proofs.UnitLengths.{length_of_unit, foreign_of}

-- ---- the bytes of the current operation, and what they decide

-- w isn't bad
abbrev pub NotBad : Order → Params → List ℕ → Type 0
NotBad order h w = (k : FaultKind) → operation_spelt order h w ≡ Some (Err k) → ⊥

pub bad_decides : (order : Order) (h : Params) (w : List ℕ) (n : ℕ) (end : Option ℕ) (k : FaultKind)
    → operation_spelt order h w ≡ Some (Err k) → operation_decided order h w n end ≡ Some k
bad_decides order h [] n end k e = absurd (none_some refl e)
bad_decides order h (x ∷ w) n end k e = rw e

-- where they aren't bad, the unit's end decides
pub end_decides : (order : Order) (h : Params) (w : List ℕ) (n : ℕ) (end : Option ℕ) → w ≢ [] → NotBad order h w
    → operation_decided order h w n end ≡ at_end fault.OpcodeOverrun n end
end_decides order h [] n end some not_bad = absurd (some refl)
end_decides order h (x ∷ w) n end some not_bad = on (operation_spelt order h (x ∷ w)) refl where
  on : (j : Judgement Operation) → operation_spelt order h (x ∷ w) ≡ j
      → or_else (bad_kind j) (at_end fault.OpcodeOverrun n end) ≡ at_end fault.OpcodeOverrun n end
  on (Some (Err k)) e = absurd (not_bad k e)
  on other e = refl

-- nor does that, where it doesn't come in them
pub nothing_decides : (order : Order) (h : Params) (w : List ℕ) (n : ℕ) (end : Option ℕ) → NotBad order h w
    → (end ≡ Some n → w ≡ []) → operation_decided order h w n end ≡ None
nothing_decides order h [] n end not_bad ends = refl
nothing_decides order h (x ∷ w) n None not_bad ends = end_decides order h (x ∷ w) n None (λ e. absurd cc) not_bad
nothing_decides order h (x ∷ w) n (Some end) not_bad ends =
    end_decides order h (x ∷ w) n (Some end) (λ e. absurd cc) not_bad
    ∙ rw (ne_eqb n end (λ same. (let e : x ∷ w ≡ [] = ends (ap (λ (m : ℕ). Some m) (sym same)) in absurd cc)))

-- ---- fronts of a program

-- more bytes make the begun bytes an operation
record Completed (order : Order) (h : Params) (begun back : List ℕ) : Type 0 where
  operation : Operation
  byte : ℕ
  more : List ℕ
  rest : List ℕ
  bytes : back ≡ (byte ∷ more) ++ rest
  spells : SpellsOperation order h operation (begun ++ byte ∷ more)

-- the rest of a front of a program, and what follows it, is a program
rest_program : (order : Order) (h : Params) (p : List Operation) (b back : List ℕ) → 1 ≤ h.opcode_base
    → SpellsProgram order h p (b ++ back)
    → (q : List Operation) × SpellsProgram order h q ((operations_in order h b).rest ++ back)
rest_program order h p b back some s =
    let rest = (operations_in order h b).rest in
    let f = found_is_program order h b some in
    let whole : b ++ back ≡ f.0 ++ (rest ++ back) = ap (λ (z : List ℕ). z ++ back) f.1 ∙ append_assoc f.0 rest back in
    let later = program_is_found order h (operations_in order h b).found f.0 (rest ++ back) some f.2 in
    let all = program_is_found order h p (b ++ back) [] some s in
    let none : (operations_in order h (rest ++ back)).rest ≡ [] =
    ap (λ (t : Standing Operation). t.rest) (sym later
    ∙ ap (operations_in order h) (sym whole ∙ sym (append-nil (b ++ back))) ∙ all) in
    let g = found_is_program order h (rest ++ back) some in
    let same : rest ++ back ≡ g.0 = g.1 ∙ rw none (append-nil g.0) in
    ((operations_in order h (rest ++ back)).found, rw (← same) at g.2)

completed : (order : Order) (h : Params) (p : List Operation) (b back begun : List ℕ) → 1 ≤ h.opcode_base
    → SpellsProgram order h p (b ++ back) → (operations_in order h b).rest ≡ begun → 1 ≤ length begun
    → Completed order h begun back
completed order h p b back begun some s e long = on next.0 next.1 where
  next : (q : List Operation) × SpellsProgram order h q (begun ++ back)
  next = (let r = rest_program order h p b back some s in (r.0, rw e at r.1))

  -- no operation stands at the front of what is left
  none : (o : Operation) (w v : List ℕ) → begun ≡ w ++ v → SpellsOperation order h o w → ⊥
  none o w v k t = none_begins_rest order h b o w v some (e ∙ k) t

  on : (q : List Operation) → SpellsProgram order h q (begun ++ back) → Completed order h begun back
  on [] k = absurd (let l = ap length k in omega (arith, l, length-append begun back, long))
  on (o ∷ q) (front, rest, k, t, u) = elim (fronts begun front back rest k) [
    | inl same ↦ absurd (none o front [] (same ∙ sym (append-nil front)) t)
    | inr (inl goes) ↦ record {
      operation = o;
      byte = goes.0;
      more = goes.1;
      rest = rest;
      bytes = after_front begun back ((goes.0 ∷ goes.1) ++ rest) (k ∙ ap (λ (z : List ℕ). z ++ rest) goes.2
          ∙ append_assoc begun (goes.0 ∷ goes.1) rest);
      spells = rw goes.2 at t;
    }
    | inr (inr goes) ↦ absurd (none o front (goes.0 ∷ goes.1) goes.2 t)
  ]

-- a front of a program in its unit decides nothing
pub operation_quiet : (order : Order) (h : Params) (p : List Operation) (b back begun : List ℕ) (n : ℕ) (end : Option ℕ)
    → 1 ≤ h.opcode_base → SpellsProgram order h p (b ++ back)
    → (operations_in order h b).rest ≡ begun → ((e : ℕ) → end ≡ Some e → n + length back ≤ e)
    → operation_decided order h begun n end ≡ None
operation_quiet order h p b back [] n end some s e ends = refl
operation_quiet order h p b back (x ∷ w) n end some s e ends =
    let c = completed order h p b back (x ∷ w) some s e (omega arith) in
    nothing_decides order h (x ∷ w) n end
    (λ k j. no_spelling_is_faulty order h c.operation k (x ∷ w) (c.byte ∷ c.more) some c.spells
    ((bad_is_faulty order h k (x ∷ w) some).1 j).faulty)
    (λ same. absurd (omega (arith, ends n same, ap length c.bytes, length-append (c.byte ∷ c.more) c.rest)))

-- ---- fronts of a unit

pub parts_same : (g h : HeaderData) (v w : List ℕ) → ◌≡◌ {A = Option (HeaderData × List ℕ)} (Some (g, v)) (Some (h, w))
    → (g ≡ h) × (v ≡ w)
parts_same g h v w e = grind arith

-- a front with the header decides nothing
own_quiet : (dialect : Dialect) (h : HeaderData) (p : List Operation) (u front back : List ℕ) (g : HeaderData)
    (begun : List ℕ) → IsOwnUnit dialect h p u → u ≡ front ++ back
    → header_in dialect front ≡ Some (g, begun) → unit_decided dialect front ≡ None
own_quiet dialect h p u front back g begun is e found =
    let all : header_in dialect u ≡ Some (h, is.program) =
    ap (header_in dialect) is.whole ∙ header_is_found dialect h is.header is.program is.spells_header in
    let same =
    parts_same g h (begun ++ back) is.program (sym (header_on dialect front back g begun found)
    ∙ ap (header_in dialect) (sym e) ∙ all) in
    let opcodes = (header_is_usable dialect h is.header is.spells_header).opcodes in
    let program : SpellsProgram dialect.order g.params p (begun ++ back) =
    rw (same.0, same.1) is.spells_program in
    let some : 1 ≤ g.params.opcode_base = rw same.0 (omega arith) in
    ap (decided_after dialect front) found
    ∙ operation_quiet dialect.order g.params p begun back (operations_in dialect.order g.params begun).rest
    (length front)
    (unit_len dialect front) some program refl ends
  where
    ends : (n : ℕ) → unit_len dialect front ≡ Some n → length front + length back ≤ n
    ends n k =
        let len = length_of_unit dialect u (inr (h, p, is)) in
        let same : Some (length u) ≡ Some n = sym len ∙ ap (unit_len dialect) e ∙ unit_len_on dialect front back n k in
        let l : length u ≡ n = cc in
        omega (arith, l, ap length e, length-append front back)

-- no front of the bytes of a foreign unit, or of a front of one, is refused
pub foreign_quiet : (dialect : Dialect) (b : List ℕ) (version n : ℕ) → foreign_in dialect b ≡ Some version
    → unit_len dialect b ≡ Some n → length b ≤ n
    → (front back : List ℕ) (at : ℕ) (kind : FaultKind) → b ≡ front ++ back → Refused dialect front at kind → ⊥
foreign_quiet dialect b version n foreign len le front back at kind e r = on (header_in dialect front) refl where
  on : (o : Option (HeaderData × List ℕ)) → header_in dialect front ≡ o → ⊥
  on None none =
      foreign_is_not_refused dialect b front back version n at kind foreign len le e
      ((refused_in_header dialect front at kind none).0 r)
  on (Some (g, begun)) found =
      let f = found_is_header dialect g front begun found in
      none_some (header_is_not_foreign dialect g f.0 (begun ++ back) f.2)
      (ap (foreign_in dialect) (sym (append_assoc f.0 begun back) ∙ ap (λ (w : List ℕ). w ++ back) (sym f.1) ∙ sym e)
      ∙ foreign)

pub unit_is_not_refused : (dialect : Dialect) (u : List ℕ) → IsUnit dialect u
    → (front back : List ℕ) (at : ℕ) (kind : FaultKind) → u ≡ front ++ back → Refused dialect front at kind → ⊥
unit_is_not_refused dialect u (inl (v, foreign)) front back at kind e r =
    foreign_quiet dialect u v (length u) (foreign_of dialect v u foreign) (length_of_unit dialect u (inl (v, foreign)))
    (omega arith) front back at kind e r
unit_is_not_refused dialect u (inr (h, p, own)) front back at kind e r = on (header_in dialect front) refl where
  on : (o : Option (HeaderData × List ℕ)) → header_in dialect front ≡ o → ⊥
  on None none =
      header_is_not_refused dialect h own.header own.program front back at kind own.spells_header (sym own.whole
      ∙ e) ((refused_in_header dialect front at kind none).0 r)
  on (Some (g, begun)) found = none_some (own_quiet dialect h p u front back g begun own e found) r.decided
