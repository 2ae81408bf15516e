-- Bytes as long as their initial length says, of which no front is refused, are a unit.
use Rattle.dl_head.specs.declared.dialect.Dialect.{Dialect}
use Rattle.std.proofs.Common.{◌≡◌, ℕ, ◌-◌, ◌≤◌, List, [], ◌∷◌, ◌++◌, length, Option, Some, None, refl, sym, ap}
use Rattle.std.proofs.Common.{◌∙◌, arith, inl, inr, length-append, append_assoc, append-nil}
use Rattle.dl_num.specs.Front.{IsCut, standing}
use Rattle.dl_num.proofs.FrontLemmas.{one_cut}
use Rattle.dl_table.specs.declared.fault.FaultKind.{FaultKind}
use Rattle.dl_table.specs.declared.fault.FaultKind.TheVariants as fault
use Rattle.dl_field.specs.HeaderData.{HeaderData}
use Rattle.dl_head.specs.HeaderLayout.{header_layout}
use Rattle.dl_head.specs.Header.{cut, unit_len, header_end, foreign_in, header_in}
use Rattle.dl_head.specs.Refusal.{bad_kind}
use Rattle.dl_field.proofs.FieldLemmas.{none_some}
use Rattle.dl_head.proofs.CutLemmas.{cut_sound, Sound}
use Rattle.dl_head.proofs.HeaderLaws.{found_is_header}
use Rattle.dl_rows.specs.OperationSpelt.{operation_spelt, operations_in}
use Rattle.dl_rows.specs.LineUnit.{IsOwnUnit, IsUnit}
use Rattle.dl_rows.specs.Refusal.{left_after, left_over, operation_decided, unit_decided, Refused}
use Rattle.dl_rows.specs.UnitLaws.{UnitUnlessRefused}
use Rattle.dl_rows.proofs.HeaderParams.{header_is_usable}
use Rattle.dl_rows.proofs.ProgramLaws.{found_is_program}
use Rattle.dl_rows.proofs.UnitLemmas.{no_header_before, decided_in_header}
use Rattle.dl_rows.proofs.UnitLengths.{length_is_computed, foreign_unit}
use Rattle.dl_rows.proofs.UnitQuiet.{unit_is_not_refused}
use Rattle.dl_rows.proofs.UnfinishedHeaders.{decides, end_decides, up_to_header, unit_decides}

-- ---- where something is decided, a front is refused

pub left_le : (dialect : Dialect) (b : List ℕ) → length (left_over dialect b) ≤ length b
left_le dialect b = on (header_in dialect b) refl where
  on : (o : Option (HeaderData × List ℕ)) → header_in dialect b ≡ o → length (left_after dialect b o) ≤ length b
  on None e =
      let s : Sound dialect.order (header_layout dialect) b (cut dialect b) =
      cut_sound dialect.order (header_layout dialect) [] b in
      omega (arith, ap length s.whole, length-append s.front (cut dialect b).rest)
  on (Some (h, program)) e =
      let f = found_is_header dialect h b program e in
      let opcodes = (header_is_usable dialect h f.0 f.2).opcodes in
      let p = found_is_program dialect.order h.params program (omega arith) in
      omega (
        arith,
        ap length f.1,
        length-append f.0 program,
        ap length p.1,
        length-append p.0 (operations_in dialect.order h.params program).rest,
      )

-- the first front that decides anything
record RefusedFront (dialect : Dialect) (b : List ℕ) : Type 0 where
  front : List ℕ
  back : List ℕ
  at : ℕ
  kind : FaultKind
  whole : b ≡ front ++ back
  refused : Refused dialect front at kind

refused_front : (dialect : Dialect) (b : List ℕ) (kind : FaultKind) → unit_decided dialect b ≡ Some kind
    → RefusedFront dialect b
refused_front dialect b kind e =
    on (standing (unit_decided dialect) b).found ((one_cut FaultKind (unit_decided dialect) b _ _ refl).1 refl) where
      on : (found : List FaultKind) → IsCut (unit_decided dialect) b found (standing (unit_decided dialect) b).rest
          → RefusedFront dialect b
      on [] c = absurd (none_some (c.1 b [] (sym c.0 ∙ sym (append-nil b))) e)
      on (k ∷ found) (w, v, whole, first, c) = record {
        front = w;
        back = v;
        at = length w - length (left_over dialect w);
        kind = k;
        whole = whole;
        refused =
            record {
              place = (let l = left_le dialect w in omega (arith, l));
              decided = first.spells;
              shortest =
                  first.shortest;
            };
      }

-- no front of b is refused
abbrev pub NoneRefused : Dialect → List ℕ → Type 0
NoneRefused dialect b =
    (front back : List ℕ) (at : ℕ) (kind : FaultKind) → b ≡ front ++ back → Refused dialect front at kind → ⊥

pub silent : (dialect : Dialect) (b front back : List ℕ) → NoneRefused dialect b → b ≡ front ++ back
    → unit_decided dialect front ≡ None
silent dialect b front back none e = on (unit_decided dialect front) refl where
  on : (o : Option FaultKind) → unit_decided dialect front ≡ o → unit_decided dialect front ≡ None
  on None d = d
  on (Some k) d =
      let r = refused_front dialect front k d in
      absurd (none r.front (r.back ++ back) r.at r.kind (e ∙ ap (λ (w : List ℕ). w ++ back) r.whole
      ∙ append_assoc r.front r.back back) r.refused)

-- ---- whole units

-- where nothing is refused and the unit isn't foreign, the header is complete
header_whole : (dialect : Dialect) (b : List ℕ) → unit_len dialect b ≡ Some (length b) → NoneRefused dialect b
    → foreign_in dialect b ≡ None → header_in dialect b ≡ None → ⊥
header_whole dialect b len none foreign no_header = on (header_end (cut dialect b).items) refl where
  on : (o : Option ℕ) → header_end (cut dialect b).items ≡ o → ⊥
  on None e =
      unit_decides dialect b len e foreign (sym (decided_in_header dialect b no_header)
      ∙ silent dialect b b [] none (sym (append-nil b)))
  on (Some end) e =
      let f = up_to_header dialect b end len e in
      let before = no_header_before dialect f.front f.back (ap (header_in dialect) (sym f.whole) ∙ no_header) in
      end_decides dialect f.front f.ends before (sym (decided_in_header dialect f.front before)
      ∙ silent dialect b f.front f.back none f.whole)

own_unit : (dialect : Dialect) (b : List ℕ) (h : HeaderData) (program : List ℕ) → unit_len dialect b ≡ Some (length b)
    → unit_decided dialect b ≡ None → header_in dialect b ≡ Some (h, program)
    → IsOwnUnit dialect h (operations_in dialect.order h.params program).found b
own_unit dialect b h program len quiet e =
    let f = found_is_header dialect h b program e in
    let opcodes = (header_is_usable dialect h f.0 f.2).opcodes in
    let p = found_is_program dialect.order h.params program (omega arith) in
    let over =
    none_over (operations_in dialect.order h.params program).rest (rw (e, len) at quiet) in
    let whole : p.0 ≡ program = sym (rw (over, append-nil) at p.1) in
    record {
      its_length = (length_is_computed dialect b).1 len;
      header = f.0;
      program = program;
      whole = f.1;
      spells_header = f.2;
      spells_program = rw whole at p.2;
    }
  where
    none_over : (w : List ℕ) → operation_decided dialect.order h.params w (length b) (Some (length b)) ≡ None → w ≡ []
    none_over [] d = refl
    none_over (x ∷ w) d =
        absurd (decides (bad_kind (operation_spelt dialect.order h.params (x ∷ w))) fault.OpcodeOverrun (length b) d)

unit_whole : (dialect : Dialect) (b : List ℕ) → unit_len dialect b ≡ Some (length b) → NoneRefused dialect b
    → IsUnit dialect b
unit_whole dialect b len none = on (foreign_in dialect b) refl (header_in dialect b) refl where
  on : (o : Option ℕ) → foreign_in dialect b ≡ o → (q : Option (HeaderData × List ℕ)) → header_in dialect b ≡ q
      → IsUnit dialect b
  on (Some v) foreign q e = inl (v, foreign_unit dialect v b len foreign)
  on None foreign None e = absurd (header_whole dialect b len none foreign e)
  on None foreign (Some (h, program)) e =
      inr (
        h,
        (operations_in dialect.order h.params program).found,
        own_unit dialect b h program len (silent dialect b b [] none (sym (append-nil b))) e,
      )

pub unit_unless_refused : UnitUnlessRefused
unit_unless_refused dialect b len = (unit_is_not_refused dialect b, unit_whole dialect b len)
