-- What is refused after a header.
use Rattle.dl_head.specs.declared.dialect.Dialect.{Dialect}
use Rattle.std.proofs.Common.{◌≡◌, ℕ, ◌+◌, ◌<◌, ◌≤◌, List, [], ◌∷◌, ◌++◌, length, Option, Some, None, Ok, Err, refl}
use Rattle.std.proofs.Common.{sym, ap, ◌∙◌, arith, inl, inr, ◌⊎◌, append_assoc, append-nil, length-append}
use Rattle.std.proofs.lemmas.Bool.Decides.{nat_tests}
use Rattle.std.proofs.lemmas.Bool.{eq-eqb}
use Rattle.dl_num.specs.declared.fixed.Order.{Order}
use Rattle.dl_num.specs.Front.{SpellsNowhere, Standing}
use Rattle.dl_num.proofs.FrontLemmas.{one_cut}
use Rattle.dl_table.specs.declared.fault.FaultKind.{FaultKind}
use Rattle.dl_table.specs.declared.fault.FaultKind.TheVariants as fault
use Rattle.dl_field.specs.declared.params.Params.{Params}
use Rattle.dl_field.specs.HeaderData.{HeaderData}
use Rattle.dl_table.specs.Value.{Judgement, bad}
use Rattle.dl_head.specs.Header.{IsHeader, header_in, unit_len}
use Rattle.dl_head.specs.Refusal.{or_else, bad_kind, at_end, NothingBefore}
use Rattle.dl_field.proofs.FieldLemmas.{none_some}
use Rattle.dl_head.proofs.FrontLemmas.{after_front}
use Rattle.dl_head.proofs.HeaderLaws.{found_is_header, header_is_found}
use Rattle.dl_head.proofs.QuietLemmas.{header_is_not_refused}
use Rattle.dl_rows.specs.declared.operation.Operation.{Operation}
use Rattle.dl_rows.specs.BadOperation.{IsBadOperation}
use Rattle.dl_rows.specs.OperationSpelt.{operation_spelt, good_one, operations_in}
use Rattle.dl_rows.specs.Spelling.{SpellsOperation, SpellsProgram}
use Rattle.dl_rows.specs.Reading.{WithinUnit}
use Rattle.dl_rows.specs.Refusal.{decided_after, unit_decided, operation_decided, Refused}
use Rattle.dl_rows.specs.UnitLaws.{IsIncomplete, IsCutShort, RefusesOperation, RefusedInProgram, OperationIsRefused}
use Rattle.dl_rows.proofs.HeaderParams.{header_is_usable}
use Rattle.dl_rows.proofs.OperationFront.{not_good}
use Rattle.dl_rows.proofs.OperationLaws.{spelt_is_spelled, bad_is_faulty, no_spelling_is_faulty}
use Rattle.dl_rows.proofs.ProgramLaws.{spelt, program_cut, found_is_program, none_begins_rest}
use Rattle.dl_rows.proofs.UnitLemmas.{header_on, unit_len_on, no_header_before, refused_in_header}
use Rattle.dl_rows.proofs.FirstLemmas.{split_front}
use Rattle.dl_rows.proofs.UnitQuiet.{parts_same, operation_quiet, NotBad, bad_decides, end_decides, nothing_decides}
use Rattle.dl_rows.proofs.UnitWhole.{NoneRefused, silent}

-- where a front has no header, it decides nothing
quiet_in_header : (dialect : Dialect) (h : HeaderData) (w v front back : List ℕ) → IsHeader dialect h w
    → w ++ v ≡ front ++ back → header_in dialect front ≡ None → unit_decided dialect front ≡ None
quiet_in_header dialect h w v front back is e none =
    silent dialect front front [] refused (sym (append-nil front)) where
      refused : NoneRefused dialect front
      refused begun more at kind split r =
          let none_begun = no_header_before dialect begun more (ap (header_in dialect) (sym split) ∙ none) in
          header_is_not_refused dialect h w v begun (more ++ back) at kind is
          (e ∙ rw split (append_assoc begun more back))
          ((refused_in_header dialect begun at kind none_begun).0 r)

-- an overrun is decided at the end, and is one
ended : (kind k : FaultKind) (n : ℕ) (end : Option ℕ) → at_end kind n end ≡ Some k → (end ≡ Some n) × (k ≡ kind)
ended kind k n end e = grind (arith, nat_tests)

-- what is judged good or incomplete isn't bad, and what isn't good is no operation
good_one_none : (order : Order) (h : Params) (w : List ℕ) → 1 ≤ h.opcode_base
    → ((o : Operation) → SpellsOperation order h o w → ⊥)
    → ◌≡◌ {A = Option Operation} (good_one (operation_spelt order h w)) None
good_one_none order h w some none =
    not_good (operation_spelt order h w) (λ o e. none o ((spelt_is_spelled order h o w some).1 e))

-- after a program stands what no operation begins
rest_is : (order : Order) (h : Params) (p : List Operation) (done begun : List ℕ) → 1 ≤ h.opcode_base
    → SpellsProgram order h p done
    → ((o : Operation) (front back : List ℕ) → begun ≡ front ++ back → SpellsOperation order h o front → ⊥)
    → (operations_in order h (done ++ begun)).rest ≡ begun
rest_is order h p done begun some s none =
    let nowhere : SpellsNowhere (spelt order h) begun =
    λ front back e. good_one_none order h front some (λ o t. none o front back e t) in
    ap (λ (t : Standing Operation). t.rest) ((one_cut Operation (spelt order h) (done ++ begun) (p ++ []) begun refl).0
    (program_cut order h p done begun [] begun some s (refl, nowhere)))

-- a front that decides nothing is incomplete
quiet_incomplete : (order : Order) (h : Params) (w : List ℕ) (n : ℕ) (end : Option ℕ) → 1 ≤ h.opcode_base
    → ((o : Operation) → SpellsOperation order h o w → ⊥) → operation_decided order h w n end ≡ None
    → IsIncomplete order h w
quiet_incomplete order h w n end some none e =
    (none, λ kind bad. none_some e (bad_decides order h w n end kind ((bad_is_faulty order h kind w some).0 bad)))

-- what the bytes of an operation decide
operation_faults : (dialect : Dialect) (h : Params) (b begun : List ℕ) (kind : FaultKind) → 1 ≤ h.opcode_base
    → operation_decided dialect.order h begun (length b) (unit_len dialect b) ≡ Some kind
    → ((o : Operation) → SpellsOperation dialect.order h o begun → ⊥) → IsBadOperation h begun kind
    ⊎ (IsCutShort dialect h b begun × (kind ≡ fault.OpcodeOverrun))
operation_faults dialect h b [] kind some e none = absurd (none_some {a = kind} refl e)
operation_faults dialect h b (x ∷ w) kind some e none = on (operation_spelt dialect.order h (x ∷ w)) refl e where
  cut_short : NotBad dialect.order h (x ∷ w)
      → at_end fault.OpcodeOverrun (length b) (unit_len dialect b) ≡ Some kind
      → IsCutShort dialect h b (x ∷ w) × (kind ≡ fault.OpcodeOverrun)
  cut_short good f =
      let end = ended fault.OpcodeOverrun kind (length b) (unit_len dialect b) f in (
        record {
          last = end.0;
          some = omega arith;
          incomplete = (none, λ k faulty. good k ((bad_is_faulty dialect.order h k (x ∷ w) some).0 faulty));
        },
        end.1,
      )

  on : (j : Judgement Operation) → operation_spelt dialect.order h (x ∷ w) ≡ j
      → or_else (bad_kind j) (at_end fault.OpcodeOverrun (length b) (unit_len dialect b)) ≡ Some kind
      → IsBadOperation h (x ∷ w) kind ⊎ (IsCutShort dialect h b (x ∷ w) × (kind ≡ fault.OpcodeOverrun))
  on (Some (Err k)) j f =
      let same : k ≡ kind = cc in
      inl ((bad_is_faulty dialect.order h kind (x ∷ w) some).1 (rw (← same) j))
  on (Some (Ok o)) j f =
      inr (cut_short (λ k g. (let e : ◌≡◌ {A = Judgement Operation} (Some (Ok o)) (bad k) = sym j ∙ g in absurd cc)) f)
  on None j f = inr (cut_short (λ k g. none_some j g) f)

pub refused_in_program : RefusedInProgram
refused_in_program dialect b h program at kind found r = record {
  operations = (operations_in dialect.order h.params program).found;
  done = p.0;
  begun = rest;
  whole = p.1;
  spells = p.2;
  place = rw found at r.place;
  shortest = shortest;
  fault = operation_faults dialect h.params b rest kind some (sym (ap (decided_after dialect b) found)
      ∙ r.decided) (λ o s. none o rest [] (sym (append-nil rest)) s);
} where
  head : (w : List ℕ) × (b ≡ w ++ program) × IsHeader dialect h w
  head = found_is_header dialect h b program found

  some : 1 ≤ h.params.opcode_base
  some = (let opcodes = (header_is_usable dialect h head.0 head.2).opcodes in omega arith)

  rest : List ℕ
  rest = (operations_in dialect.order h.params program).rest

  p : (w : List ℕ) × (program ≡ w ++ rest) × SpellsProgram dialect.order h.params
      (operations_in dialect.order h.params program).found w
  p = found_is_program dialect.order h.params program some

  none : (o : Operation) (front back : List ℕ) → rest ≡ front ++ back
      → SpellsOperation dialect.order h.params o front → ⊥
  none o front back e s = none_begins_rest dialect.order h.params program o front back some e s

  -- a shorter front of b decides nothing
  shortest : (front : List ℕ) (x : ℕ) (back : List ℕ) → rest ≡ front ++ x ∷ back
      → IsIncomplete dialect.order h.params front
  shortest front x back e =
      let none_here =
      λ (o : Operation) (w v : List ℕ) (is : front ≡ w ++ v). none o w (v ++ x ∷ back)
      (e ∙ rw is (append_assoc w v (x ∷ back))) in
      let c = head.0 ++ (p.0 ++ front) in
      let whole : b ≡ c ++ x ∷ back =
      rw (append_assoc head.0 (p.0 ++ front) (x ∷ back), append_assoc p.0 front (x ∷ back), ← e, ← p.1) head.1 in
      let left = rest_is dialect.order h.params (operations_in dialect.order h.params program).found p.0 front some p.2
      (λ o w v is s. none_here o w v is s) in
      quiet_incomplete dialect.order h.params front (length c) (unit_len dialect c) some
      (λ o s. none_here o front [] (sym (append-nil front)) s)
      (rw (header_is_found dialect h head.0 (p.0 ++ front) head.2, left) at (r.shortest c x back whole))

-- ---- and the other way

incomplete_quiet : (order : Order) (h : Params) (w : List ℕ) (n : ℕ) (end : Option ℕ) → 1 ≤ h.opcode_base
    → IsIncomplete order h w → ((e : ℕ) → end ≡ Some e → n < e) → operation_decided order h w n end ≡ None
incomplete_quiet order h w n end some none before =
    nothing_decides order h w n end (λ k j. none.1 k ((bad_is_faulty order h k w some).1 j))
    (λ same. absurd (omega (arith, before n same)))

-- the bytes of the operation decide the fault
faults_decided : (dialect : Dialect) (h : Params) (b begun : List ℕ) (kind : FaultKind) → 1 ≤ h.opcode_base
    → IsBadOperation h begun kind ⊎ (IsCutShort dialect h b begun × (kind ≡ fault.OpcodeOverrun))
    → operation_decided dialect.order h begun (length b) (unit_len dialect b) ≡ Some kind
faults_decided dialect h b begun kind some (inl is_bad) =
    bad_decides dialect.order h begun (length b) (unit_len dialect b) kind
    ((bad_is_faulty dialect.order h kind begun some).0 is_bad)
faults_decided dialect h b begun kind some (inr (short, is)) =
    rw (is, short.last) (end_decides dialect.order h begun (length b) (Some (length b))
    (λ none. (let l = ap length none in omega (arith, l, short.some)))
    (λ k j. short.incomplete.1 k ((bad_is_faulty dialect.order h k begun some).1 j))
    ∙ rw (eq-eqb (length b) (length b) refl))

module _ (dialect : Dialect) (b : List ℕ) (h : HeaderData) (program : List ℕ) (at : ℕ) (kind : FaultKind)
    (found : header_in dialect b ≡ Some (h, program)) (within : WithinUnit dialect b)
    (r : RefusesOperation dialect h.params b program at kind) where
  abbrev head : (w : List ℕ) × (b ≡ w ++ program) × IsHeader dialect h w
  head = found_is_header dialect h b program found

  base : 1 ≤ h.params.opcode_base
  base = (let opcodes = (header_is_usable dialect h head.0 head.2).opcodes in omega arith)

  -- what is begun is no operation
  not_whole : (o : Operation) → SpellsOperation dialect.order h.params o r.begun → ⊥
  not_whole o s = elim r.fault [
    | inl is_bad ↦ no_spelling_is_faulty dialect.order h.params o kind r.begun [] base
        (rw append-nil s) is_bad.faulty
    | inr short ↦ short.0.incomplete.0 o s
  ]

  none_begins : (o : Operation) (front back : List ℕ) → r.begun ≡ front ++ back
      → SpellsOperation dialect.order h.params o front → ⊥
  none_begins o front [] e s = not_whole o (rw (e, append-nil) s)
  none_begins o front (x ∷ back) e s = (r.shortest front x back e).0 o s

  rest_begun : (operations_in dialect.order h.params program).rest ≡ r.begun
  rest_begun =
      ap (λ (w : List ℕ). (operations_in dialect.order h.params w).rest) r.whole
      ∙ rest_is dialect.order h.params r.operations r.done r.begun base r.spells none_begins

  -- the unit goes on after a shorter front
  before_end : (front : List ℕ) (x : ℕ) (back : List ℕ) → b ≡ front ++ x ∷ back → (n : ℕ)
      → unit_len dialect front ≡ Some n → length front + length (x ∷ back) ≤ n
  before_end front x back e n len =
      let le = within n (ap (unit_len dialect) e ∙ unit_len_on dialect front (x ∷ back) n len) in
      omega (arith, le, ap length e, length-append front (x ∷ back))

  -- a shorter front with a part of the program
  quiet_program : (front : List ℕ) (x : ℕ) (back v : List ℕ) → b ≡ front ++ x ∷ back → program ≡ v ++ x ∷ back
      → operation_decided dialect.order h.params (operations_in dialect.order h.params v).rest (length front)
      (unit_len dialect front)
      ≡ None
  quiet_program front x back v e part = elim (split_front v (x ∷ back) r.done r.begun (sym part ∙ r.whole)) [
    | inr (u, is, longer) ↦
        operation_quiet dialect.order h.params r.operations v u (operations_in dialect.order h.params v).rest
        (length front) (unit_len dialect front) base (rw is at r.spells) refl
        (λ n len. omega (arith, before_end front x back e n len, ap length longer, length-append u r.begun))
    | inl (y, z, is) ↦
        let w = y ∷ z in
        let begun : r.begun ≡ w ++ x ∷ back =
        sym (after_front r.done (w ++ x ∷ back) r.begun (sym (append_assoc r.done w (x ∷ back))
        ∙ rw is at (sym part ∙ r.whole))) in
        let none : (o : Operation) (u t : List ℕ) → w ≡ u ++ t → SpellsOperation dialect.order h.params o u → ⊥ =
        λ o u t is s. none_begins o u (t ++ x ∷ back)
        (begun ∙ ap (λ (q : List ℕ). q ++ x ∷ back) is ∙ append_assoc u t (x ∷ back)) s in
        let rest : (operations_in dialect.order h.params v).rest ≡ w =
        rw is (rest_is dialect.order h.params r.operations r.done w base r.spells none) in
        rw rest (incomplete_quiet dialect.order h.params w (length front) (unit_len dialect front) base
        (r.shortest w x back begun) (λ n len. omega (arith, before_end front x back e n len)))
  ]

  quiet_before : NothingBefore (unit_decided dialect) b
  quiet_before front x back e = on (header_in dialect front) refl where
    on : (o : Option (HeaderData × List ℕ)) → header_in dialect front ≡ o → unit_decided dialect front ≡ None
    on None none = quiet_in_header dialect h head.0 program front (x ∷ back) head.2 (sym head.1 ∙ e) none
    on (Some (g, v)) is =
        let same =
        parts_same g h (v ++ x ∷ back) program (sym (header_on dialect front (x ∷ back) g v is)
        ∙ ap (header_in dialect) (sym e) ∙ found) in
        rw (is, same.0) (quiet_program front x back v e (sym same.1))

  pub operation_refused : Refused dialect b at kind
  operation_refused = record {
    place = rw (found, rest_begun) r.place;
    decided = rw (found, rest_begun) (faults_decided dialect h.params b r.begun kind base r.fault);
    shortest = quiet_before;
  }

pub operation_is_refused : OperationIsRefused
operation_is_refused dialect b h program at kind found within r =
    operation_refused dialect b h program at kind found within r
