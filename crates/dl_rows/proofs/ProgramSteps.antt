-- A reader inside a program, and the bytes of one operation more.
use Rattle.std.proofs.Common.{◌≡◌, ℕ, ◌+◌, ◌-◌, ◌^◌, List, [], ◌∷◌, ◌++◌, length, map, min, Option, Some, None, Ok, Err}
use Rattle.std.proofs.Common.{refl, sym, ap, ◌∙◌, arith, inl, inr, append_assoc, append-nil, length-append}
use Rattle.dl_num.specs.declared.fixed.Order.{Order}
use Rattle.dl_num.specs.Front.{SpellsNowhere, SpellsFirst, Standing, standing_after}
use Rattle.dl_num.specs.Laws.{AllBytes}
use Rattle.dl_num.proofs.FrontLemmas.{then_standing, standing-append, nothing_yet, found_first, front_before}
use Rattle.dl_field.specs.declared.params.Params.{Params}
use Rattle.dl_field.specs.HeaderData.{HeaderData}
use Rattle.dl_table.specs.declared.fault.FaultKind.{FaultKind}
use Rattle.dl_rows.specs.declared.row.Row.{Row}
use Rattle.dl_rows.specs.declared.operation.Operation.{Operation}
use Rattle.dl_rows.specs.declared.operation_state.OperationState.{OperationState}
use Rattle.dl_rows.specs.declared.operation_state.OperationState.TheVariants as phase
use Rattle.dl_rows.specs.declared.operation_state.OperationStep.TheVariants as step
use Rattle.dl_rows.specs.declared.program.Program.{Program}
use Rattle.dl_rows.specs.Items.{Item, a_byte, an_operation, a_row, items_after}
use Rattle.dl_rows.specs.Matrix.{matrix, rows_after}
use Rattle.dl_rows.specs.OperationSpelt.{good_one, operation_spelt, operations_in}
use Rattle.dl_rows.specs.Phases.{StepIs}
use Rattle.dl_rows.specs.LineUnit.{rows_in, ends_open}
use Rattle.dl_rows.specs.Programs.{row_list, Finishes, Finishing, ProgramStands, Unrefused, NothingGiven, RowGiven}
use Rattle.dl_rows.specs.Programs.{BadGiven}
use Rattle.dl_rows.specs.Sums.{FitsProgram, HasRange}
use Rattle.dl_rows.proofs.FirstLemmas.{split_front, nowhere_nil}
use Rattle.dl_rows.proofs.ItemLemmas.{items_whole, items_within, row_appended}
use Rattle.dl_rows.proofs.Judged.{judged}
use Rattle.dl_rows.proofs.OperandLemmas.{Verdict}
use Rattle.dl_rows.proofs.OperandRanges.{range_of, bytes_front, bytes_joined}

pub none_some : {o : Option Verdict} {a : Verdict} → ◌≡◌ {A = Option Verdict} o None → o ≡ Some a → ⊥
none_some {o = o} {a = a} e f = let g : ◌≡◌ {A = Option Verdict} None (Some a) = sym e ∙ f in absurd cc

abbrev spelt : Order → Params → List ℕ → Option Operation
spelt order h w = good_one (operation_spelt order h w)

-- fronts of bytes that spell nowhere do neither
nowhere_front : (f : List ℕ → Option Verdict) (w x : List ℕ) → SpellsNowhere f (w ++ x) → SpellsNowhere f w
nowhere_front f w x none front back e = none front (back ++ x) (rw e (append_assoc front back x))

pub unrefused_join : (order : Order) (h : Params) (b u v : List ℕ) → Unrefused order h b u
    → Unrefused order h (b ++ u) v → Unrefused order h b (u ++ v)
unrefused_join order h b u v one two front back e k bad = elim (split_front u v front back e) [
  | inl p ↦ one front (p.0 ∷ p.1) p.2 k bad
  | inr q ↦ two q.0 back q.2 k (rw append_assoc (rw q.1 at bad))
]

-- the count of the bytes that have come, 2^64 - 1 at the most
count_more : (n : ℕ) (v u : List ℕ) → n ≡ min (length v) (2 ^ 64 - 1)
    → min (n + length u) (2 ^ 64 - 1) ≡ min (length (v ++ u)) (2 ^ 64 - 1)
count_more n v u e = let l = length-append v u in omega arith

-- a list with an element has a last one
last_of : (x : ℕ) (w : List ℕ) → (front : List ℕ) × (last : ℕ) × (x ∷ w ≡ front ++ last ∷ [])
last_of x [] = ([], x, refl)
last_of x (y ∷ w) = let r = last_of y w in (x ∷ r.0, r.1, ap (λ (z : List ℕ). x ∷ z) r.2)

-- what is said of the bytes of an operation but the last
pub record Before (order : Order) (h : Params) (b u : List ℕ) : Type 0 where
  pub front : List ℕ
  pub last : ℕ
  pub bytes : u ≡ front ++ last ∷ []
  pub rows : rows_in order h (b ++ front) ≡ rows_in order h b
  pub unrefused : Unrefused order h b front

-- an operation ends, and its row is appended
pub record Turned (order : Order) (h : Params) (b u : List ℕ) (o : Operation) (row : Option Row) (new : Program)
    : Type 0 where
  pub stands : ProgramStands order h new (b ++ u)
  pub rows : rows_in order h (b ++ u) ≡ rows_in order h b ++ row_list row
  pub before : Before order h b u
  pub unrefused : Unrefused order h b u
  pub items : (header : HeaderData)
      → items_after order h header b u ≡ map a_byte u ++ an_operation header o ∷ map (a_row header) (row_list row)

module _ {order : Order} {h : Params} {p : Program} {b : List ℕ} (s : ProgramStands order h p b) where
  rows_here : rows_in order h b ≡ matrix h s.operations
  rows_here = ap (λ (t : Standing Operation). matrix h t.found) s.found

  operations_here : (operations_in order h b).found ≡ s.operations
  operations_here = ap (λ (t : Standing Operation). t.found) s.found

  pub rest_here : (operations_in order h b).rest ≡ s.begun
  rest_here = ap (λ (t : Standing Operation). t.rest) s.found

  pub none_here : operation_spelt order h s.begun ≡ None
  none_here = s.pending s.begun [] (sym (append-nil s.begun))

  pub in_sequence_is : p.in_sequence ≡ ends_open (rows_in order h b)
  in_sequence_is = rw rows_here s.in_sequence

  more : (u : List ℕ) → operations_in order h (b ++ u) ≡ then_standing (record {
    found = s.operations;
    rest = s.begun;
  }) (standing_after (spelt order h) s.begun u)
  more u = standing-append (spelt order h) b u
      ∙ ap (λ (t : Standing Operation). then_standing t (standing_after (spelt order h) t.rest u)) s.found

  -- ---- bytes that complete no operation

  -- the bytes of the operation with one of u set apart
  apart : (u front : List ℕ) (x : ℕ) (back : List ℕ) → u ≡ front ++ x ∷ back
      → s.begun ++ u ≡ (s.begun ++ (front ++ x ∷ [])) ++ back
  apart u front x back e = rw (e, append_assoc s.begun (front ++ x ∷ []) back, append_assoc front (x ∷ []) back)

  found_none : (u : List ℕ) → SpellsNowhere (spelt order h) (s.begun ++ u)
      → operations_in order h (b ++ u) ≡ record { found = s.operations; rest = s.begun ++ u }
  found_none u none =
      more u ∙ rw (
        nothing_yet (spelt order h) s.begun u (λ front x back e.
            none (s.begun ++ (front ++ x ∷ [])) back (apart u front x back e)),
        append-nil s.operations,
      )

  found_within : (u : List ℕ) → SpellsNowhere (operation_spelt order h) (s.begun ++ u)
      → operations_in order h (b ++ u) ≡ record { found = s.operations; rest = s.begun ++ u }
  found_within u nowhere = found_none u (λ front back e. ap good_one (nowhere front back e))

  -- bytes that end in a bad one
  bad_nowhere : (u : List ℕ) (k : FaultKind) → SpellsFirst (operation_spelt order h) (s.begun ++ u) (Err k)
      → SpellsNowhere (spelt order h) (s.begun ++ u)
  bad_nowhere u k first front [] e = ap good_one (rw (e, append-nil) at first.spells)
  bad_nowhere u k first front (y ∷ back) e = ap good_one (first.shortest front y back e)

  found_bad : (u : List ℕ) (k : FaultKind) → SpellsFirst (operation_spelt order h) (s.begun ++ u) (Err k)
      → operations_in order h (b ++ u) ≡ record { found = s.operations; rest = s.begun ++ u }
  found_bad u k first = found_none u (bad_nowhere u k first)

  unrefused_within : (u : List ℕ) → SpellsNowhere (operation_spelt order h) (s.begun ++ u) → Unrefused order h b u
  unrefused_within u none front back e k bad =
      let whole : s.begun ++ u ≡ (s.begun ++ front) ++ back = rw (e, append_assoc s.begun front back) in
      let here = nowhere_front (operation_spelt order h) (s.begun ++ front) back (rw whole at none) in
      let rest = ap (λ (t : Standing Operation). t.rest) (found_within front here) in
      none_some (here (s.begun ++ front) [] (sym (append-nil (s.begun ++ front)))) (rw rest at bad)

  -- the current operation takes u, and isn't complete
  pub within_given : {at : OperationState} {n : ℕ} (u : List ℕ) → AllBytes u
      → StepIs order h s.begun u (step.Within at) → n ≡ min (p.begun + length u) (2 ^ 64 - 1)
      → NothingGiven order h b u [] (record p { phase = at; begun = n })
  within_given u all w e =
      let found = found_within u w.1 in
      record {
        stands = record {
          operations = s.operations;
          begun = s.begun ++ u;
          bytes = bytes_joined s.begun u s.bytes all;
          found = found;
          pending = w.1;
          registers = s.registers;
          phase = w.0;
          count = e ∙ count_more p.begun s.begun u s.count;
          in_sequence = s.in_sequence;
        };
        grown = rw append-nil (ap (λ (t : Standing Operation). matrix h t.found) found ∙ sym rows_here);
        unrefused = unrefused_within u w.1;
      }

  -- these bytes are all that a sink hears
  pub items_nowhere : (header : HeaderData) (u : List ℕ) → SpellsNowhere (operation_spelt order h) (s.begun ++ u)
      → items_after order h header b u ≡ map a_byte u
  items_nowhere header u none =
      items_within order h header b s.begun u rest_here (λ front back e. ap good_one (none front back e))

  pub items_bad : (header : HeaderData) (u : List ℕ) (k : FaultKind)
      → SpellsFirst (operation_spelt order h) (s.begun ++ u) (Err k) → items_after order h header b u ≡ map a_byte u
  items_bad header u k first = items_within order h header b s.begun u rest_here (bad_nowhere u k first)

  -- ---- bytes that end one, or decide that it is bad

  before_last : (u : List ℕ) (a : Verdict) → SpellsFirst (operation_spelt order h) (s.begun ++ u) a
      → Before order h b u
  before_last [] a first = absurd (none_some none_here (rw append-nil at first.spells))
  before_last (x ∷ u) a first =
      let l = last_of x u in
      let none = nowhere l.0 l.1 l.2 in
      record {
        front = l.0;
        last = l.1;
        bytes = l.2;
        rows = ap (λ (t : Standing Operation). matrix h t.found) (found_within l.0 none) ∙ sym rows_here;
        unrefused = unrefused_within l.0 none;
      }
    where
      nowhere : (w : List ℕ) (last : ℕ) → x ∷ u ≡ w ++ last ∷ []
          → SpellsNowhere (operation_spelt order h) (s.begun ++ w)
      nowhere w last whole front back e =
          let all : s.begun ++ x ∷ u ≡ front ++ (back ++ last ∷ []) =
          rw (whole, ← append_assoc s.begun w (last ∷ []), e) (append_assoc front back (last ∷ [])) in
          on back all
        where
          on : (back : List ℕ) → s.begun ++ x ∷ u ≡ front ++ (back ++ last ∷ [])
              → ◌≡◌ {A = Option Verdict} (operation_spelt order h front) None
          on [] all = first.shortest front last [] all
          on (y ∷ back) all = first.shortest front y (back ++ last ∷ []) all

  pub refuses_given : {n : ℕ} (u front tail : List ℕ) (k : FaultKind) → u ≡ front ++ tail
      → SpellsFirst (operation_spelt order h) (s.begun ++ front) (Err k)
      → n ≡ min (p.begun + (length u - length tail)) (2 ^ 64 - 1)
      → BadGiven order h b u [] k tail (record p { begun = n })
  refuses_given {n} u front tail k e first count =
      let m = before_last front (Err k) first in
      let found = rw m.bytes at (found_bad front k first) in
      let rows = ap (λ (t : Standing Operation). matrix h t.found) found ∙ sym rows_here in
      let rest = ap (λ (t : Standing Operation). t.rest) found in
      let taken : n ≡ min (p.begun + length front) (2 ^ 64 - 1) =
      omega (arith, count, ap length e, length-append front tail) in
      record {
        front = m.front;
        last = m.last;
        split = rw m.bytes at e;
        grown = rw append-nil rows;
        unrefused = m.unrefused;
        spelt = rw (rest, ← m.bytes) first.spells;
        count = rw (rest, ← m.bytes) (taken ∙ count_more p.begun s.begun front s.count);
        is_open = rw rows in_sequence_is;
      }

  found_one : (x : ℕ) (u : List ℕ) (o : Operation) → SpellsFirst (operation_spelt order h) (s.begun ++ x ∷ u) (Ok o)
      → operations_in order h (b ++ x ∷ u) ≡ record { found = s.operations ++ o ∷ []; rest = [] }
  found_one x u o first =
      let one = found_first (spelt order h) s.begun x u [] o (ap good_one first.spells)
      (λ front y back k. ap good_one (first.shortest (s.begun ++ front) y back
      (rw (append_assoc s.begun front (y ∷ back), k)))) in
      more (x ∷ u) ∙ rw (rw (append-nil u) at one)

  turned : {new : Program} (u : List ℕ) {o : Operation} {row : Option Row}
      → SpellsFirst (operation_spelt order h) (s.begun ++ u) (Ok o) → Finishes h s.operations o row new
      → new.phase ≡ phase.Start → new.begun ≡ 0 → Turned order h b u o row new
  turned [] first f at zero = absurd (none_some none_here (rw append-nil at first.spells))
  turned {new} (x ∷ u) {o} {row} first f at zero =
      let found = found_one x u o first in
      let m = before_last (x ∷ u) (Ok o) first in
      record {
        stands = record {
          operations = s.operations ++ o ∷ [];
          begun = [];
          bytes = tt;
          found = found;
          pending = nowhere_nil (operation_spelt order h) refl;
          registers = f.registers;
          phase = rw at refl;
          count = zero;
          in_sequence = f.in_sequence;
        };
        rows = rw rows_here (ap (λ (t : Standing Operation). matrix h t.found) found ∙ f.rows);
        before = m;
        unrefused = unrefused m (ap (λ (t : Standing Operation). t.rest) found);
        items = λ header. whole header ∙ ap (with_rows header) (ap (λ (os : List Operation). rows_after h os (o ∷ [])) operations_here
            ∙ row_appended h s.operations o (row_list row) f.rows);
      }
    where
      with_rows : HeaderData → List Row → List Item
      with_rows header rows = map a_byte (x ∷ u) ++ an_operation header o ∷ map (a_row header) rows

      whole : (header : HeaderData) → items_after order h header b (x ∷ u)
          ≡ with_rows header (rows_after h (operations_in order h b).found (o ∷ []))
      whole header = items_whole order h header b s.begun x u o rest_here (record {
        spells = ap good_one first.spells;
        shortest = λ front y back e. ap good_one (first.shortest front y back e);
      })

      unrefused : Before order h b (x ∷ u) → (operations_in order h (b ++ x ∷ u)).rest ≡ []
          → Unrefused order h b (x ∷ u)
      unrefused m ends front [] e k bad =
          let same : x ∷ u ≡ front = e ∙ append-nil front in
          none_some refl (rw ends at (rw (← same) at bad))
      unrefused m ends front (y ∷ back) e k bad =
          let z = front_before m.front front m.last y back (sym m.bytes ∙ e) in m.unrefused front z.0 z.1 k bad

  -- the current operation ends, whose operands are in range
  pub turned_at : {new : Program} {o : Operation} {row : Option Row} {u : List ℕ} (front tail : List ℕ)
      → FitsProgram h → AllBytes u → u ≡ front ++ tail
      → SpellsFirst (operation_spelt order h) (s.begun ++ front) (Ok o) → Finishing h p o row new
      → new.phase ≡ phase.Start → new.begun ≡ 0 → Turned order h b front o row new
  turned_at {o = o} front tail fits all e first finishing at zero =
      let w = s.begun ++ front in
      let taken = bytes_joined s.begun front s.bytes (bytes_front front tail (rw e at all)) in
      let opcodes = fits.usable.opcodes in
      let range : HasRange o =
      range_of order h o w fits.usable taken (rw first.spells at (judged order h w (omega arith))) in
      turned front first (finishing s.operations fits range s.registers s.in_sequence) at zero

  -- between two operations no byte of the next one has come
  pub none_begun : p.phase ≡ phase.Start → (s.begun ≡ []) × (p.begun ≡ 0)
  none_begun at =
      let none : s.begun ≡ [] = rw at at s.phase in
      (none, s.count ∙ ap (λ (z : List ℕ). min (length z) (2 ^ 64 - 1)) none)

  -- the same between two operations, where the bytes spell the whole operation
  pub turned_whole : {new : Program} {o : Operation} {row : Option Row} {u : List ℕ} (front tail : List ℕ)
      → FitsProgram h → AllBytes u → p.phase ≡ phase.Start → u ≡ front ++ tail
      → SpellsFirst (operation_spelt order h) front (Ok o) → Finishing h p o row new
      → new.phase ≡ p.phase → new.begun ≡ p.begun → Turned order h b front o row new
  turned_whole front tail fits all at e first finishing same_phase same_count =
      let none = none_begun at in
      turned_at front tail fits all e (rw none.0 first) finishing (same_phase ∙ at) (same_count ∙ none.1)

pub row_given : {order : Order} {h : Params} {b front : List ℕ} {o : Operation} {row : Row} {new : Program}
    {bytes tail : List ℕ} → Turned order h b front o (Some row) new → bytes ≡ front ++ tail → RowGiven order h b bytes [] row tail new
row_given t e = record {
  front = t.before.front;
  last = t.before.last;
  split = rw t.before.bytes at e;
  stands = rw t.before.bytes at t.stands;
  before = rw append-nil t.before.rows;
  grown = rw append-nil (rw t.before.bytes at t.rows);
  unrefused = rw t.before.bytes at t.unrefused;
}

-- what a sink is told of an operation, and of its row
pub items_told : {order : Order} {h : Params} {b u : List ℕ} {o : Operation} {row : Option Row} {new : Program}
    → Turned order h b u o row new → (header : HeaderData) (heard : List Item)
    → (heard ++ (map a_byte u ++ an_operation header o ∷ [])) ++ map (a_row header) (row_list row)
    ≡ heard ++ items_after order h header b u
items_told t header heard = rw (t.items header) (simp append_assoc)
