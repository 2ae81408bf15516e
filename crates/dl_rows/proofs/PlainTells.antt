-- A plain run so far, and one operation more.
use Rattle.std.proofs.Common.{Bor, ◌≡◌, ◌∙◌, ◌≤◌, ℕ, List, [], ◌∷◌, ◌++◌, length, map, Option, Some, None, Ok, ap, arith, append_assoc, append-nil, refl, sym, subst}
use Rattle.std.proofs.lemmas.List.Concat.{flat_map-append}
use Rattle.std.proofs.Math.Nat.{mod-one}
use Rattle.std.specs.List.{after_last}
use Rattle.dl_num.specs.declared.fixed.Order.{Order}
use Rattle.dl_num.specs.Front.{SpellsFirst}
use Rattle.dl_num.specs.Laws.{AllBytes}
use Rattle.dl_field.specs.declared.params.Params.{Params}
use Rattle.dl_field.specs.HeaderData.{HeaderData}
use Rattle.dl_rows.specs.declared.operation.Operation.{Operation}
use Rattle.dl_rows.specs.declared.operation_state.OperationState.TheVariants as phase
use Rattle.dl_rows.specs.declared.program.Program.{Program}
use Rattle.dl_rows.specs.declared.program.ProgramStep.TheVariants as given
use Rattle.dl_rows.specs.declared.program.Taken.{Taken}
use Rattle.dl_rows.specs.declared.program.Taken.TheVariants as taken
use Rattle.dl_rows.specs.declared.program.plain.PlainWalk.{PlainWalk}
use Rattle.dl_rows.specs.declared.plain_run.PlainRun.{PlainRun}
use Rattle.dl_rows.specs.declared.registers.Registers.{Registers}
use Rattle.dl_rows.specs.declared.row.Row.{Row}
use Rattle.dl_rows.specs.Items.{Item, a_byte, a_row, an_operation}
use Rattle.dl_rows.specs.Matrix.{is_end, last_part, moves, parts}
use Rattle.dl_rows.specs.OperationSpelt.{operation_spelt}
use Rattle.dl_rows.specs.Plain.{Along, ArePlain, ComesTo, IsPlain, IsPlainRun, PlainOne, along, along_from, along_with, items_of_plain, items_of_plain_one, last_length, plain_bytes}
use Rattle.dl_rows.specs.PlainWalks.{IsRunAt, IsSingle, MayBePlain, TakesPlain, along_of, plain_story}
use Rattle.dl_rows.specs.Programs.{Finishing, ProgramStands, TakenTells, Telling, Tells}
use Rattle.dl_rows.specs.Sinks.{Story}
use Rattle.dl_rows.specs.Sums.{FitsProgram, HasRange}
use Rattle.dl_rows.proofs.Judged.{judged}
use Rattle.dl_rows.proofs.OperandRanges.{bytes_back, bytes_front, range_of}
use Rattle.dl_rows.proofs.ProgramSteps.{turned_whole}
use Rattle.dl_rows.proofs.ProgramTells.{telling_on, telling_row}
use Rattle.dl_rows.proofs.ProgramWalks.{tell_after, tell_start, tells_after}

-- ---- one more

pub along_push : (h : Params) (p : Along) (ss : List PlainOne) (s : PlainOne)
    → along h p (ss ++ s ∷ []) ≡ along_with h (along h p ss) s.operation s.row
along_push h p [] s = refl
along_push h p (t ∷ ss) s = along_push h (along_with h p t.operation t.row) ss s

pub plain_push : (h : Params) (p : Along) (ss : List PlainOne) (s : PlainOne) → ArePlain h p ss
    → IsPlain h (along h p ss) s.operation s.row → length s.bytes ≤ 11 → ArePlain h p (ss ++ s ∷ [])
plain_push h p [] s all is few = (is, few, tt)
plain_push h p (t ∷ ss) s all is few = (all.0, all.1, plain_push h (along_with h p t.operation t.row) ss s all.2 is few)

pub last_push : (ss : List PlainOne) (s : PlainOne) → last_length (ss ++ s ∷ []) ≡ length s.bytes
last_push [] s = refl
last_push (t ∷ []) s = refl
last_push (t ∷ u ∷ ss) s = last_push (u ∷ ss) s

pub bytes_push : (ss : List PlainOne) (s : PlainOne) → plain_bytes (ss ++ s ∷ []) ≡ plain_bytes ss ++ s.bytes
bytes_push ss s =
    flat_map-append (λ (t : PlainOne). t.bytes) ss (s ∷ [])
    ∙ ap (λ (l : List ℕ). plain_bytes ss ++ l) (append-nil s.bytes)

pub items_push : (header : HeaderData) (ss : List PlainOne) (s : PlainOne)
    → items_of_plain header (ss ++ s ∷ []) ≡ items_of_plain header ss ++ items_of_plain_one header s
items_push header ss s =
    flat_map-append (items_of_plain_one header) ss (s ∷ [])
    ∙ ap (λ (l : List Item). items_of_plain header ss ++ l) (append-nil (items_of_plain_one header s))

-- ---- a run so far

-- these operations, which the bytes in front spell
pub record SoFar (order : Order) (h : Params) (header : HeaderData) (b bytes : List ℕ) (start : Along) (walk : PlainWalk)
    (files front : List ℕ) (last : ℕ) (rest : List ℕ) : Type 0 where
  pub ones : List PlainOne
  pub single : IsSingle h walk.program
  pub spelt : front ≡ plain_bytes ones
  pub last_is : last ≡ last_length ones
  pub plain : ArePlain h start ones
  pub along_is : along_of walk files ≡ along h start ones
  pub told : Telling (plain_story header) order h header b bytes [] walk.program rest ones

range_whole : (order : Order) {h : Params} {o : Operation} (front tail : List ℕ) → FitsProgram h → AllBytes (front ++ tail)
    → SpellsFirst (operation_spelt order h) front (Ok o) → HasRange o
range_whole order {h} {o} front tail fits all first =
    let opcodes = fits.usable.opcodes in
    range_of order h o front fits.usable (bytes_front front tail all) (rw first.spells at (judged order h front (omega arith)))

-- what is told of it
told_one : {order : Order} {h : Params} {header : HeaderData} {walk new : Program} {rest : List ℕ} {o : Operation} (v w tail : List ℕ) (ones : List PlainOne) (heard : List Item) (made : Option Row) → heard ≡ items_of_plain header ones
    → FitsProgram h → AllBytes rest → ProgramStands order h walk v → walk.phase ≡ phase.Start
    → rest ≡ w ++ tail → SpellsFirst (operation_spelt order h) w (Ok o) → Finishing h walk o made new
    → new.phase ≡ walk.phase → new.begun ≡ walk.begun
    → Telling (plain_story header) order h header v rest heard new tail
    (ones ++ record { bytes = w; operation = o; row = made } ∷ [])
told_one {header = header} {o = o} v w tail ones heard None is fits all stands at e first finishing same_phase same_begun =
    let one : PlainOne = record { bytes = w; operation = o; row = None } in
    telling_on (turned_whole stands w tail fits all at e first finishing same_phase same_begun) e
    (ap (λ (l : List Item). l ++ items_of_plain_one header one) is ∙ sym (items_push header ones one))
told_one {header = header} {o = o} v w tail ones heard (Some row) is fits all stands at e first finishing same_phase same_begun =
    let one : PlainOne = record { bytes = w; operation = o; row = Some row } in
    telling_row (turned_whole stands w tail fits all at e first finishing same_phase same_begun) e
    (append_assoc heard (map a_byte w ++ an_operation header o ∷ []) (a_row header row ∷ [])
    ∙ ap (λ (l : List Item). heard ++ l) (append_assoc (map a_byte w) (an_operation header o ∷ []) (a_row header row ∷ []))
    ∙ ap (λ (l : List Item). l ++ items_of_plain_one header one) is ∙ sym (items_push header ones one))

module _ {order : Order} {h : Params} {header : HeaderData} {b bytes : List ℕ} {start : Along} {walk new : PlainWalk}
    {files named front : List ℕ} {last : ℕ} {rest : List ℕ} {o : Operation} where
  pub far_more : SoFar order h header b bytes start walk files front last rest → FitsProgram h → AllBytes bytes
      → walk.program.phase ≡ phase.Start → (w tail : List ℕ) → rest ≡ w ++ tail
      → SpellsFirst (operation_spelt order h) w (Ok o) → length w ≤ 11 → TakesPlain h walk files o new named
      → SoFar order h header b bytes start new named (front ++ w) (length w) tail
  far_more far fits all at w tail e first few takes =
      let one : PlainOne = record { bytes = w; operation = o; row = takes.made } in
      let told = tell_after far.told all (λ v heard bytes stands heard_is.
      told_one v w tail far.ones heard takes.made heard_is fits bytes stands at e first takes.finishes takes.phase takes.begun) in
      let range : HasRange o = range_whole order w tail fits (subst AllBytes e (bytes_back far.told.walked.done rest (subst AllBytes far.told.walked.split all))) first in
      record {
        ones = far.ones ++ one ∷ [];
        single = takes.single far.single;
        spelt = ap (λ (l : List ℕ). l ++ w) far.spelt ∙ sym (bytes_push far.ones one);
        last_is = sym (last_push far.ones one);
        plain = plain_push h start far.ones one far.plain (subst (λ (p : Along). IsPlain h p o takes.made) far.along_is (takes.plain range far.single)) few;
        along_is = takes.along range far.single
            ∙ ap (λ (p : Along). along_with h p o takes.made) far.along_is
            ∙ sym (along_push h start far.ones one);
        told = told;
      }

-- nothing taken yet
pub far_none : {order : Order} {h : Params} {header : HeaderData} {b : List ℕ} {walk : PlainWalk} (bytes : List ℕ) (start : Along) → along_of walk [] ≡ start
    → IsSingle h walk.program → ProgramStands order h walk.program b → SoFar order h header b bytes start walk [] [] 0 bytes
far_none bytes start is single stands = record {
  ones = [];
  single = single;
  spelt = refl;
  last_is = refl;
  plain = tt;
  along_is = is;
  told = tell_start bytes stands refl;
}

-- where each instruction has one operation
pub single_here : {order : Order} {h : Params} {p : Program} {b : List ℕ} → MayBePlain h → ProgramStands order h p b → IsSingle h p
single_here {h = h} may stands = record {
  one = may.one;
  first = ap (λ (r : Registers). r.op_index) stands.registers
      ∙ rw may.one (mod-one (last_part (parts h (moves (after_last is_end stands.operations)))));
}

-- the run of these operations
pub run_of : {order : Order} {h : Params} {header : HeaderData} {b bytes : List ℕ} {walk : PlainWalk} {files front : List ℕ} {last from file : ℕ} {rest : List ℕ}
    (run : PlainRun) → MayBePlain h → run.bytes.now ≡ front → run.last_bytes ≡ last → run.from ≡ from → ComesTo run (along_of walk files)
    → SoFar order h header b bytes (along_from from file) walk files front last rest → IsRunAt order h header b bytes walk.program run rest
run_of {h = h} {bytes = bytes} {from = from} {file = file} {rest = rest} run may is last_is from_is comes far = record {
  ones = far.ones;
  is = record {
    file = file;
    one = may.one;
    bytes = is ∙ far.spelt;
    last_bytes = last_is ∙ far.last_is;
    plain = subst (λ (a : ℕ). ArePlain h (along_from a file) far.ones) (sym from_is) far.plain;
    comes = subst (λ (p : Along). ComesTo run p) (far.along_is ∙ ap (λ (a : ℕ). along h (along_from a file) far.ones) (sym from_is)) comes;
  };
  told = far.told;
}

-- a sink that was told the items of a run was told those of its bytes
pub plain_told : {S : Type 0} {story : Story S} {order : Order} {h : Params} {header : HeaderData} {b bytes : List ℕ} {new : Program} {run : PlainRun} {rest : List ℕ}
    (heard : List Item) (s : S) (at : IsRunAt order h header b bytes new run rest) → story.hears s (heard ++ items_of_plain header at.ones)
    → Telling story order h header b bytes heard new rest s
plain_told {story = story} heard s at hears = record {
  rows = at.told.rows;
  walked = at.told.walked;
  hears = subst (λ (l : List Item). story.hears s (heard ++ l)) (sym at.told.hears) hears;
}

-- up to where operations were taken
pub taken_after : {S : Type 0} {story : Story S} {order : Order} {h : Params} {header : HeaderData} {b bytes : List ℕ}
    {before : List Item} {p : Program} {rest : List ℕ} {s : S} → Telling story order h header b bytes before p rest s → AllBytes bytes
    → (taken : Taken) (new : Program) (new_s : S)
    → ((v : List ℕ) (heard : List Item) → AllBytes rest → ProgramStands order h p v → story.hears s heard
    → TakenTells story order h header v rest heard taken new new_s)
    → TakenTells story order h header b bytes before taken new new_s
taken_after t all (taken.UpTo tail) new new_s more = tell_after t all more
taken_after t all (taken.Row row tail) new new_s more = tells_after t all (given.Row row tail) more

-- under the params of a header
pub plain_under : {h k : Params} {run : PlainRun} {ones : List PlainOne} → h ≡ k → IsPlainRun k run ones → IsPlainRun h run ones
plain_under {run = run} {ones} same is = subst (λ (h : Params). IsPlainRun h run ones) (sym same) is

-- ---- a front of bytes

-- what is told of a front of bytes is told of these
pub telling_longer : {S : Type 0} {story : Story S} {order : Order} {h : Params} {header : HeaderData} {b front whole : List ℕ}
    {before : List Item} {p : Program} {left : List ℕ} {s : S} (rest : List ℕ) → whole ≡ front ++ rest → Telling story order h header b front before p left s
    → Telling story order h header b whole before p (left ++ rest) s
telling_longer {left = left} rest is t = record {
  rows = t.rows;
  walked = record {
    done = t.walked.done;
    split = is ∙ ap (λ (l : List ℕ). l ++ rest) t.walked.split ∙ append_assoc t.walked.done left rest;
    stands = t.walked.stands;
    grown = t.walked.grown;
    unrefused = t.walked.unrefused;
  };
  hears = t.hears;
}

-- up to a row at which the sink stops
pub tells_longer : {S : Type 0} {story : Story S} {order : Order} {h : Params} {header : HeaderData} {b front whole : List ℕ}
    {before : List Item} {new : Program} {s : S} (row : Row) (left tail : Bor (List ℕ)) (rest : List ℕ) → whole ≡ front ++ rest → tail.now ≡ left.now ++ rest
    → Tells story order h header b front before (given.Row row left) new s
    → Tells story order h header b whole before (given.Row row tail) new s
tells_longer row left tail rest is more t = record {
  rows = t.rows;
  gives = record {
    front = t.gives.front;
    last = t.gives.last;
    split = is ∙ ap (λ (l : List ℕ). l ++ rest) t.gives.split
        ∙ append_assoc (t.gives.front ++ t.gives.last ∷ []) left.now rest
        ∙ ap (λ (l : List ℕ). (t.gives.front ++ t.gives.last ∷ []) ++ l) (sym more);
    stands = t.gives.stands;
    before = t.gives.before;
    grown = t.gives.grown;
    unrefused = t.gives.unrefused;
  };
  taken = t.taken;
  split = is ∙ ap (λ (l : List ℕ). l ++ rest) t.split ∙ append_assoc t.taken left.now rest ∙ ap (λ (l : List ℕ). t.taken ++ l) (sym more);
  sink = t.sink;
}
