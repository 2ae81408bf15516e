-- A reader that goes through bytes of a program, and tells a sink the rows on the way.
use Rattle.std.proofs.Common.{◌≡◌, ◌↔◌, ℕ, List, [], ◌∷◌, ◌++◌, refl, sym, subst, ◌∙◌, append_assoc, append-nil}
use Rattle.dl_num.specs.declared.fixed.Order.{Order}
use Rattle.dl_num.specs.Laws.{AllBytes}
use Rattle.dl_field.specs.declared.params.Params.{Params}
use Rattle.dl_field.specs.HeaderData.{HeaderData}
use Rattle.dl_rows.specs.declared.row.Row.{Row}
use Rattle.dl_rows.specs.declared.operation_state.OperationState.{OperationState}
use Rattle.dl_rows.specs.declared.operation_state.OperationState.TheVariants as phase
use Rattle.dl_rows.specs.declared.program.Program.{Program}
use Rattle.dl_rows.specs.declared.program.ProgramStep.{ProgramStep}
use Rattle.dl_rows.specs.declared.program.ProgramStep.TheVariants as given
use Rattle.dl_rows.specs.OperationSpelt.{operations_in}
use Rattle.dl_rows.specs.Phases.{PhaseStands}
use Rattle.dl_rows.specs.Items.{Item, items_after}
use Rattle.dl_rows.specs.LineUnit.{rows_in}
use Rattle.dl_rows.specs.Programs.{ProgramStands, Walked, NothingGiven, GivenIs, Telling, StandsAfter, Tells, left_by}
use Rattle.dl_rows.specs.Sinks.{Story}
use Rattle.dl_rows.proofs.FirstLemmas.{nil_front}
use Rattle.dl_rows.proofs.ItemLemmas.{items_join}
use Rattle.dl_rows.proofs.OperandRanges.{bytes_back}
use Rattle.dl_rows.proofs.ProgramSteps.{rest_here, none_here, none_some, unrefused_join}

-- ---- one stretch of bytes after the other

module _ {order : Order} {h : Params} {b bytes : List ℕ} {rows : List Row} {p : Program} {rest : List ℕ}
    (w : Walked order h b bytes rows p rest) where
  -- a front of the bytes that are left
  joined : (u tail : List ℕ) → rest ≡ u ++ tail → bytes ≡ (w.done ++ u) ++ tail
  joined u tail e = rw (append_assoc w.done u tail, ← e) w.split

  -- the same with its last byte set apart
  after : (front : List ℕ) (last : ℕ)
      → (b ++ w.done) ++ (front ++ last ∷ []) ≡ b ++ ((w.done ++ front) ++ last ∷ [])
  after front last = rw (append_assoc w.done front (last ∷ [])) (append_assoc b w.done (front ++ last ∷ []))

  parted : (front : List ℕ) (last : ℕ) → w.done ++ (front ++ last ∷ []) ≡ (w.done ++ front) ++ last ∷ []
  parted front last = sym (append_assoc w.done front (last ∷ []))

  all_rows : (more : List Row) → rows_in order h (b ++ w.done) ++ more ≡ rows_in order h b ++ (rows ++ more)
  all_rows more = rw w.grown (append_assoc (rows_in order h b) rows more)

  walk_join : {more : List Row} {new : Program} {tail : List ℕ} → Walked order h (b ++ w.done) rest more new tail
      → Walked order h b bytes (rows ++ more) new tail
  walk_join {more} {tail = tail} u =
      let same = append_assoc b w.done u.done in
      record {
        done = w.done ++ u.done;
        split = joined u.done tail u.split;
        stands = rw same at u.stands;
        grown = rw (all_rows more, same) at u.grown;
        unrefused = unrefused_join order h b w.done u.done w.unrefused u.unrefused;
      }

  nothing_join : {more : List Row} {new : Program} → NothingGiven order h (b ++ w.done) rest more new
      → NothingGiven order h b bytes (rows ++ more) new
  nothing_join {more} u =
      let same = append_assoc b w.done rest in
      rw w.split (record {
        stands = rw same at u.stands;
        grown = rw (all_rows more, same) at u.grown;
        unrefused = unrefused_join order h b w.done rest w.unrefused u.unrefused;
      })

  given_join : (step : ProgramStep) (more : List Row) (new : Program) → GivenIs order h (b ++ w.done) rest more step new
      → GivenIs order h b bytes (rows ++ more) step new
  given_join given.Nothing more new u = nothing_join u
  given_join (given.Row row tail) more new g = record {
    front = w.done ++ g.front;
    last = g.last;
    split = rw (parted g.front g.last) at (joined (g.front ++ g.last ∷ []) tail.now g.split);
    stands = rw (after g.front g.last) at g.stands;
    before = rw (all_rows more, append_assoc b w.done g.front) at g.before;
    grown = rw (after g.front g.last, all_rows more) at g.grown;
    unrefused = rw (parted g.front g.last) at (unrefused_join order h b w.done (g.front ++ g.last ∷ []) w.unrefused
        g.unrefused);
  }
  given_join (given.Refuses kind tail) more new g = record {
    front = w.done ++ g.front;
    last = g.last;
    split = rw (parted g.front g.last) at (joined (g.front ++ g.last ∷ []) tail.now g.split);
    grown = rw (after g.front g.last, all_rows more) at g.grown;
    unrefused = unrefused_join order h b w.done g.front w.unrefused g.unrefused;
    spelt = rw (after g.front g.last) at g.spelt;
    count = rw (after g.front g.last) at g.count;
    is_open = rw (after g.front g.last) at g.is_open;
  }

-- nothing taken yet
walk_start : {order : Order} {h : Params} {p : Program} {b : List ℕ} (bytes : List ℕ) → ProgramStands order h p b
    → Walked order h b bytes [] p bytes
walk_start {order} {h} {p} {b} bytes s = record {
  done = [];
  split = refl;
  stands = rw append-nil s;
  grown = simp append-nil;
  unrefused = λ front back e k bad. (
      let none : front ≡ [] = nil_front front back e in
      none_some (none_here s) (rw (rest_here s) at (rw (none, append-nil) at bad)));
}

-- nothing is left
pub nothing_left : {order : Order} {h : Params} {b bytes : List ℕ} {rows : List Row} {p : Program} {rest : List ℕ}
    → Walked order h b bytes rows p rest → rest ≡ [] → NothingGiven order h b bytes rows p
nothing_left w none =
    let all = rw (none, append-nil) at w.split in
    rw all (record { stands = w.stands; grown = w.grown; unrefused = w.unrefused })

-- ---- what a sink hears

pub tell_start : {S : Type 0} {story : Story S} {order : Order} {h : Params} {header : HeaderData} {b : List ℕ} (bytes : List ℕ)
    {before : List Item} {p : Program} {s : S} → ProgramStands order h p b → story.hears s before
    → Telling story order h header b bytes before p bytes s
unfolding walk_start
tell_start bytes stands hears =
    record { rows = []; walked = walk_start bytes stands; hears = rw append-nil hears }

-- what a sink hears of some bytes, and then of more
heard_join : (order : Order) (h : Params) (header : HeaderData) (before : List Item) (b u v : List ℕ)
    → (before ++ items_after order h header b u) ++ items_after order h header (b ++ u) v
    ≡ before ++ items_after order h header b (u ++ v)
heard_join order h header before b u v =
    rw (items_join order h header b u v)
    (append_assoc before (items_after order h header b u) (items_after order h header (b ++ u) v))

module _ {S : Type 0} {story : Story S} {order : Order} {h : Params} {header : HeaderData} {b bytes : List ℕ}
    {before : List Item} {p : Program} {rest : List ℕ} {s : S} (t : Telling story order h header b bytes before p rest s)
    (all : AllBytes bytes) where
  rest_bytes : AllBytes rest
  rest_bytes = bytes_back t.walked.done rest (rw t.walked.split at all)

  -- whatever was taken before: more of the bytes is taken, of which another story may be told
  pub tell_after : {S' : Type 0} {other : Story S'} {new : Program} {tail : List ℕ} {new_s : S'}
      → ((v : List ℕ) (heard : List Item) → AllBytes rest → ProgramStands order h p v → story.hears s heard
      → Telling other order h header v rest heard new tail new_s)
      → Telling other order h header b bytes before new tail new_s
  unfolding walk_join
  tell_after more =
      let u = more (b ++ t.walked.done) (before ++ items_after order h header b t.walked.done) rest_bytes t.walked.stands t.hears in
      record {
        rows = t.rows ++ u.rows;
        walked = walk_join t.walked u.walked;
        hears = rw (heard_join order h header before b t.walked.done u.walked.done) at u.hears;
      }

  -- the same, up to a stop
  pub tells_after : {S' : Type 0} {other : Story S'} {new : Program} (step : ProgramStep) {new_s : S'}
      → ((v : List ℕ) (heard : List Item) → AllBytes rest → ProgramStands order h p v → story.hears s heard
      → Tells other order h header v rest heard step new new_s) → Tells other order h header b bytes before step new new_s
  tells_after {other = other} {new} step {new_s} more =
      let u = more (b ++ t.walked.done) (before ++ items_after order h header b t.walked.done) rest_bytes t.walked.stands t.hears in
      record {
        rows = t.rows ++ u.rows;
        gives = given_join t.walked step u.rows new u.gives;
        taken = t.walked.done ++ u.taken;
        split = joined t.walked u.taken (left_by step) u.split;
        sink = subst (λ (items : List Item). StandsAfter other new_s items step)
            (heard_join order h header before b t.walked.done u.taken) u.sink;
      }

-- all bytes are taken, and nothing is given
pub tells_all : {S : Type 0} {story : Story S} {order : Order} {h : Params} {header : HeaderData} {b bytes : List ℕ}
    {before : List Item} {p : Program} {rest : List ℕ} {s : S} → Telling story order h header b bytes before p rest s
    → rest ≡ [] → Tells story order h header b bytes before given.Nothing p s
tells_all t none = record {
  rows = t.rows;
  gives = nothing_left t.walked none;
  taken = t.walked.done;
  split = rw none at t.walked.split;
  sink = t.hears;
}

-- ---- between operations

at_start : (h : Params) (at : OperationState) → PhaseStands h at [] → at ≡ phase.Start
at_start h phase.Start s = refl
at_start h other s = absurd cc

-- no operation is begun exactly where nothing is left after the complete ones
pub between : (order : Order) (h : Params) (p : Program) (b : List ℕ) → ProgramStands order h p b
    → (p.phase ≡ phase.Start) ↔ ((operations_in order h b).rest ≡ [])
between order h p b s = (
  λ at. rest_here s ∙ rw at at s.phase,
  λ e. at_start h p.phase (rw (sym (rest_here s) ∙ e) at s.phase),
)
