-- The loop of a run: its turns so far, and one more.
use Rattle.std.proofs.Common.{◌≡◌, ◌+◌, ◌<◌, ◌≤◌, ℕ, true, false, cond, List, [], ◌∷◌, ◌++◌, length, take, drop}
use Rattle.std.proofs.Common.{slice_index_or, Result, Ok, Err, refl, arith, append_assoc, append-nil, add-zero}
use Rattle.std.proofs.lemmas.List.{take_all}
use Rattle.std.proofs.lemmas.List.Sums.{sum_by_push}
use Rattle.std.proofs.lemmas.Grind.{flat_map-append}
use Rattle.dl_head.specs.declared.dialect.Dialect.{Dialect}
use Rattle.dl_head.specs.declared.fault.Fault.{Fault}
use Rattle.dl_head.specs.Turns.{used_in, last_given, IsTrace}
use Rattle.dl_head.proofs.TurnLemmas.{last_of_push, trace_more, trace_last}
use Rattle.dl_rows.specs.declared.reader.Event.{Event}
use Rattle.dl_rows.specs.declared.reader.Event.TheVariants as event
use Rattle.dl_rows.specs.declared.reader.Fed.{Fed}
use Rattle.dl_rows.specs.declared.reader.Reader.{Reader}
use Rattle.dl_rows.specs.declared.reader.run.Run.{Run}
use Rattle.dl_rows.specs.Heard.{Hears}
use Rattle.dl_rows.specs.LineUnit.{IsUnit}
use Rattle.dl_rows.specs.Reading.{told}
use Rattle.dl_rows.specs.ReaderStands.{StandsFor}
use Rattle.dl_rows.specs.ReaderAnswers.{ReaderFed}
use Rattle.dl_rows.specs.Runs.{MayGive, May, goes_on, is_refusal, refusals, told_by, heard_in, outcome, Traced, RunIs}
use Rattle.dl_rows.specs.Runs.{UnitRunIs}
use Rattle.dl_rows.proofs.ReaderLemmas.{within_here}
use Rattle.dl_rows.proofs.RunLemmas.{Given, turned, trace_runs, trace_of_unit}

-- the first i turns, which others follow: of the bytes so many were taken, and memory was refused so often
pub record Going {S : Type 0} (Heard : S → List Event → Type 0) (dialect : Dialect) (b bytes turns : List ℕ)
    (i taken refused : ℕ) (before now : S) (r : Reader) : Type 0 where
  pub answers : List Given
  pub trace : IsTrace (May dialect) goes_on b bytes (take i turns) answers
  pub goes : goes_on (last_given (Ok event.More) answers) ≡ true
  pub taken_is : taken ≡ used_in answers
  pub refused_is : refused ≡ refusals answers
  pub hears : Hears Heard before now (heard_in answers)
  pub stands : StandsFor r (b ++ take (used_in answers) bytes)

hears_none : {S : Type 0} (Heard : S → List Event → Type 0) (l : S) → Hears Heard l l []
hears_none Heard l = λ es h. rw append-nil h

pub going_none : {S : Type 0} (Heard : S → List Event → Type 0) (b bytes turns : List ℕ) (l : S) (r : Reader)
    → StandsFor r b → Going Heard r.dialect b bytes turns 0 0 0 l l r
going_none Heard b bytes turns l r s = record {
  answers = [];
  trace = refl;
  goes = refl;
  taken_is = refl;
  refused_is = refl;
  hears = hears_none Heard l;
  stands = rw append-nil s;
}

-- what stands after a turn in which used bytes were taken, and this was answered
record Turned {S : Type 0} (Heard : S → List Event → Type 0) (dialect : Dialect) (b bytes turns : List ℕ)
    (i taken refused : ℕ) (before after : S) (new : Reader) (used : ℕ) (gave : Result Event Fault) : Type 0 where
  answers : List Given
  goes : goes_on gave ≡ true → IsTrace (May dialect) goes_on b bytes (take (i + 1) turns) answers
  ends : goes_on gave ≡ false → IsTrace (May dialect) goes_on b bytes turns answers
  gave_is : last_given (Ok event.More) answers ≡ gave
  taken_is : taken + used ≡ used_in answers
  refused_is : refused + cond (is_refusal gave) 1 0 ≡ refusals answers
  hears : Hears Heard before after (heard_in answers)
  stands : StandsFor new (b ++ take (used_in answers) bytes)

module _ {S : Type 0} {Heard : S → List Event → Type 0} {dialect : Dialect} {b bytes turns : List ℕ}
    {i taken refused : ℕ} {before now : S} {r : Reader}
    (g : Going Heard dialect b bytes turns i taken refused before now r) (same : r.dialect ≡ dialect)
    (lt : i < length turns)
    (piece : List ℕ) (is : piece ≡ take (slice_index_or turns i 0) (drop taken bytes)) where
  abbrev d : List ℕ
  d = b ++ take (used_in g.answers) bytes

  turn : (after : S) (new : Reader) (used : ℕ) (gave : Result Event Fault) → MayGive dialect d piece used gave
      → used ≤ length piece → StandsFor new (d ++ take used piece) → Hears Heard now after (told_by gave)
      → Turned Heard dialect b bytes turns i taken refused before after new used gave
  turn after new used gave may le stands hears =
      let n = slice_index_or turns i 0 in
      let answer : Given = record { used = used; gave = gave } in
      let piece_is : piece ≡ take n (drop (used_in g.answers) bytes) = rw g.taken_is at is in
      let here : May dialect d (take n (drop (used_in g.answers) bytes)) answer = rw piece_is at may in
      let all = turned b bytes (used_in g.answers) n used (rw piece_is at le) in
      let sum : taken + used ≡ used_in (g.answers ++ answer ∷ []) =
      omega (arith, g.taken_is, sum_by_push (λ (a : Given). a.used) g.answers answer) in
      record {
        answers = g.answers ++ answer ∷ [];
        goes = λ more. trace_more (May dialect) goes_on b bytes turns i g.answers answer (Ok event.More) lt g.trace
            g.goes here;
        ends = trace_last (May dialect) goes_on b bytes turns i g.answers answer (Ok event.More) lt g.trace g.goes here;
        gave_is = last_of_push (Ok event.More) g.answers answer;
        taken_is = sum;
        refused_is = omega (
          arith,
          g.refused_is,
          sum_by_push (λ (a : Given). cond (is_refusal a.gave) 1 0) g.answers answer,
        );
        hears = λ es h.
            rw (flat_map-append (λ (a : Given). told_by a.gave) g.answers (answer ∷ []), append-nil, ← append_assoc)
            (hears (es ++ heard_in g.answers) (g.hears es h));
        stands = rw (← sum, g.taken_is) (rw all at (rw piece_is at stands));
      }

  -- by what the reader answered
  module _ (after : S) (new : Reader) (fed : Fed)
      (feed : (d : List ℕ) → StandsFor r d → ReaderFed r.dialect d piece (Ok fed) new)
      (hears : Hears Heard now after (told fed.event)) where
    fed_turn : Turned Heard dialect b bytes turns i taken refused before after new fed.used (Ok fed.event)
    fed_turn =
        let f : ReaderFed dialect d piece (Ok fed) new = rw same at (feed d g.stands) in
        turn after new fed.used (Ok fed.event) f.answered f.answered.within f.stands hears

    pub going_on : goes_on (Ok fed.event) ≡ true → Going Heard dialect b bytes turns (i + 1) (taken + fed.used)
        (refused + cond (is_refusal (Ok fed.event)) 1 0) before after new
    going_on goes =
        let t = fed_turn in
        record {
          answers = t.answers;
          trace = t.goes goes;
          goes = rw t.gave_is goes;
          taken_is = t.taken_is;
          refused_is = t.refused_is;
          hears = t.hears;
          stands = t.stands;
        }

    pub traced_end : fed.event ≡ event.End → Traced dialect b bytes turns (Hears Heard before after) (Ok (record {
      taken = taken + fed.used;
      refused = refused;
      ended = true;
    })) new
    traced_end ends = (let t = fed_turn in record {
      answers = t.answers;
      trace = t.ends (rw ends);
      result_is = rw (t.gave_is, ← t.taken_is, ← t.refused_is, ends, add-zero);
      hears = t.hears;
      stands = t.stands;
    })

  pub traced_fault : (new : Reader) (fault : Fault)
      → ((d : List ℕ) → StandsFor r d → ReaderFed r.dialect d piece (Err fault) new)
      → Traced dialect b bytes turns (Hears Heard before now) (Err fault) new
  traced_fault new fault feed =
      let f = rw same at (feed d g.stands) in
      let t = turn now new f.0 (Err fault) f.1 f.1.within f.2 (hears_none Heard now) in
      record { answers = t.answers; trace = t.ends refl; result_is = rw t.gave_is; hears = t.hears; stands = t.stands }

pub traced_all : {S : Type 0} {Heard : S → List Event → Type 0} {dialect : Dialect} {b bytes turns : List ℕ}
    {i taken refused : ℕ} {before now : S} {r : Reader} → Going Heard dialect b bytes turns i taken refused before now r
    → length turns ≤ i → Traced dialect b bytes turns (Hears Heard before now) (Ok (record {
      taken = taken;
      refused = refused;
      ended = false;
    })) r
traced_all {turns = turns} {i = i} {taken = taken} {refused = refused} g le = record {
  answers = g.answers;
  trace = rw (take_all i turns le) at g.trace;
  result_is = rw (g.taken_is, g.refused_is) (not_ended g.answers (last_given (Ok event.More) g.answers) g.goes);
  hears = g.hears;
  stands = g.stands;
} where
  not_ended : (answers : List Given) (gave : Result Event Fault) → goes_on gave ≡ true
      → Ok (record { taken = used_in answers; refused = refusals answers; ended = false }) ≡ outcome answers gave
  not_ended answers gave goes = grind arith

-- what a reader that stands for b makes of a trace
module _ (r : Reader) {b bytes turns : List ℕ} (s : StandsFor r b) {Heard : List Event → Type 0}
    {result : Result Run Fault} {new : Reader} (t : Traced r.dialect b bytes turns Heard result new) where
  pub runs_of : (heard : List Event) × Heard heard × RunIs r.dialect b bytes turns heard result
  runs_of = (
    heard_in t.answers,
    t.hears,
    rw t.result_is (trace_runs r.dialect b bytes turns t.answers (within_here r.dialect b r.state s) t.trace),
  )

  pub unit_of : (u rest : List ℕ) → b ++ bytes ≡ u ++ rest → IsUnit r.dialect u → (heard : List Event) × Heard heard
      × UnitRunIs r.dialect b bytes turns u heard result
  unit_of u rest e unit = (
    heard_in t.answers,
    t.hears,
    rw t.result_is (trace_of_unit r.dialect b bytes turns u rest t.answers (within_here r.dialect b r.state s) t.trace e
        unit),
  )
