-- What turns over the bytes of a unit come to. DWARF 5, section 6.2.4.
use Rattle.std.specs.Prelude.{◌≡◌, ◌+◌, ◌<◌, ◌≤◌, ◌⊎◌, ℕ, Bool, true, false, List, [], ◌++◌, length, take, count_by}
use Rattle.std.specs.Prelude.{flat_map, Result, Ok, Err}
use Rattle.dl_head.specs.declared.dialect.Dialect.{Dialect}
use Rattle.dl_head.specs.declared.fault.Fault.{Fault}
use Rattle.dl_table.specs.declared.fault.FaultKind.{FaultKind}
use Rattle.dl_head.specs.Turns.{Answer, used_in, last_given, IsTrace, some_turns}
use Rattle.dl_rows.specs.declared.reader.Event.{Event}
use Rattle.dl_rows.specs.declared.reader.Event.TheVariants as event
use Rattle.dl_rows.specs.declared.reader.Reader.{Reader}
use Rattle.dl_rows.specs.declared.reader.run.Run.{Run}
use Rattle.dl_rows.specs.LineUnit.{IsUnit, events}
use Rattle.dl_rows.specs.Reading.{WithinUnit, Answered, Fails, told}
use Rattle.dl_rows.specs.ReaderStands.{StandsFor}
use Rattle.dl_rows.specs.Refusal.{Refused}

-- ---- the answers

-- what a piece may be answered after b, where `used` of its bytes are used: an event, or a fault
abbrev pub MayGive : Dialect → (b piece : List ℕ) → ℕ → Result Event Fault → Type 0
MayGive dialect b piece used (Ok event) = Answered dialect b piece (record { used = used; event = event })
MayGive dialect b piece used (Err fault) = Fails dialect b piece fault used

abbrev pub May : Dialect → (b piece : List ℕ) → Answer (Result Event Fault) → Type 0
May dialect b piece answer = MayGive dialect b piece answer.used answer.gave

abbrev pub is_end : Event → Bool
is_end event.End = true
is_end other = false

-- whether another turn follows
abbrev pub goes_on : Result Event Fault → Bool
goes_on (Ok event.End) = false
goes_on (Ok other) = true
goes_on (Err fault) = false

abbrev pub is_refusal : Result Event Fault → Bool
is_refusal (Ok event.NoMemory) = true
is_refusal other = false

-- how often memory was refused
abbrev pub refusals : List (Answer (Result Event Fault)) → ℕ
refusals answers = count_by (λ a. is_refusal a.gave) answers

abbrev pub told_by : Result Event Fault → List Event
told_by (Ok event) = told event
told_by (Err fault) = []

-- the events that were told, in their order
abbrev pub heard_in : List (Answer (Result Event Fault)) → List Event
heard_in answers = flat_map (λ a. told_by a.gave) answers

-- what a run says of its answers, by the last one
abbrev pub outcome : List (Answer (Result Event Fault)) → Result Event Fault → Result Run Fault
outcome answers (Ok event) = Ok (record { taken = used_in answers; refused = refusals answers; ended = is_end event })
outcome answers (Err fault) = Err fault

-- bytes offered in turns: what was answered, what a listener heard, and what the run says of it
pub record Traced (dialect : Dialect) (b bytes turns : List ℕ) (Hears : List Event → Type 0) (result : Result Run Fault)
    (new : Reader) : Type 0 where
  pub answers : List (Answer (Result Event Fault))
  pub trace : IsTrace (May dialect) goes_on b bytes turns answers
  pub result_is : result ≡ outcome answers (last_given (Ok event.More) answers)
  pub hears : Hears (heard_in answers)
  pub stands : StandsFor new (b ++ take (used_in answers) bytes)

-- ---- what comes of the bytes that were taken

-- after b the first used of some bytes were taken, and these events heard, which are what they came to
pub record Took (dialect : Dialect) (b bytes : List ℕ) (used : ℕ) (heard : List Event) : Type 0 where
  pub within : used ≤ length bytes
  pub in_unit : WithinUnit dialect (b ++ take used bytes)
  pub grows : events dialect (b ++ take used bytes) ≡ events dialect b ++ heard

-- no front of b is refused
abbrev pub Sound : Dialect → List ℕ → Type 0
Sound dialect b = (front back : List ℕ) (at : ℕ) (kind : FaultKind) → b ≡ front ++ back
    → Refused dialect front at kind → ⊥

-- without a fault
pub record Runs (dialect : Dialect) (b bytes turns : List ℕ) (heard : List Event) (run : Run) : Type 0 where
  pub took : Took dialect b bytes run.taken heard
  pub sound : 1 ≤ length turns → Sound dialect (b ++ take run.taken bytes)
  pub whole : run.ended ≡ true → IsUnit dialect (b ++ take run.taken bytes)
  -- where the unit goes on, each turn that offered anything took a byte or was refused memory, or all bytes are taken
  pub moved : run.ended ≡ false → (run.taken ≡ length bytes) ⊎ (some_turns turns ≤ run.taken + run.refused)

-- or up to a fault
abbrev pub RunIs : Dialect → (b bytes turns : List ℕ) → List Event → Result Run Fault → Type 0
RunIs dialect b bytes turns heard (Ok run) = Runs dialect b bytes turns heard run
RunIs dialect b bytes turns heard (Err fault) =
    (used : ℕ) × Took dialect b bytes used heard × Refused dialect (b ++ take used bytes) fault.offset fault.kind

-- ---- where the bytes complete a unit

-- after b exactly the bytes of u were taken, and what they came to was heard
pub record TookUnit (dialect : Dialect) (b bytes u : List ℕ) (taken : ℕ) (heard : List Event) : Type 0 where
  pub count : length b + taken ≡ length u
  pub is : b ++ take taken bytes ≡ u
  pub grows : events dialect u ≡ events dialect b ++ heard

-- turns over the bytes that complete the unit u after b, and over any that follow it
pub record UnitRuns (dialect : Dialect) (b bytes turns u : List ℕ) (heard : List Event) (run : Run) : Type 0 where
  pub within : length b + run.taken ≤ length u
  -- where the end is told, or there are as many turns that offer anything as bytes of u after b and refusals of memory
  pub whole : (run.ended ≡ true) ⊎ (length u + run.refused ≤ length b + some_turns turns)
      → TookUnit dialect b bytes u run.taken heard
  -- with one turn more the end is told
  pub ended : length u + run.refused < length b + some_turns turns → run.ended ≡ true

-- there is no fault
abbrev pub UnitRunIs : Dialect → (b bytes turns u : List ℕ) → List Event → Result Run Fault → Type 0
UnitRunIs dialect b bytes turns u heard (Ok run) = UnitRuns dialect b bytes turns u heard run
UnitRunIs dialect b bytes turns u heard (Err fault) = ⊥

-- ---- laws of traces, b being no longer than its unit

-- the events that are heard are those of the bytes that are used, of which no front is refused; at a fault they are
abbrev pub TraceRuns : Type 0
TraceRuns =
    (dialect : Dialect) (b bytes turns : List ℕ) (answers : List (Answer (Result Event Fault))) → WithinUnit dialect b
    → IsTrace (May dialect) goes_on b bytes turns answers
    → RunIs dialect b bytes turns (heard_in answers) (outcome answers (last_given (Ok event.More) answers))

-- where the bytes complete a unit, whatever follows it: no fault, no byte after it, and with enough turns exactly its
-- bytes and events
abbrev pub TraceOfUnit : Type 0
TraceOfUnit =
    (dialect : Dialect) (b bytes turns u rest : List ℕ) (answers : List (Answer (Result Event Fault)))
    → WithinUnit dialect b → IsTrace (May dialect) goes_on b bytes turns answers
    → b ++ bytes ≡ u ++ rest → IsUnit dialect u
    → UnitRunIs dialect b bytes turns u (heard_in answers) (outcome answers (last_given (Ok event.More) answers))
