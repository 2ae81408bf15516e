-- Bytes of a unit offered in turns.
use Rattle.std.proofs.Common.{◌≡◌, ◌+◌, ◌<◌, ◌≤◌, ◌⊎◌, inl, inr, ℕ, true, false, cond, List, [], ◌∷◌, ◌++◌}
use Rattle.std.proofs.Common.{length, min, take, drop, Result, Ok, Err, sym, ap, ◌∙◌}
use Rattle.std.proofs.Common.{arith, append_assoc, append-nil, length-take, length-drop, length-append}
use Rattle.std.proofs.lemmas.Bool.{cases_eq}
use Rattle.std.proofs.lemmas.List.{take-take, take-append-drop, length-take-le, nil_from_length}
use Rattle.std.proofs.lemmas.List.Sums.{sum_by-cons}
use Rattle.dl_head.specs.declared.dialect.Dialect.{Dialect}
use Rattle.dl_head.specs.declared.fault.Fault.{Fault}
use Rattle.dl_head.specs.Turns.{Answer, used_in, last_given, IsTrace, some_turns}
use Rattle.dl_head.proofs.TurnLemmas.{joined, used_cons, goes_first, trace_rest, true_false, true_or_false}
use Rattle.dl_rows.specs.declared.reader.Event.{Event}
use Rattle.dl_rows.specs.declared.reader.Event.TheVariants as event
use Rattle.dl_rows.specs.declared.reader.run.Run.{Run}
use Rattle.dl_rows.specs.LineUnit.{IsUnit, events}
use Rattle.dl_rows.specs.Reading.{WithinUnit}
use Rattle.dl_rows.specs.Refusal.{Refused}
use Rattle.dl_rows.specs.Runs.{MayGive, May, is_end, goes_on, is_refusal, refusals, told_by, heard_in, outcome, Took}
use Rattle.dl_rows.specs.Runs.{Sound, Runs, RunIs, TraceRuns, TookUnit, UnitRuns, UnitRunIs, TraceOfUnit}
use Rattle.dl_rows.proofs.FirstLemmas.{split_front}
use Rattle.dl_rows.proofs.UnitLemmas.{unit_len_on}
use Rattle.dl_rows.proofs.UnitLengths.{length_of_unit, no_unit_begins_another}
use Rattle.dl_rows.proofs.UnitQuiet.{unit_is_not_refused}

abbrev pub Given : Type 0
Given = Answer (Result Event Fault)

-- ---- what was taken

-- the bytes of a turn
pub turned : (b bytes : List ℕ) (taken n used : ℕ) → used ≤ length (take n (drop taken bytes))
    → (b ++ take taken bytes) ++ take used (take n (drop taken bytes)) ≡ b ++ take (taken + used) bytes
turned b bytes taken n used le =
    rw (take-take used n (drop taken bytes) (omega (arith, le, length-take n (drop taken bytes))))
    (joined b bytes taken used)

end_event : (e : Event) → is_end e ≡ true → e ≡ event.End
end_event e ends = grind arith

going_event : (e : Event) → is_end e ≡ false → goes_on (Ok e) ≡ true
going_event e goes = grind arith

-- neither End nor want of memory
pub other_event : (e : Event) → (e ≡ event.End → ⊥) → (e ≡ event.NoMemory → ⊥)
    → (goes_on (Ok e) ≡ true) × (is_refusal (Ok e) ≡ false)
other_event e ends fed = grind arith

-- what the last answer says of all bytes that were taken
abbrev Says : Dialect → List ℕ → Result Event Fault → Type 0
Says dialect c (Ok e) = Sound dialect c × (is_end e ≡ true → IsUnit dialect c)
Says dialect c (Err fault) = Refused dialect c fault.offset fault.kind

record Went (dialect : Dialect) (b bytes : List ℕ) (used : ℕ) (heard : List Event) (gave : Result Event Fault)
    : Type 0 where
  took : Took dialect b bytes used heard
  says : Says dialect (b ++ take used bytes) gave

-- one turn
went : (dialect : Dialect) (b bytes : List ℕ) (n used : ℕ) (gave : Result Event Fault)
    → MayGive dialect b (take n bytes) used gave → Went dialect b bytes used (told_by gave) gave
went dialect b bytes n used (Ok e) m =
    let same = take-take used n bytes (omega (arith, m.within, length-take n bytes)) in
    record {
      took = record {
        within = omega (arith, m.within, length-take n bytes);
        in_unit = rw same at m.in_unit;
        grows = rw same at m.grows;
      };
      says = (rw same at m.sound, λ ends. rw same at (rw (end_event e ends) at m.holds).0);
    }
went dialect b bytes n used (Err fault) m =
    let same = take-take used n bytes (omega (arith, m.within, length-take n bytes)) in
    record {
      took = record {
        within = omega (arith, m.within, length-take n bytes);
        in_unit = rw same at m.in_unit;
        grows = rw append-nil (rw same at m.no_event);
      };
      says = rw same at m.refused;
    }

took_none : (dialect : Dialect) (b bytes : List ℕ) → WithinUnit dialect b → Took dialect b bytes 0 []
took_none dialect b bytes in_unit =
    record { within = omega arith; in_unit = rw append-nil in_unit; grows = simp append-nil }

-- k bytes, and then more
took_after : {dialect : Dialect} {b bytes : List ℕ} {k used : ℕ} {first heard : List Event}
    → Took dialect b bytes k first → Took dialect (b ++ take k bytes) (drop k bytes) used heard
    → Took dialect b bytes (k + used) (first ++ heard)
took_after {dialect} {b} {bytes} {k} {used} {first} {heard} t o = record {
  within = omega (arith, t.within, o.within, length-drop k bytes);
  in_unit = rw (joined b bytes k used) at o.in_unit;
  grows = cc (joined b bytes k used, append_assoc (events dialect b) first heard);
}

trace_went : (dialect : Dialect) (b bytes turns : List ℕ) (a : Given) (answers : List Given)
    → IsTrace (May dialect) goes_on b bytes turns (a ∷ answers)
    → Went dialect b bytes (used_in (a ∷ answers)) (heard_in (a ∷ answers)) (last_given a.gave answers)
trace_went dialect b bytes turns a [] t =
    let r = trace_rest (May dialect) goes_on b bytes turns a [] t in
    let all : used_in (a ∷ []) ≡ a.used = used_cons a [] ∙ omega arith in
    rw (all, append-nil) (went dialect b bytes r.0 a.used a.gave r.2)
trace_went dialect b bytes turns a (c ∷ answers) t =
    let r = trace_rest (May dialect) goes_on b bytes turns a (c ∷ answers) t in
    let later = trace_went dialect (b ++ take a.used bytes) (drop a.used bytes) r.1 c answers r.3 in
    rw (used_cons a (c ∷ answers)) (record {
      took = took_after (went dialect b bytes r.0 a.used a.gave r.2).took later.took;
      says = rw (← joined b bytes a.used (used_in (c ∷ answers))) later.says;
    })

trace_took : (dialect : Dialect) (b bytes turns : List ℕ) (answers : List Given) → WithinUnit dialect b
    → IsTrace (May dialect) goes_on b bytes turns answers → Took dialect b bytes (used_in answers) (heard_in answers)
trace_took dialect b bytes turns [] in_unit t = took_none dialect b bytes in_unit
trace_took dialect b bytes turns (a ∷ answers) in_unit t = (trace_went dialect b bytes turns a answers t).took

-- ---- how far turns go

-- what an answer that others follow used
advances : (dialect : Dialect) (d piece : List ℕ) (used : ℕ) (gave : Result Event Fault) → goes_on gave ≡ true
    → MayGive dialect d piece used gave → (1 ≤ used + cond (is_refusal gave) 1 0)
    ⊎ ((used ≡ length piece) × (IsUnit dialect (d ++ take used piece) → 1 ≤ used))
advances dialect d piece used (Ok event.More) goes may = inr may.holds
advances dialect d piece used (Ok event.End) goes may = absurd cc
advances dialect d piece used (Ok event.NoMemory) goes may = inl (omega arith)
advances dialect d piece used (Ok other) goes may = inl (omega (arith, may.holds.0))
advances dialect d piece used (Err fault) goes may = absurd cc

refusals_cons : (a : Given) (answers : List Given)
    → refusals (a ∷ answers) ≡ cond (is_refusal a.gave) 1 0 + refusals answers
refusals_cons a answers = sum_by-cons (λ (c : Given). cond (is_refusal c.gave) 1 0) a answers

-- each turn that offered anything took a byte or was refused memory, or all bytes are taken, and are no unit
abbrev Moved : Dialect → (b bytes turns : List ℕ) → (taken refused : ℕ) → Type 0
Moved dialect b bytes turns taken refused =
    ((taken ≡ length bytes) × (IsUnit dialect (b ++ take taken bytes) → ⊥)) ⊎ (some_turns turns ≤ taken + refused)

trace_moves : (dialect : Dialect) (b bytes turns : List ℕ) (answers : List Given) (first : Result Event Fault)
    → WithinUnit dialect b → IsTrace (May dialect) goes_on b bytes turns answers
    → goes_on (last_given first answers) ≡ true
    → Moved dialect b bytes turns (used_in answers) (refusals answers)
trace_moves dialect b bytes [] answers first in_unit t goes = inr (omega arith)
trace_moves dialect b bytes (n ∷ turns) [] first in_unit t goes = absurd t
trace_moves dialect b bytes (n ∷ turns) (a ∷ answers) first in_unit t goes =
    let is = goes_first goes_on a answers t.1 goes in
    let here = (went dialect b bytes n a.used a.gave t.0).took in
    let d = b ++ take a.used bytes in
    let rest = drop a.used bytes in
    let later = trace_took dialect d rest turns answers here.in_unit (t.2 is) in
    let left = length-drop a.used bytes in
    let counted = sum_by-cons (λ (k : ℕ). min k 1) n turns in
    rw (used_cons a answers, refusals_cons a answers)
    (elim (trace_moves dialect d rest turns answers a.gave here.in_unit (t.2 is) goes) [
      | inl all ↦ inl (
        omega (arith, all.0, here.within, left),
        λ unit. all.1 (rw (joined b bytes a.used (used_in answers)) unit),
      )
      | inr some ↦ elim (advances dialect b (take n bytes) a.used a.gave is t.0) [
        | inl moved ↦ inr (omega (arith, moved, some, counted))
        | inr all ↦ elim (cases_eq a.used 0) [
          | inr any ↦ inr (omega (arith, any, some, counted))
          | inl none ↦ elim (cases_eq (length bytes) 0) [
            | inr any ↦ inr (omega (arith, any, none, all.0, some, counted, length-take n bytes))
            | inl empty ↦
                let nothing : a.used + used_in answers ≡ a.used = omega (arith, later.within, left, empty) in
                let same = take-take a.used n bytes (omega (arith, none)) in
                inl (
                  omega (arith, nothing, none, empty),
                  λ unit. (let one = all.1 (rw (same, ← nothing) unit) in omega (arith, one, none)),
                )
          ]
        ]
      ]
    ])

-- ---- what a trace comes to

runs_to : (dialect : Dialect) (b bytes turns : List ℕ) (answers : List Given) (gave : Result Event Fault)
    → Went dialect b bytes (used_in answers) (heard_in answers) gave
    → (goes_on gave ≡ true → Moved dialect b bytes turns (used_in answers) (refusals answers))
    → RunIs dialect b bytes turns (heard_in answers) (outcome answers gave)
runs_to dialect b bytes turns answers (Ok e) w moves = record {
  took = w.took;
  sound = λ some. w.says.0;
  whole = w.says.1;
  moved = λ goes. elim (moves (going_event e goes)) [ inl all ↦ inl all.0 | inr some ↦ inr some ];
}
runs_to dialect b bytes turns answers (Err fault) w moves = (used_in answers, w.took, w.says)

pub trace_runs : TraceRuns
trace_runs dialect b bytes [] answers in_unit t = rw t (record {
  took = took_none dialect b bytes in_unit;
  sound = λ some. absurd (omega (arith, some));
  whole = λ ends. absurd cc;
  moved = λ goes. inr (omega arith);
})
trace_runs dialect b bytes (n ∷ turns) [] in_unit t = absurd t
trace_runs dialect b bytes (n ∷ turns) (a ∷ answers) in_unit t =
    runs_to dialect b bytes (n ∷ turns) (a ∷ answers) (last_given a.gave answers)
    (trace_went dialect b bytes (n ∷ turns) a answers t)
    (trace_moves dialect b bytes (n ∷ turns) (a ∷ answers) (Ok event.More) in_unit t)

-- ---- a unit in turns

module _ (dialect : Dialect) (b bytes u rest : List ℕ) (e : b ++ bytes ≡ u ++ rest) (unit : IsUnit dialect u) where
  -- what is taken is a front of the unit
  front_of : {used : ℕ} {heard : List Event} → Took dialect b bytes used heard
      → (v : List ℕ) × (u ≡ (b ++ take used bytes) ++ v)
  front_of {used} t =
      let c = b ++ take used bytes in
      let whole : c ++ drop used bytes ≡ u ++ rest = rw (append_assoc, take-append-drop) e in
      elim (split_front c (drop used bytes) u rest whole) [
        | inl (x, v, goes) ↦
            let len = unit_len_on dialect u (x ∷ v) (length u) (length_of_unit dialect u unit) in
            let le = t.in_unit (length u) (rw goes len) in
            absurd (omega (arith, le, ap length goes, length-append u (x ∷ v)))
        | inr (v, is, left) ↦ (v, is)
      ]

  unit_runs : {turns : List ℕ} {heard : List Event} {run : Run} → Runs dialect b bytes turns heard run
      → (run.ended ≡ false → Moved dialect b bytes turns run.taken run.refused)
      → UnitRuns dialect b bytes turns u heard run
  unit_runs {turns} {heard} {run} r moves =
      record { within = omega (arith, size); whole = λ k. took_unit (none_left k); ended = told_end }
    where
      c : List ℕ
      c = b ++ take run.taken bytes

      front : (v : List ℕ) × (u ≡ (b ++ take run.taken bytes) ++ v)
      front = front_of r.took

      -- how many bytes of the unit are left
      size : length u ≡ length b + run.taken + length front.0
      size = omega (
        arith,
        ap length front.1,
        length-append (b ++ take run.taken bytes) front.0,
        length-append b (take run.taken bytes),
        length-take-le run.taken bytes r.took.within,
      )

      none_left : (run.ended ≡ true) ⊎ (length u + run.refused ≤ length b + some_turns turns) → front.0 ≡ []
      none_left k = elim (true_or_false run.ended) [
        | inl is ↦ no_unit_begins_another dialect (b ++ take run.taken bytes) front.0 (r.whole is) (rw front.1 at unit)
        | inr is ↦ nil_from_length front.0 (elim k [
          | inl told ↦ absurd (true_false told is)
          | inr enough ↦ elim (r.moved is) [
            | inl all ↦ omega (arith, all, size, ap length e, length-append b bytes, length-append u rest)
            | inr some ↦ omega (arith, some, enough, size)
          ]
        ])
      ]

      took_unit : front.0 ≡ [] → TookUnit dialect b bytes u run.taken heard
      took_unit none =
          let same : b ++ take run.taken bytes ≡ u = sym (rw (none, append-nil) at front.1) in
          record {
            count = omega (arith, size, ap length none);
            is = same;
            grows = rw same at r.took.grows;
          }

      told_end : length u + run.refused < length b + some_turns turns → run.ended ≡ true
      told_end more = elim (true_or_false run.ended) [
        | inl is ↦ is
        | inr is ↦
            let t = took_unit (none_left (inr (omega (arith, more)))) in
            absurd (elim (moves is) [
              | inl all ↦ all.1 (rw t.is unit)
              | inr some ↦ omega (arith, some, more, t.count)
            ])
      ]

  unit_run : (turns : List ℕ) (answers : List Given) (gave : Result Event Fault)
      → RunIs dialect b bytes turns (heard_in answers) (outcome answers gave)
      → (goes_on gave ≡ true → Moved dialect b bytes turns (used_in answers) (refusals answers))
      → UnitRunIs dialect b bytes turns u (heard_in answers) (outcome answers gave)
  unit_run turns answers (Ok told) r moves = unit_runs r (λ goes. moves (going_event told goes))
  unit_run turns answers (Err fault) r moves =
      let f = front_of r.1 in
      unit_is_not_refused dialect u unit (b ++ take r.0 bytes) f.0 fault.offset fault.kind f.1 r.2

pub trace_of_unit : TraceOfUnit
trace_of_unit dialect b bytes turns u rest answers in_unit t e unit =
    unit_run dialect b bytes u rest e unit turns answers (last_given (Ok event.More) answers)
    (trace_runs dialect b bytes turns answers in_unit t)
    (trace_moves dialect b bytes turns answers (Ok event.More) in_unit t)
