-- What a reader answers after the header of a unit, or after a foreign version.
use Rattle.dl_head.specs.declared.dialect.Dialect.{Dialect}
use Rattle.std.proofs.Common.{◌≡◌, ◌≢◌, ◌⊎◌, inl, inr, ℕ, suc, get_or, ◌+◌, ◌-◌, ◌<◌, ◌≤◌, List, [], ◌∷◌, ◌++◌, length}
use Rattle.std.proofs.Common.{map, take, drop, Some, refl, subst, sym, ap, ◌∙◌, arith, length-append, append_assoc, append-nil}
use Rattle.std.proofs.Common.{length-take, Ok, Err}
use Rattle.std.proofs.lemmas.Bool.Decides.{nat_tests}
use Rattle.std.proofs.lemmas.Bool.{cases_eq}
use Rattle.std.proofs.lemmas.List.{take-append-drop, map-append}
use Rattle.dl_num.specs.Laws.{AllBytes}
use Rattle.dl_num.proofs.FrontLemmas.{front_before}
use Rattle.dl_head.specs.declared.fault.Fault.{Fault}
use Rattle.dl_table.specs.declared.fault.FaultKind.{FaultKind}
use Rattle.dl_table.specs.declared.fault.FaultKind.TheVariants as fault
use Rattle.dl_field.specs.declared.params.Params.{Params}
use Rattle.dl_field.specs.HeaderData.{HeaderData}
use Rattle.dl_head.specs.Header.{unit_len, foreign_in}
use Rattle.dl_field.proofs.FieldLemmas.{none_some}
use Rattle.dl_rows.specs.declared.program.Program.{Program}
use Rattle.dl_rows.specs.declared.program.ProgramStep.{ProgramStep}
use Rattle.dl_rows.specs.declared.reader.Event.{Event}
use Rattle.dl_rows.specs.declared.reader.Event.TheVariants as event
use Rattle.dl_rows.specs.declared.reader.Fed.{Fed}
use Rattle.dl_rows.specs.declared.row.Row.{Row}
use Rattle.dl_rows.specs.declared.unit_body.UnitBody.{UnitBody}
use Rattle.dl_rows.specs.declared.unit_body.UnitBytes.{UnitBytes}
use Rattle.dl_rows.specs.Items.{Item}
use Rattle.dl_rows.specs.LineUnit.{IsUnit, rows_in, ends_open, events}
use Rattle.dl_rows.specs.Programs.{ProgramStands, NothingGiven, RowGiven, BadGiven, Tells}
use Rattle.dl_rows.specs.Reading.{WithinUnit, told, EventHoldsAfter, FeedsAfter, FailsAfter, Fails, Feeds}
use Rattle.dl_rows.specs.Refusal.{Refused}
use Rattle.dl_rows.specs.Sinks.{Story}
use Rattle.dl_rows.specs.Sums.{FitsProgram}
use Rattle.dl_rows.specs.UnitBodies.{Counts, AfterHeader, InProgram, Stops, paused, BodyStopped, ProgramTells}
use Rattle.dl_rows.specs.UnitBodies.{BodyTells, InForeign}
use Rattle.dl_rows.proofs.HeardLemmas.{TakenOf, hears_nothing, taken_of}
use Rattle.dl_rows.proofs.OperandRanges.{bytes_front}
use Rattle.dl_rows.proofs.ProgramSteps.{rest_here, in_sequence_is}
use Rattle.dl_rows.proofs.RowBytes.{row_ends, front_is}
use Rattle.dl_rows.proofs.UnitBodyLemmas.{begun_in, header_at, rows_at, bad_at, overrun_at, later, events_more}
use Rattle.dl_rows.proofs.UnitBodyLemmas.{counts_within, Counted, counts_on, program_on, refused_on}
use Rattle.dl_rows.proofs.UnitLemmas.{unit_len_on}
use Rattle.dl_rows.proofs.UnitLengths.{some_same, length_of_unit, foreign_unit}
use Rattle.dl_rows.proofs.UnitWhole.{NoneRefused, unit_unless_refused}
use Rattle.dl_rows.specs.declared.unit_body.BodyState.TheVariants as body
use Rattle.dl_rows.specs.declared.unit_body.BodyStop.{BodyStop}
use Rattle.dl_head.proofs.ForeignLemmas.{foreign_on}
use Rattle.dl_rows.proofs.UnitQuiet.{foreign_quiet}

taken_all : (piece : List ℕ) (most used : ℕ) → used ≡ length (take most piece)
    → TakenOf piece most (take most piece) used
taken_all piece most used size =
    taken_of piece (take most piece) [] most used (sym (append-nil (take most piece))) (size ∙ omega arith)

-- an answer, u being what is taken of the piece
feeds_with : {S : Type 0} {StandsFor : S → List ℕ → Type 0} {dialect : Dialect} {before : List Event}
    {b piece u : List ℕ} {most : ℕ} {s : S} {fed : Fed} → TakenOf piece most u fed.used
    → StandsFor s (b ++ u) → events dialect (b ++ u) ≡ before ++ told fed.event
    → EventHoldsAfter dialect before b piece fed.used fed.event
    → NoneRefused dialect (b ++ u) → WithinUnit dialect (b ++ u) → FeedsAfter StandsFor dialect before b piece fed s
feeds_with taken stands grows holds sound in_unit = record {
  answered = record {
    within = taken.within;
    in_unit = rw taken.is in_unit;
    grows = rw taken.is grows;
    holds = holds;
    sound = rw taken.is sound;
  };
  stands = rw taken.is stands;
}

-- ---- where nothing is told

-- an end, or more is wanted
paused_cases : (taken left used len : ℕ) → 1 ≤ taken
    → ((paused taken left used len ≡ event.End) × (left ≡ 0) × ((used ≡ 0) ⊎ (used < len)))
    ⊎ ((paused taken left used len ≡ event.More) × (left ≡ 0 → (1 ≤ used) × (len ≤ used)))
paused_cases taken left used len some = grind (arith, nat_tests)

-- a pause after the events before, where nothing is refused
pub pauses : {S : Type 0} {StandsFor : S → List ℕ → Type 0} {dialect : Dialect} {before : List Event}
    {b piece : List ℕ} {t new : UnitBytes} {s : S} {fed : Fed} → fed.used ≡ length (take t.left piece)
    → fed.event ≡ paused new.taken new.left fed.used (length piece)
    → Counted t new (length (take t.left piece)) → Counts dialect t b → 1 ≤ length (b ++ take t.left piece)
    → StandsFor s (b ++ take t.left piece) → events dialect (b ++ take t.left piece) ≡ before
    → NoneRefused dialect (b ++ take t.left piece) → (new.left ≡ 0 → IsUnit dialect (b ++ take t.left piece))
    → FeedsAfter StandsFor dialect before b piece fed s
pauses {dialect = dialect} {before = before} {b = b} {piece = piece} {t = t} {new = new} {fed = fed} size is counted
    was some stands same sound whole =
    let u = take t.left piece in
    let taken = taken_all piece t.left fed.used size in
    let long = length-take t.left piece in
    let counts = counts_on u was taken.few counted in
    elim (paused_cases new.taken new.left fed.used (length piece) (omega (arith, some, counts.taken))) [
      | inl e ↦ feeds_with taken stands (rw (is, e.0, append-nil) same)
          (rw (is, e.0) (rw taken.is (whole e.1), e.2)) sound (counts_within counts)
      | inr m ↦
          let none_left = λ (unit : IsUnit dialect (b ++ take fed.used piece)).
          (let len = length_of_unit dialect (b ++ u) (rw taken.is at unit) in
          let e = some_same (new.taken + new.left) (length (b ++ u)) (sym counts.left ∙ len) in
          let none : new.left ≡ 0 = omega (arith, e, counts.taken) in (m.1 none).0) in
          let all : fed.used ≡ length piece = elim (cases_eq new.left 0) [
            | inl none ↦ (let m = m.1 none in omega (arith, taken.within, m.1))
            | inr other ↦ omega (arith, other, counted.left, size, long)
          ] in
          feeds_with taken stands (rw (is, m.0, append-nil) same) (rw (is, m.0) (all, none_left)) sound
          (counts_within counts)
    ]

-- ---- inside a program

some_bytes : {dialect : Dialect} {h : HeaderData} {b : List ℕ} → AfterHeader dialect h b → 1 ≤ length b
some_bytes {h = h} {b = []} a = absurd (none_some {a = (h, a.program)} refl (header_at a))
some_bytes {b = x ∷ b} a = omega arith

-- the elements of a list of bytes
pub all_bytes : (w : List ℕ) → ((i : ℕ) → i < length w → get_or w i 0 < 256) → AllBytes w
all_bytes [] h = tt
all_bytes (b ∷ w) h = (h 0 (omega arith), all_bytes w (λ i lt. h (suc i) (omega arith)))

-- what the reader of a program gives for the bytes that are left of the unit
pub tells_in : {S : Type 0} {story : Story S} {dialect : Dialect} {h : HeaderData} {p : Params} {t : UnitBody}
    {b bytes : List ℕ} {before : List Item} {step : ProgramStep} {new : Program} {s : S} (is : InProgram dialect h t b)
    (piece : List ℕ) → h.params ≡ p → bytes ≡ take t.bytes.left piece
    → ((i : ℕ) → i < length piece → get_or piece i 0 < 256)
    → ((c : List ℕ) → FitsProgram p → AllBytes bytes → ProgramStands dialect.order p t.program c
    → Tells story dialect.order p h c bytes before step new s)
    → Tells story dialect.order h.params h is.at.program (take t.bytes.left piece) before step new s
tells_in {story = story} {dialect = dialect} {h = h} {t = t} {before = before} {step = step} {new = new} {s = s} is piece
    params front all gives =
    let some : AllBytes (take t.bytes.left piece) =
    bytes_front (take t.bytes.left piece) (drop t.bytes.left piece) (rw take-append-drop (all_bytes piece all)) in
    subst (λ (p : Params). Tells story dialect.order p h is.at.program (take t.bytes.left piece) before step new s)
    (sym params) (rw front at (gives is.at.program (rw params at is.fits) (rw front some) (rw params at is.stands)))

pub feeds_row : {dialect : Dialect} {h : HeaderData} {t new : UnitBody} {b piece tail : List ℕ} {rows : List Row}
    {row : Row} {used : ℕ} (is : InProgram dialect h t b)
    → RowGiven dialect.order h.params is.at.program (take t.bytes.left piece) rows row tail new.program
    → used ≡ length (take t.bytes.left piece) - length tail → Counted t.bytes new.bytes used
    → FeedsAfter (InProgram dialect h) dialect (events dialect b ++ map event.Row rows) b piece
    (record { used = used; event = event.Row row }) new
feeds_row {dialect} {h} {t} {new} {b} {piece} {tail} {rows} {row} {used} is g size counted =
    let program = is.at.program in
    let u = g.front ++ g.last ∷ [] in
    let taken = taken_of piece u tail t.bytes.left used g.split size in
    let ends = rw append_assoc at (row_ends dialect.order h.params (program ++ g.front) g.last row
    (rw (append_assoc program g.front (g.last ∷ []), g.before) g.grown)) in
    let now = program_on is u taken.few new g.stands g.unrefused (λ full. ends) (rw taken.exact at counted) in
    let fewer : used - 1 ≡ length g.front = omega (arith, taken.exact, length-append g.front (g.last ∷ [])) in
    feeds_with taken now
    (rw (
      map-append event.Row rows (row ∷ []),
      ← append_assoc (events dialect b) (map event.Row rows) (event.Row row ∷
          []),
    ) at (events_more is.at u (rows ++ row ∷ []) (g.grown ∙ append_assoc (rows_in dialect.order h.params program)
    rows (row ∷ [])))) (
      omega (arith, taken.exact, length-append g.front (g.last ∷ [])),
      rw (fewer, front_is piece g.front (g.last ∷ []) used taken.is) (events_more is.at g.front rows g.before),
    )
    now.sound (counts_within now.counts)

pub feeds_nothing : {dialect : Dialect} {h : HeaderData} {t new : UnitBody} {b piece bytes : List ℕ}
    {rows : List Row} {fed : Fed} (is : InProgram dialect h t b)
    → NothingGiven dialect.order h.params is.at.program (take t.bytes.left piece) rows new.program
    → bytes ≡ take t.bytes.left piece → fed.used ≡ length bytes
    → fed.event ≡ paused new.bytes.taken new.bytes.left fed.used (length piece)
    → Counted t.bytes new.bytes (length bytes)
    → (new.bytes.left ≡ 0 → begun_in dialect.order h.params (is.at.program ++ take t.bytes.left piece) ≡ [])
    → FeedsAfter (InProgram dialect h) dialect (events dialect b ++ map event.Row rows) b piece fed new
feeds_nothing {dialect} {h} {t} {new} {b} {piece} {bytes} {rows} {fed} is g front size answer counts between =
    let u = take t.bytes.left piece in
    let counted = rw front at counts in
    let le : length u ≤ t.bytes.left = omega (arith, length-take t.bytes.left piece) in
    let now = program_on is u le new g.stands g.unrefused
    (λ full. between (omega (arith, counted.left, full, is.counts.taken, length-append b u))) counted in
    pauses (rw front at size) answer counted is.counts (some_bytes now.at) now (events_more is.at u rows g.grown)
    now.sound (λ none. (unit_unless_refused dialect (b ++ u) (now.counts.left
    ∙ ap (λ (n : ℕ). Some n) (omega (arith, none, now.counts.taken)))).1 now.sound)

-- ---- a fault

-- u being what is taken of the piece
fails_with : {dialect : Dialect} {h : HeaderData} {t new : UnitBody} {b piece u : List ℕ} {used : ℕ}
    {answer : Fault} {kind : FaultKind} (is : InProgram dialect h t b) (rows : List Row)
    → TakenOf piece t.bytes.left u used → Counted t.bytes new.bytes (length u)
    → rows_in dialect.order h.params (is.at.program ++ u) ≡ rows_in dialect.order h.params is.at.program ++ rows
    → new.program.in_sequence ≡ ends_open (rows_in dialect.order h.params (is.at.program ++ u))
    → answer ≡ record { offset = new.bytes.taken - new.program.begun; kind = kind }
    → Refused dialect (b ++ u) (new.bytes.taken - new.program.begun) kind
    → FailsAfter dialect (events dialect b ++ map event.Row rows) b piece answer used
    × Stops dialect new (b ++ take used piece)
fails_with {dialect} {h} {t} {new} {b} {piece} {u} {used} is rows taken counted grown is_open answer_is refused =
    let counts = counts_on u is.counts taken.few counted in
    let stops : Stops dialect new (b ++ u) = record {
      counts = counts;
      in_sequence = rw (rows_at (later is.at u)) is_open;
    } in (
      record {
        within = taken.within;
        in_unit = rw taken.is (counts_within counts);
        refused = rw (taken.is, answer_is) refused;
        no_event = rw taken.is (events_more is.at u rows grown);
      },
      rw taken.is stops,
    )

-- the unit ends in an operation
pub fails_overrun : {dialect : Dialect} {h : HeaderData} {t new : UnitBody} {b piece bytes : List ℕ} {rows : List Row}
    {answer : Fault} (is : InProgram dialect h t b)
    → NothingGiven dialect.order h.params is.at.program (take t.bytes.left piece) rows new.program
    → bytes ≡ take t.bytes.left piece → Counted t.bytes new.bytes (length bytes) → new.bytes.left ≡ 0
    → begun_in dialect.order h.params (is.at.program ++ take t.bytes.left piece) ≢ []
    → answer ≡ record { offset = new.bytes.taken - new.program.begun; kind = fault.OpcodeOverrun }
    → FailsAfter dialect (events dialect b ++ map event.Row rows) b piece answer (length (take t.bytes.left piece))
    × Stops dialect new (b ++ take (length (take t.bytes.left piece)) piece)
fails_overrun {dialect} {h} {t} {new} {b} {piece} {rows = rows} is g front counts none begun answer_is =
    let u = take t.bytes.left piece in
    let counted = rw front at counts in
    let taken = taken_all piece t.bytes.left (length u) refl in
    let len : unit_len dialect (b ++ u) ≡ Some (length (b ++ u)) =
    unit_len_on dialect b u (t.bytes.taken + t.bytes.left) is.counts.left
    ∙ ap (λ (n : ℕ). Some n) (omega (arith, counted.left, none, taken.few, is.counts.taken, length-append b u)) in
    fails_with is rows taken counted g.grown
    (in_sequence_is g.stands) answer_is
    (refused_on is u taken.few new fault.OpcodeOverrun
    (overrun_at (later is.at u) len begun (g.unrefused u [] (sym (append-nil u))))
    (λ front x back e. g.unrefused front (x ∷ back) e) counted
    (rw (rest_here g.stands) g.stands.count))

pub fails_bad : {dialect : Dialect} {h : HeaderData} {t new : UnitBody} {b piece tail : List ℕ} {rows : List Row}
    {kind : FaultKind} {answer : Fault} {used : ℕ} (is : InProgram dialect h t b)
    → BadGiven dialect.order h.params is.at.program (take t.bytes.left piece) rows kind tail new.program
    → used ≡ length (take t.bytes.left piece) - length tail → Counted t.bytes new.bytes used
    → answer ≡ record { offset = new.bytes.taken - new.program.begun; kind = kind }
    → FailsAfter dialect (events dialect b ++ map event.Row rows) b piece answer used
    × Stops dialect new (b ++ take used piece)
fails_bad {t = t} {new = new} {piece = piece} {tail = tail} {rows = rows} {kind = kind} {used = used} is g size
    counts answer_is =
    let u = g.front ++ g.last ∷ [] in
    let taken = taken_of piece u tail t.bytes.left used g.split size in
    let counted = rw taken.exact at counts in
    fails_with is rows taken counted g.grown g.is_open answer_is
    (refused_on is u taken.few new kind (bad_at (later is.at u) kind g.spelt) (λ f x back k. (let z =
    front_before g.front f g.last x back k in g.unrefused f z.0 z.1)) counted g.count)

-- ---- the fault that stops a reader

-- after a fault it is answered again, and no byte is taken
pub fails_again : (dialect : Dialect) (b piece : List ℕ) (fault : Fault) → WithinUnit dialect b
    → Refused dialect b fault.offset fault.kind → Fails dialect b piece fault 0
fails_again dialect b piece fault in_unit refused = record {
  within = omega arith;
  in_unit = rw append-nil in_unit;
  refused = rw append-nil refused;
  no_event = rw append-nil;
}

module _ {S : Type 0} {story : Story S} {dialect : Dialect} {h : HeaderData} {b piece : List ℕ} {before : List Item}
    {sink : S} where
  -- an answer of an event
  pub tells_fed : {new : UnitBody} {fed : Fed} → ProgramTells story dialect h b piece before (Ok fed) new sink
      → BodyTells story dialect h b piece before (Ok fed) (body.InProgram new) sink
  tells_fed t = record {
    rows = t.rows;
    used = t.used;
    fed = (t.fed.0, record { answered = t.fed.1.answered; stands = t.fed.1.stands });
    heard = t.heard;
  }

  -- the first answer of a fault
  pub tells_fault : {old new : UnitBody} {fault : Fault} {stop : BodyStop} → InProgram dialect h old b
      → stop ≡ record { fault = fault; bytes = new.bytes; in_sequence = new.program.in_sequence }
      → ProgramTells story dialect h b piece before (Err fault) new sink
      → BodyTells story dialect h b piece before (Err fault) (body.Stopped stop) sink
  tells_fault is made t = rw made (record {
    rows = t.rows;
    used = t.used;
    fed = (
      t.fed.0,
      record {
        refused = t.fed.0.refused;
        counts = t.fed.1.counts;
        in_sequence = t.fed.1.in_sequence;
        at = later is.at (take t.used piece);
      },
    );
    heard = t.heard;
  })

  -- it is answered again
  pub tells_again : {stop : BodyStop} → BodyStopped dialect h stop b → story.hears sink before
      → BodyTells story dialect h b piece before (Err stop.fault) (body.Stopped stop) sink
  tells_again {stop} is hears = record {
    rows = [];
    used = 0;
    fed = (
      rw (append-nil (events dialect b)) (fails_again dialect b piece stop.fault (counts_within is.counts) is.refused),
      rw append-nil is,
    );
    heard = hears_nothing (Err stop.fault) refl refl hears;
  }

-- ---- a unit of another version

foreign_events : (dialect : Dialect) (b : List ℕ) (version : ℕ) → foreign_in dialect b ≡ Some version
    → events dialect b ≡ event.Foreign version ∷ []
foreign_events dialect b version foreign = rw foreign

some_foreign : (dialect : Dialect) (b : List ℕ) (version : ℕ) → foreign_in dialect b ≡ Some version → 1 ≤ length b
some_foreign dialect [] version foreign = absurd (none_some {a = version} refl foreign)
some_foreign dialect (x ∷ b) version foreign = omega arith

pub feeds_foreign : {dialect : Dialect} {version : ℕ} {t new : UnitBytes} {b piece bytes : List ℕ} {fed : Fed}
    → InForeign dialect version t b → bytes ≡ take t.left piece → fed.used ≡ length bytes
    → fed.event ≡ paused new.taken new.left fed.used (length piece) → Counted t new (length bytes)
    → Feeds (InForeign dialect version) dialect b piece fed new
feeds_foreign {dialect} {version} {t} {new} {b} {piece} is front size event counts =
    let u = take t.left piece in
    let counted = rw front at counts in
    let counts = counts_on u is.counts (omega (arith, length-take t.left piece)) counted in
    let foreign = foreign_on dialect b u version is.foreign in
    pauses (rw front at size) event counted is.counts (some_foreign dialect (b ++ u) version foreign)
    (record { counts = counts; foreign = foreign })
    (foreign_events dialect (b ++ u) version foreign ∙ sym (foreign_events dialect b version is.foreign))
    (foreign_quiet dialect (b ++ u) version (new.taken + new.left) foreign counts.left (omega (arith, counts.taken)))
    (λ none. inl (
      version,
      foreign_unit dialect version (b ++ u) (counts.left ∙ ap (λ (n : ℕ). Some n) (omega (arith, none, counts.taken)))
          foreign,
    ))
