-- A piece of a section, read event by event.
use Rattle.std.proofs.Common.{◌≡◌, ◌⊎◌, ◌<◌, Bool, true, false, inl, inr, subst, ℕ, ◌+◌, ◌-◌, ◌^◌, List, [], ◌∷◌, ◌++◌, length, take, drop, map}
use Rattle.std.proofs.Common.{flat_map, Option, Some, None, Result, Ok, Err, arith, refl, sym, ap, ◌∙◌}
use Rattle.std.proofs.Common.{append_assoc, append-nil, length-append, take-append-drop}
use Rattle.std.specs.Prelude.{slice_get}
use Rattle.std.specs.List.{concat}
use Rattle.std.proofs.lemmas.List.{drop_all, take_rest, drop_more}
use Rattle.std.proofs.lemmas.Grind.{flat_map-append}
use Rattle.std.proofs.lemmas.Option.{slice_get_within, get_or_from_slice_get}
use Rattle.dl_head.specs.declared.dialect.Dialect.{Dialect}
use Rattle.dl_head.specs.declared.fault.Fault.{Fault}
use Rattle.dl_field.proofs.FieldLemmas.{none_some}
use Rattle.dl_sections.proofs.Names.{foreign_in, foreign_is_not_refused, foreign_known, foreign_no_header, header_in, header_on, HeaderData}
use Rattle.dl_sections.proofs.Names.{refused_in_header, WithinUnit}
use Rattle.dl_rows.specs.declared.row.Row.{Row}
use Rattle.dl_rows.specs.declared.reader.Event.{Event}
use Rattle.dl_rows.specs.declared.reader.Event.TheVariants as event
use Rattle.dl_rows.specs.declared.reader.Fed.{Fed}
use Rattle.dl_rows.specs.LineUnit.{IsUnit, events}
use Rattle.dl_rows.specs.Items.{Item, unit_items}
use Rattle.dl_rows.specs.Reading.{told, AnsweredAfter, is_opening, row_told}
use Rattle.dl_rows.specs.Refusal.{Refused}
use Rattle.dl_table.specs.declared.fault.FaultKind.{FaultKind}
use Rattle.dl_rows.specs.ReaderStands.{StandsFor}
use Rattle.dl_rows.specs.Runs.{Sound}
use Rattle.dl_sections.specs.declared.fault.RunFault.{RunFault}
use Rattle.dl_sections.specs.declared.fault.RunFault.TheVariants as fault
use Rattle.dl_rows.specs.declared.sink.Flow.{Flow}
use Rattle.dl_rows.specs.declared.sink.Flow.TheVariants as flow
use Rattle.dl_sections.specs.declared.section.SectionUnits.{SectionUnits}
use Rattle.dl_print.specs.Counts.{add}
use Rattle.dl_sections.specs.Section.{HeaderRead, NoneBefore, Visit, of_item, HasUnits, HasBegun, end_visits, header_of, header_read, event_visits}
use Rattle.dl_sections.specs.Told.{ItemsOf, StopsWithin}
use Rattle.dl_sections.specs.Visiting.{Story, StopsIn, GoesOn, header_told}
use Rattle.dl_sections.specs.UnitsRead.{Before, SoundUnlessWrite, UnitsAre, counted, end_of, UnitsFed, visits_since}
use Rattle.dl_sections.proofs.ToldLemmas.{stops_before_more}
use Rattle.dl_sections.proofs.EventLemmas.{visits_grow, rows_visited}
use Rattle.dl_sections.proofs.CountLemmas.{more_read}
use Rattle.dl_sections.proofs.HeadersTold.{header_since}
use Rattle.dl_sections.proofs.SectionLemmas.{no_unit_begins, no_unit_refused, none_refused, has_push, visits_since-push}

-- of s all but the rest was read
pub record FedUpTo {S : Type 0} {dialect : Dialect} (story : Story S) (past : Before dialect) (s : List ℕ) (first : S)
    (start : Option (List ℕ)) (u : SectionUnits) (new : S) (now : Option (List ℕ)) (rest : List ℕ) : Type 0 where
  pub read : List ℕ
  pub whole : s ≡ read ++ rest
  pub short : length past.bytes + length s < 2 ^ 64
  pub units : List (List ℕ)
  pub b : List ℕ
  pub are : UnitsAre past u read units b
  pub tells : story.tells first new start now (visits_since past units b)

-- the reader answered an event: bytes of the rest were used, and the visitor was told all but the event
pub record Turn {S : Type 0} {dialect : Dialect} (story : Story S) (past : Before dialect) (s : List ℕ) (first : S)
    (start : Option (List ℕ)) (v : SectionUnits) (w : S) (after : Option (List ℕ)) (rest : List ℕ) (fed : Fed) : Type 0 where
  pub read : List ℕ
  pub whole : s ≡ read ++ drop fed.used rest
  pub short : length past.bytes + length s < 2 ^ 64
  pub units : List (List ℕ)
  pub old : List ℕ
  pub before : List Event
  pub answered : AnsweredAfter dialect before old rest fed
  pub stands : StandsFor v.reader (old ++ take fed.used rest)
  pub no_row : row_told fed.event ≡ []
  pub own : v.reader.dialect ≡ dialect
  pub are : UnitsAre past (counted fed.event v) read units (old ++ take fed.used rest)
  pub begun : HasBegun dialect s units (old ++ take fed.used rest) (drop fed.used rest)
  pub visits : List Visit
  pub tells : story.tells first w start after visits
  pub visited : visits_since past units (old ++ take fed.used rest)
      ≡ visits ++ event_visits v.offset (header_read v.reader.dialect (old ++ take fed.used rest)) fed.event

-- the event was the end of a unit
pub record Ended {dialect : Dialect} (past : Before dialect) (read : List ℕ) (units : List (List ℕ)) (b : List ℕ) (v : SectionUnits)
    (visits : List Visit) : Type 0 where
  pub are : UnitsAre past v read units b
  pub unit : IsUnit dialect b
  pub small : length past.bytes + length read < 2 ^ 64
  pub header : header_told None visits ≡ header_of v.reader.dialect b
  pub visited : visits_since past (units ++ b ∷ []) [] ≡ visits ++ end_visits v.reader.dialect b

-- an element, and those after it
dropped : (xs : List ℕ) (i x : ℕ) → slice_get xs i ≡ Some x → drop i xs ≡ x ∷ drop (i + 1) xs
dropped xs i x at =
    drop_more xs i x (slice_get_within xs i x at)
    ∙ ap (λ (y : ℕ). y ∷ drop (i + 1) xs) (get_or_from_slice_get xs i x x at)

told_visits : (offset : ℕ) (b : List ℕ) (dialect : Dialect) (e : Event)
    → flat_map (event_visits offset (header_read dialect b)) (told e) ≡ event_visits offset (header_read dialect b) e
told_visits offset b dialect event.More = refl
told_visits offset b dialect event.End = refl
told_visits offset b dialect event.NoMemory = refl
told_visits offset b dialect event.Header = append-nil _
told_visits offset b dialect (event.Foreign version) = refl
told_visits offset b dialect (event.Row r) = refl

-- the units and the front of one more, where it goes on into the rest
cut : (dialect : Dialect) (s read rest : List ℕ) (units : List (List ℕ)) (b : List ℕ) (k : ℕ) → s ≡ read ++ rest
    → HasUnits dialect read units b → HasUnits dialect s units ((b ++ take k rest) ++ drop k rest)
cut dialect s read rest units b k whole has = record {
  whole = rw (whole, has.whole) (simp (append_assoc, take-append-drop));
  each = has.each;
}

-- the visits that the last event is
abbrev opened : {dialect : Dialect} (past : Before dialect) (units : List (List ℕ)) (c : List ℕ) → List Event → List Visit
opened {dialect} past units c es = flat_map (event_visits (end_of past units) (header_read dialect c)) es

-- what was told of a program, and of the event that is answered, where nothing of a program was told with what comes
-- before it
visits_more : {dialect : Dialect} (past : Before dialect) (units : List (List ℕ)) (b x : List ℕ) (rows : List Row)
    (more : List Event) (items : List Item) → events dialect (b ++ x) ≡ (events dialect b ++ map event.Row rows) ++ more
    → unit_items dialect (b ++ x) ≡ unit_items dialect b ++ items
    → (opened past units (b ++ x) more ≡ []) ⊎ (unit_items dialect (b ++ x) ≡ [])
    → visits_since past units (b ++ x) ≡ (visits_since past units b ++ map of_item items) ++ opened past units (b ++ x) more
visits_more {dialect} past units b x rows more items grows grown when =
    let offset = end_of past units in
    let alone : flat_map (event_visits offset (header_read dialect (b ++ x))) (map event.Row rows ++ more)
    ≡ opened past units (b ++ x) more =
    flat_map-append (event_visits offset (header_read dialect (b ++ x))) (map event.Row rows) more
    ∙ rw (rows_visited offset (header_read dialect (b ++ x)) rows) refl in
    let told = visits_grow dialect offset b x (map event.Row rows ++ more) items
    (grows ∙ append_assoc (events dialect b) (map event.Row rows) more) grown
    (subst (λ (z : List Visit). (z ≡ []) ⊎ (unit_items dialect (b ++ x) ≡ [])) (sym alone) when) in
    rw (told, alone) (simp append_assoc)

-- an event that comes before no program is no visit
no_visit : (offset : ℕ) (read : Option HeaderRead) (e : Event) → is_opening e ≡ false
    → flat_map (event_visits offset read) (told e) ≡ []
no_visit offset read event.Header late = absurd cc
no_visit offset read (event.Foreign version) late = absurd cc
no_visit offset read (event.Row r) late = refl
no_visit offset read event.More late = refl
no_visit offset read event.End late = refl
no_visit offset read event.NoMemory late = refl

-- whether nothing of a program was told with an event
when_opened : {dialect : Dialect} (past : Before dialect) (units : List (List ℕ)) (c : List ℕ) (e : Event)
    → (is_opening e ≡ true → unit_items dialect c ≡ [])
    → (opened past units c (told e) ≡ []) ⊎ (unit_items dialect c ≡ [])
when_opened {dialect} past units c e opens = by (is_opening e) refl where
  by : (o : Bool) → is_opening e ≡ o → (opened past units c (told e) ≡ []) ⊎ (unit_items dialect c ≡ [])
  by true is = inr (opens is)
  by false is = inl (no_visit (end_of past units) (header_read dialect c) e is)

-- what no front of is refused, or is refused only as a whole
pub sound_before : (dialect : Dialect) (b : List ℕ) → Sound dialect b → NoneBefore dialect b
sound_before dialect b sound front back at kind e some r = sound front back at kind e r

refused_before : (dialect : Dialect) (b : List ℕ) (at : ℕ) (kind : FaultKind) → Refused dialect b at kind
    → NoneBefore dialect b
refused_before dialect b at kind refused front [] place other e some r = omega (arith, some)
refused_before dialect b at kind refused front (x ∷ back) place other e some r =
    none_some {a = other} (refused.shortest front x back e) r.decided

-- nor is a unit of another version
pub foreign_before : (dialect : Dialect) (c : List ℕ) (version : ℕ) → foreign_in dialect c ≡ Some version
    → WithinUnit dialect c → NoneBefore dialect c
foreign_before dialect c version foreign within front back at kind e some r = by (header_in dialect front) refl where
  by : (parts : Option (HeaderData × List ℕ)) → header_in dialect front ≡ parts → ⊥
  by None is =
      let unit = foreign_known dialect c version foreign in
      foreign_is_not_refused dialect c front back version unit.0 at kind foreign unit.1 (within unit.0 unit.1) e
      ((refused_in_header dialect front at kind is).0 r)
  by (Some (h, program)) is =
      none_some {a = (h, program ++ back)} (foreign_no_header dialect c version foreign)
      (ap (header_in dialect) e ∙ header_on dialect front back h program is)

sound_unless : (dialect : Dialect) (b : List ℕ) (f : RunFault) → Sound dialect b → SoundUnlessWrite dialect b f
sound_unless dialect b (fault.Write out) sound = tt
sound_unless dialect b (fault.Damage offset kind) sound = sound
sound_unless dialect b fault.NoMemory sound = sound
sound_unless dialect b fault.Read sound = sound
sound_unless dialect b fault.SectionTooLong sound = sound
sound_unless dialect b fault.NotFound sound = sound
sound_unless dialect b fault.TwoSums sound = sound
sound_unless dialect b fault.NoUnit sound = sound
sound_unless dialect b (fault.ForeignUnit unit) sound = sound
sound_unless dialect b (fault.Emit unit f) sound = sound

-- the visitor stopped among the last of the visits
stopped : {S : Type 0} (story : Story S) {dialect : Dialect} (past : Before dialect) (s : List ℕ) (first : S)
    (start : Option (List ℕ)) (w : S) (after : Option (List ℕ)) (x : SectionUnits) (f : RunFault) (units : List (List ℕ)) (b back : List ℕ)
    (visits more : List Visit) → HasBegun dialect s units b back → SoundUnlessWrite dialect b f
    → visits_since past units b ≡ visits ++ more → StopsIn story first w start after visits more f
    → UnitsFed story past s first w start after x (Err f)
stopped story past s first start w after x f units b back visits more begun sound is stops = (
  units,
  b,
  back,
  begun,
  inr (sound, visits ++ stops.0, stops.1, rw (is, stops.2) (simp append_assoc), stops.3),
)

module _ {S : Type 0} {story : Story S} {dialect : Dialect} {past : Before dialect} {s : List ℕ} {first : S} {start : Option (List ℕ)}
    {u : SectionUnits} {new : S} {now : Option (List ℕ)} {rest : List ℕ}
    (so : FedUpTo story past s first start u new now rest) {v : SectionUnits} {w : S} {after : Option (List ℕ)} where
  -- the visitor stopped within the bytes of a program
  pub stops_within : {f : RunFault} → StopsWithin story so.b rest u v new w now after f
      → UnitsFed story past s first w start after v (Err f)
  stops_within {f} r = by r.fed refl where
    c : List ℕ
    c = so.b ++ take r.used rest

    told_here : StopsIn story first w start after (visits_since past so.units so.b) (map of_item r.items) f
    told_here = r.hears first start (visits_since past so.units so.b) so.tells

    with_more : (more : List Visit) → visits_since past so.units c ≡ (visits_since past so.units so.b ++ map of_item r.items) ++ more
        → HasBegun dialect s so.units c (drop r.used rest) → SoundUnlessWrite dialect c f
        → UnitsFed story past s first w start after v (Err f)
    with_more more is begun sound =
        stopped story past s first start w after v f so.units c (drop r.used rest) (visits_since past so.units so.b)
        (map of_item r.items ++ more) begun sound
        (is ∙ append_assoc (visits_since past so.units so.b) (map of_item r.items) more)
        (stops_before_more story first w start after (visits_since past so.units so.b) (map of_item r.items) more f told_here)

    unless_write : (fed : Result Fed Fault) (g : Fault) → fed ≡ Err g
        → ((h : Fed) × (fed ≡ Ok h)) ⊎ ((out : ℕ) × (f ≡ fault.Write out)) → SoundUnlessWrite dialect c f
    unless_write fed g is (inl (h, other)) = absurd cc
    unless_write fed g is (inr (out, lost)) = rw lost tt

    by : (fed : Result Fed Fault) → r.fed ≡ fed → UnitsFed story past s first w start after v (Err f)
    by (Ok fed) is =
        let t = rw (is, so.are.reader_dialect) at r.taken.fed_after in
        let grown = rw so.are.reader_dialect at r.taken.grown in
        let opens = rw (is, so.are.reader_dialect) at r.taken.opening in
        let answered = rw t.0 at t.1.answered in
        with_more (opened past so.units c (told fed.event))
        (visits_more past so.units so.b (take r.used rest) r.rows (told fed.event) r.items answered.grows grown
        (when_opened past so.units c fed.event opens))
        (record {
          has = cut dialect s so.read rest so.units so.b r.used so.whole so.are.has;
          in_unit = answered.in_unit;
          none_before = sound_before dialect c answered.sound;
        })
        (sound_unless dialect c f answered.sound)
    by (Err g) is =
        let t = rw (is, so.are.reader_dialect) at r.taken.fed_after in
        let grown = rw so.are.reader_dialect at r.taken.grown in
        with_more [] (visits_more past so.units so.b (take r.used rest) r.rows [] r.items (t.0.no_event ∙ sym (append-nil _)) grown
        (inl refl))
        (record {
          has = cut dialect s so.read rest so.units so.b r.used so.whole so.are.has;
          in_unit = t.0.in_unit;
          none_before = refused_before dialect c g.offset g.kind t.0.refused;
        })
        (unless_write r.fed g is r.at)

  -- a fault
  pub damaged : {result : Result Fed Fault} (r : ItemsOf story so.b rest u v new w now after result) {f : Fault} → result ≡ Err f
      → {g : RunFault} → g ≡ fault.Damage (add v.offset f.offset) f.kind
      → UnitsFed story past s first w start after v (Err g)
  damaged r {f} is at =
      let fails = rw (is, so.are.reader_dialect) at r.taken.fed_after in
      let grown = rw so.are.reader_dialect at r.taken.grown in
      let k = r.used in
      let has = cut dialect s so.read rest so.units so.b k so.whole so.are.has in
      let size : end_of past so.units + f.offset < 2 ^ 64 = omega (
        arith,
        length-append past.bytes (concat so.units),
        fails.0.refused.place,
        so.short,
        ap length has.whole,
        length-append (concat so.units) ((so.b ++ take k rest) ++ drop k rest),
        length-append (so.b ++ take k rest) (drop k rest),
      ) in
      let offset_is : v.offset ≡ end_of past so.units = ap (λ (z : SectionUnits). z.offset) r.same ∙ so.are.offset in
      rw at (
        so.units,
        so.b ++ take k rest,
        drop k rest,
        record {
          has = has;
          in_unit = fails.0.in_unit;
          none_before = refused_before dialect (so.b ++ take k rest) f.offset f.kind fails.0.refused;
        },
        inl (
          (
            f.offset,
            omega (arith, offset_is, size),
            fails.0.refused,
            no_unit_refused dialect (so.b ++ take k rest) (drop k rest) f.offset f.kind fails.0.in_unit fails.0.refused,
            record {
              dialect_is = ap (λ (z : SectionUnits). z.dialect) r.same ∙ so.are.dialect_is;
              reader_dialect = r.taken.dialect ∙ so.are.reader_dialect;
              stands = fails.1;
              offset = offset_is;
              summary = ap (λ (z : SectionUnits). z.summary) r.same ∙ so.are.summary;
            },
          ),
          rw (
            visits_more past so.units so.b (take k rest) r.rows [] r.items (fails.0.no_event ∙ sym (append-nil _)) grown
                (inl refl),
            append-nil,
          ) (r.hears first start (visits_since past so.units so.b) so.tells),
        ),
      )

  -- an event
  pub turn : {result : Result Fed Fault} (r : ItemsOf story so.b rest u v new w now after result) {fed : Fed}
      → result ≡ Ok fed → Turn story past s first start v w after rest fed
  turn r {fed} is =
      let t = rw (is, so.are.reader_dialect) at r.taken.fed_after in
      let f = t.1 in
      let grown = rw (← t.0, so.are.reader_dialect) at r.taken.grown in
      let opens = rw (is, ← t.0, so.are.reader_dialect) at r.taken.opening in
      let own : v.reader.dialect ≡ dialect = r.taken.dialect ∙ so.are.reader_dialect in
      let no_row = rw is at r.no_row in
      let offset_is : v.offset ≡ end_of past so.units = ap (λ (z : SectionUnits). z.offset) r.same ∙ so.are.offset in
      record {
        read = so.read ++ take fed.used rest;
        whole = rw so.whole (simp (append_assoc, take-append-drop));
        short = so.short;
        units = so.units;
        old = so.b;
        before = events dialect so.b ++ map event.Row r.rows;
        answered = f.answered;
        stands = f.stands;
        no_row = no_row;
        own = own;
        are = more_read dialect past u so.read rest so.units so.b so.are v own
            (omega (arith, so.short, ap length so.whole, length-append so.read rest)) r.rows fed r.same r.counts no_row f;
        begun = record {
          has = cut dialect s so.read rest so.units so.b fed.used so.whole so.are.has;
          in_unit = f.answered.in_unit;
          none_before = sound_before dialect (so.b ++ take fed.used rest) f.answered.sound;
        };
        visits = visits_since past so.units so.b ++ map of_item r.items;
        tells = r.hears first start (visits_since past so.units so.b) so.tells;
        visited = rw (own, offset_is) (visits_more past so.units so.b (take fed.used rest) r.rows (told fed.event)
            r.items f.answered.grows grown (when_opened past so.units (so.b ++ take fed.used rest) fed.event opens)
            ∙ rw told_visits refl);
      }

module _ {S : Type 0} {story : Story S} {dialect : Dialect} {past : Before dialect} {s : List ℕ} {first : S} {start : Option (List ℕ)}
    {v : SectionUnits} {w : S} {after : Option (List ℕ)} {rest : List ℕ} {fed : Fed}
    (t : Turn story past s first start v w after rest fed) where
  abbrev pub bytes : List ℕ
  bytes = t.old ++ take fed.used rest

  -- the visitor was told the event
  pub goes_on : {x : SectionUnits} {new : S} {now : Option (List ℕ)} → story.tells first new start now (t.visits
      ++ event_visits v.offset (header_read v.reader.dialect bytes) fed.event) → x ≡ counted fed.event v
      → FedUpTo story past s first start x new now (take (length rest - fed.used) (drop fed.used rest))
  goes_on tells same = record {
    read = t.read;
    whole = rw take_rest t.whole;
    short = t.short;
    units = t.units;
    b = bytes;
    are = rw same t.are;
    tells = rw t.visited tells;
  }

  -- bytes were taken, and nothing came of them but the rows
  pub goes_on_quietly : fed.event ≡ event.More
      → FedUpTo story past s first start v w after (take (length rest - fed.used) (drop fed.used rest))
  goes_on_quietly is = goes_on (rw (is, append-nil) t.tells) (rw is refl)

  -- the visitor stopped at the event
  pub stops_told : (x : SectionUnits) {new : S} {now : Option (List ℕ)} (f : RunFault)
      → StopsIn story first new start now t.visits (event_visits v.offset (header_read v.reader.dialect bytes) fed.event) f
      → UnitsFed story past s first new start now x (Err f)
  stops_told x f stops =
      stopped story past s first start _ _ x f t.units bytes (drop fed.used rest) t.visits _ t.begun
      (sound_unless dialect bytes f t.answered.sound) t.visited stops

  -- the piece is over
  pub idle : fed.event ≡ event.More → fed.used ≡ 0 → UnitsFed story past s first w start after v (Ok flow.On)
  idle is zero =
      let holds = rw is at t.answered.holds in
      let over : s ≡ t.read = rw (t.whole, drop_all fed.used rest (omega (arith, holds.0))) (append-nil t.read) in (
        t.units,
        bytes,
        rw over (rw is at t.are),
        no_unit_begins dialect bytes t.answered.in_unit (λ unit. omega (arith, holds.1 unit, zero)),
        t.answered.sound,
        rw (t.visited, is, append-nil) t.tells,
      )

  -- memory was refused
  pub unmet : fed.event ≡ event.NoMemory → UnitsFed story past s first w start after v (Err fault.NoMemory)
  unmet is =
      let holds = rw is at t.answered.holds in (
        t.units,
        bytes,
        drop fed.used rest,
        t.begun,
        inl (
          (t.answered.sound, (holds.0, drop (fed.used + 1) rest, dropped rest fed.used holds.0 holds.1, holds.3)),
          rw (t.visited, is, append-nil) t.tells,
        ),
      )

  -- a unit is whole
  pub ended : fed.event ≡ event.End → Ended past t.read t.units bytes v t.visits
  ended is =
      let quiet : visits_since past t.units bytes ≡ t.visits = rw (t.visited, is) (append-nil t.visits) in
      record {
        are = rw is at t.are;
        unit = (rw is at t.answered.holds).0;
        small = omega (arith, t.short, ap length t.whole, length-append t.read (drop fed.used rest));
        header = rw (← quiet, t.own) (header_since dialect past t.units bytes);
        visited = visits_since-push past t.units bytes ∙ rw (quiet, t.own) refl;
      }

  module _ (e : Ended past t.read t.units bytes v t.visits) where
    abbrev pub units_after : List (List ℕ)
    units_after = t.units ++ bytes ∷ []

    all_units : HasUnits dialect s units_after (drop fed.used rest)
    all_units =
        cut dialect s t.read (drop fed.used rest) units_after [] 0 t.whole (has_push dialect t.read t.units bytes e.are.has
        e.unit)

    -- the visitor wants the next unit
    pub next_unit : {x : SectionUnits} {new : S} {now : Option (List ℕ)} {n : Flow} → n ≡ flow.On
        → UnitsAre past x t.read units_after []
        → GoesOn story first new start now (t.visits ++ end_visits v.reader.dialect bytes) n
        → FedUpTo story past s first start x new now (take (length rest - fed.used) (drop fed.used rest))
    next_unit is are goes = record {
      read = t.read;
      whole = rw take_rest t.whole;
      short = t.short;
      units = units_after;
      b = [];
      are = are;
      tells = rw e.visited (rw is at goes);
    }

    -- it wants nothing more
    pub no_more : {x : SectionUnits} {new : S} {now : Option (List ℕ)} {n : Flow} → n ≡ flow.Stop
        → UnitsAre past x t.read units_after []
        → GoesOn story first new start now (t.visits ++ end_visits v.reader.dialect bytes) n
        → UnitsFed story past s first new start now x (Ok flow.Stop)
    no_more is are goes =
        (units_after, drop fed.used rest, all_units, are.summary, are.offset, rw e.visited (rw is at goes))

    -- it stopped at the end
    pub stops_at_end : (x : SectionUnits) {new : S} {now : Option (List ℕ)} (f : RunFault)
        → StopsIn story first new start now t.visits (end_visits v.reader.dialect bytes) f
        → UnitsFed story past s first new start now x (Err f)
    stops_at_end x f stops =
        stopped story past s first start _ _ x f units_after [] (drop fed.used rest) t.visits _
        (record {
          has = all_units;
          in_unit = λ n known. omega arith;
          none_before = sound_before dialect [] (none_refused dialect);
        }) (sound_unless dialect [] f (none_refused dialect)) e.visited stops
