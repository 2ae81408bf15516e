-- What a reader of a unit answers, by what it stands for.
use Rattle.std.proofs.Common.{◌≡◌, ◌≢◌, inr, ℕ, List, [], ◌∷◌, ◌++◌, length, take, length-append, map, None, Result, Ok}
use Rattle.std.proofs.Common.{Err, refl, sym, ap, ◌∙◌, arith, append-nil}
use Rattle.std.proofs.lemmas.List.{nil_from_length}
use Rattle.dl_head.specs.declared.dialect.Dialect.{Dialect}
use Rattle.dl_head.specs.declared.fault.Fault.{Fault}
use Rattle.dl_table.specs.declared.fault.FaultKind.TheVariants.{Truncated}
use Rattle.dl_head.specs.declared.reader.HeadReader.{HeadReader}
use Rattle.dl_head.specs.declared.reader.HeadStep.TheVariants as answer
use Rattle.dl_head.specs.Reading.{Answers}
use Rattle.dl_field.specs.HeaderData.{HeaderData}
use Rattle.dl_head.specs.Header.{IsHeader, header_in}
use Rattle.dl_head.specs.declared.header.HeaderLengths.{HeaderLengths}
use Rattle.dl_head.specs.Standing.{StandsFor as HeadStands}
use Rattle.dl_field.proofs.FieldLemmas.{none_some}
use Rattle.dl_head.proofs.HeaderLaws.{header_is_found}
use Rattle.dl_rows.specs.declared.reader.Fed.{Fed}
use Rattle.dl_rows.specs.declared.reader.HeaderStop.{HeaderStop}
use Rattle.dl_rows.specs.declared.reader.Reader.{Reader}
use Rattle.dl_rows.specs.declared.reader.UnitStage.TheVariants as state
use Rattle.dl_rows.specs.declared.reader.Event.{Event}
use Rattle.dl_rows.specs.declared.reader.Event.TheVariants as event
use Rattle.dl_rows.specs.declared.row.Row.{Row}
use Rattle.dl_rows.specs.declared.sink.EachRow.{EachRow}
use Rattle.dl_rows.specs.declared.unit_body.BodyState.{BodyState}
use Rattle.dl_rows.specs.declared.unit_body.UnitBytes.{UnitBytes}
use Rattle.dl_rows.specs.Each.{each_row}
use Rattle.dl_rows.specs.Sinks.{Story}
use Rattle.dl_rows.specs.LineUnit.{events}
use Rattle.dl_rows.specs.Items.{Item, rows_of_items, unit_items}
use Rattle.dl_rows.specs.Reading.{Feeds, FinishIs, HearsOf, SinkAt, row_answered, row_told}
use Rattle.dl_rows.specs.ReaderStands.{StandsFor}
use Rattle.dl_rows.specs.ReaderAnswers.{ReaderFed, FedAfter, SinkFed}
use Rattle.dl_rows.specs.ReaderStates.{InHeader, StandsAfter, StandsAt}
use Rattle.dl_rows.specs.HeadFed.{HeadFed}
use Rattle.dl_rows.specs.UnitBodies.{InForeign, BodyFedAfter, BodyStands, BodyTells}
use Rattle.dl_rows.proofs.HeardLemmas.{hears_nothing, hears_quiet}
use Rattle.dl_rows.proofs.UnitBodyFeeds.{fails_again}
use Rattle.dl_rows.proofs.HeadFeeds.{no_unit}
use Rattle.dl_rows.proofs.ReaderLemmas.{at_of, foreign_no_header}
use Rattle.dl_rows.proofs.UnitBodyLemmas.{lengths_more}
use Rattle.dl_rows.proofs.UnitWhole.{NoneRefused}

-- ---- `feed_program`, after the header

-- after the header, with more bytes
after_more : {dialect : Dialect} {h : HeaderData} {lengths : HeaderLengths} {old now : BodyState} {b : List ℕ}
    → StandsAfter dialect h lengths old b → (v : List ℕ) → BodyStands dialect h now (b ++ v)
    → StandsAfter dialect h lengths now (b ++ v)
after_more {old = old} s v stands =
    record { in_body = stands; lengths_are = s.lengths_are ∙ sym (lengths_more (at_of old s.in_body) v) }

body_fed : (dialect : Dialect) (h : HeaderData) (lengths : HeaderLengths) (old : BodyState) (before : List Event)
    (b piece : List ℕ) (used : ℕ) (result : Result Fed Fault) (now : BodyState) (new : Reader) → new.dialect ≡ dialect
    → new.state ≡ state.AfterHeader h lengths now → StandsAfter dialect h lengths old b
    → BodyFedAfter dialect h before b piece used result now → FedAfter dialect before b piece used result new
body_fed dialect h lengths old before b piece used (Ok fed) now new same made s f = (
  f.0,
  record { answered = f.1.answered; stands = rw (same, made) (after_more s (take fed.used piece) f.1.stands) },
)
body_fed dialect h lengths old before b piece used (Err fault) now new same made s f =
    (f.0, rw (same, made) (after_more s (take used piece) f.1))

pub feeds_body : {S : Type 0} {story : Story S} (r new : Reader) {h : HeaderData} {lengths : HeaderLengths}
    {old now : BodyState} {b piece : List ℕ} {before : List Item} {result : Result Fed Fault} {sink : S}
    → r.state ≡ state.AfterHeader h lengths old → new.dialect ≡ r.dialect → new.state ≡ state.AfterHeader h lengths now
    → StandsFor r b → (BodyStands r.dialect h old b → BodyTells story r.dialect h b piece before result now sink)
    → SinkFed story r.dialect b piece before result new sink
feeds_body r new {h} {lengths} {old} {now} {b = b} {piece = piece} {result = result} is same made s tells =
    let at : StandsAfter r.dialect h lengths old b = rw is at s in
    let f = tells at.in_body in
    let es = events r.dialect b ++ map event.Row f.rows in
    record {
      rows = f.rows;
      used = f.used;
      fed = body_fed r.dialect h lengths old es b piece f.used result now new same made at f.fed;
      heard = f.heard;
    }

-- ---- a new reader

pub nothing_yet : (dialect : Dialect) → Answers dialect [] answer.More
nothing_yet dialect = (
  λ h is. none_some {a = (h, [])} refl (header_is_found dialect h [] [] is),
  refl,
  λ at kind r. none_some refl r.decided,
)

none_refused : (dialect : Dialect) → NoneRefused dialect []
none_refused dialect [] back at kind e r = none_some refl r.decided
none_refused dialect (x ∷ front) back at kind e r = absurd cc

pub new_stands : (dialect : Dialect) (head : HeadReader) → head.dialect ≡ dialect → HeadStands head []
    → InHeader dialect head []
new_stands dialect head same stands =
    record {
      same_dialect = same;
      stands = stands;
      more = nothing_yet dialect;
      bytes = tt;
      incomplete = refl;
      sound =
          none_refused dialect;
    }

-- ---- `finish` in a header

pub finish_cut : (dialect : Dialect) (head : HeadReader) (b : List ℕ) (taken : ℕ) → taken ≡ length b → taken ≢ 0
    → InHeader dialect head b → FinishIs dialect b (Err (record { offset = taken; kind = Truncated }))
finish_cut dialect head b taken is some s = inr (
  ap (λ (n : ℕ). record { offset = n; kind = Truncated }) is,
  λ nil. some (is ∙ ap length nil),
  no_unit dialect b s.incomplete s.more.1,
  λ place kind refused. s.sound b [] place kind (sym (append-nil b)) refused,
)

-- ---- `feed_program`, where nothing of a program comes, and `feed`

-- before a program the bytes that are taken come to nothing
pub head_items : (dialect : Dialect) (b : List ℕ) → header_in dialect b ≡ None → unit_items dialect b ≡ []
head_items dialect b none = rw none

pub whole_items : (dialect : Dialect) (h : HeaderData) (b : List ℕ) → IsHeader dialect h b → unit_items dialect b ≡ []
whole_items dialect h b is =
    rw (ap (header_in dialect) (sym (append-nil b)) ∙ header_is_found dialect h b [] is)

foreign_items : {dialect : Dialect} {version : ℕ} {t : UnitBytes} {b : List ℕ} → InForeign dialect version t b
    → unit_items dialect b ≡ []
foreign_items {dialect} {version} {b = b} is = head_items dialect b (foreign_no_header dialect b version is.foreign)

-- the answers in a header
pub feeds_head : {S : Type 0} {story : Story S} (r new : Reader) {head : HeadReader} {b piece : List ℕ}
    {before : List Item} {result : Result Fed Fault} {s : S} → r.state ≡ state.InHeader head → StandsFor r b
    → HeadFed r.dialect b piece result new → row_answered result ≡ [] → story.hears s before
    → SinkFed story r.dialect b piece before result new s
feeds_head r new {head} {b} {piece} {result = result} is at f none hears =
    let was : InHeader r.dialect head b = rw is at at in
    record {
      rows = [];
      used = f.used;
      fed = rw append-nil f.fed;
      heard = hears_quiet result (f.items ∙ sym (head_items r.dialect b was.incomplete)) (λ opens. f.items) none hears;
    }

-- the same after a fault in the header
pub feeds_stopped : {S : Type 0} {story : Story S} (r new : Reader) {b piece : List ℕ} {before : List Item}
    {stop : HeaderStop} {s : S} → r.state ≡ state.StoppedInHeader stop → new.dialect ≡ r.dialect
    → new.state ≡ state.StoppedInHeader stop → StandsFor r b → story.hears s before
    → SinkFed story r.dialect b piece before (Err stop.fault) new s
feeds_stopped r new {b} {piece} {stop = stop} is same made s hears =
    let at : StandsAt r.dialect (state.StoppedInHeader stop) b = rw is at s in
    record {
      rows = [];
      used = 0;
      fed = rw append-nil (
        fails_again r.dialect b piece stop.fault at.in_unit at.refused,
        rw (same, made, append-nil) at,
      );
      heard = hears_nothing (Err stop.fault) refl refl hears;
    }

-- after a foreign version
pub feeds_foreign : {S : Type 0} {story : Story S} (r new : Reader) {t u : UnitBytes} {b piece : List ℕ} {fed : Fed}
    {before : List Item} {s : S} → r.state ≡ state.Foreign t
    → new.dialect ≡ r.dialect → new.state ≡ state.Foreign u → StandsFor r b
    → ((version : ℕ) → InForeign r.dialect version t b → Feeds (InForeign r.dialect version) r.dialect b piece fed u)
    → row_told fed.event ≡ [] → story.hears s before → SinkFed story r.dialect b piece before (Ok fed) new s
feeds_foreign r new {b = b} {fed = fed} is dialect made s feeds none hears =
    let at = rw is at s in
    let f = feeds at.0 at.1 in
    record {
      rows = [];
      used = fed.used;
      fed = rw append-nil (refl, record { answered = f.answered; stands = rw (dialect, made) (at.0, f.stands) });
      heard = hears_quiet (Ok fed) (foreign_items f.stands ∙ sym (foreign_items at.1)) (λ opens. foreign_items f.stands) none
          hears;
    }

-- a sink that stops at each row hears none on the way
each_none : {dialect : Dialect} {b piece : List ℕ} {used : ℕ} {rows : List Row} {s : EachRow} (result : Result Fed Fault)
    → HearsOf each_row dialect b piece used rows [] result s → rows ≡ []
each_none {rows = rows} (Err fault) heard = sym (append-nil rows) ∙ sym heard.of_rows ∙ heard.sink
each_none {rows = rows} {s = s} (Ok fed) heard = at fed.event heard.of_rows heard.sink where
  at : (e : Event) → rows_of_items heard.items ≡ rows ++ row_told e → SinkAt each_row s heard.items e → rows ≡ []
  at (event.Row r) of_rows stops =
      let l : length (rows ++ r ∷ []) ≡ 1 = ap length (sym of_rows ∙ stops.1) in
      nil_from_length rows (omega (arith, l, length-append rows (r ∷ [])))
  at other of_rows hears = sym (append-nil rows) ∙ sym of_rows ∙ hears

fed_of_after : (dialect : Dialect) (b piece : List ℕ) (used : ℕ) (result : Result Fed Fault) (new : Reader)
    → FedAfter dialect (events dialect b) b piece used result new → ReaderFed dialect b piece result new
fed_of_after dialect b piece used (Ok fed) new f = f.1
fed_of_after dialect b piece used (Err fault) new f = (used, f.0, f.1)

pub fed_alone : (dialect : Dialect) (b piece : List ℕ) (result : Result Fed Fault) (new : Reader) (s : EachRow)
    → SinkFed each_row dialect b piece [] result new s → ReaderFed dialect b piece result new
fed_alone dialect b piece result new s f =
    fed_of_after dialect b piece f.used result new
    (rw (each_none result f.heard, append-nil (events dialect b)) at f.fed)
