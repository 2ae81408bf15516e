-- The bytes of a header that are taken at once: what the reader of the unit answers.
use Rattle.std.proofs.Common.{◌≡◌, ◌<◌, ◌≤◌, ◌-◌, ◌^◌, min, ◌⊎◌, inl, inr, ℕ, zero, suc, List, [], ◌∷◌, ◌++◌, length}
use Rattle.std.proofs.Common.{take, drop, get_or, slice_get, Option, Some, None, refl, sym, ap, subst, ◌∙◌, arith}
use Rattle.std.proofs.Common.{append-nil, length-append, length-take, ◌≢◌}
use Rattle.std.proofs.lemmas.List.{take-append-drop}
use Rattle.dl_head.specs.declared.dialect.Dialect.{Dialect}
use Rattle.dl_num.specs.Laws.{AllBytes}
use Rattle.dl_head.specs.declared.fault.Fault.{Fault}
use Rattle.dl_table.specs.declared.fault.FaultKind.{FaultKind}
use Rattle.dl_head.specs.declared.reader.HeadReader.{HeadReader}
use Rattle.dl_head.specs.declared.reader.HeadStep.{HeadStep}
use Rattle.dl_head.specs.declared.reader.HeadStep.TheVariants as answer
use Rattle.dl_head.specs.Cells.{cells}
use Rattle.dl_field.specs.HeaderData.{HeaderData}
use Rattle.dl_head.specs.declared.header.HeaderLengths.{HeaderLengths}
use Rattle.dl_head.specs.Header.{IsHeader, foreign_in, header_in, lengths_in, unit_len}
use Rattle.dl_head.specs.Refusal.{HeaderRefused}
use Rattle.dl_head.specs.Reading.{Answers, Gives, GivesLengths}
use Rattle.dl_head.specs.Runs.{so_far, Took, Offered}
use Rattle.dl_head.specs.Standing.{StandsFor as HeadStands}
use Rattle.dl_field.proofs.FieldLemmas.{none_some}
use Rattle.dl_head.proofs.OneAnswer.{one_answer}
use Rattle.dl_head.proofs.HeaderLaws.{header_is_found, found_is_header, one_header}
use Rattle.std.proofs.lemmas.Bool.{cases_eq}
use Rattle.dl_rows.specs.declared.reader.Event.{Event}
use Rattle.dl_rows.specs.declared.reader.Event.TheVariants as event
use Rattle.dl_rows.specs.declared.reader.HeaderStop.{HeaderStop}
use Rattle.dl_rows.specs.declared.reader.Reader.{Reader}
use Rattle.dl_rows.specs.declared.reader.UnitStage.{UnitStage}
use Rattle.dl_rows.specs.declared.reader.UnitStage.TheVariants as state
use Rattle.dl_rows.specs.LineUnit.{IsUnit, events}
use Rattle.dl_rows.specs.Reading.{WithinUnit, told, EventHolds, Feeds, Fails}
use Rattle.dl_rows.specs.ReaderStands.{StandsFor}
use Rattle.dl_rows.specs.ReaderStates.{InHeader, StandsAt, StoppedInHeader, GoesOn, IsBegun, KnowsLength, HasHeader}
use Rattle.dl_rows.proofs.FirstLemmas.{split_front}
use Rattle.dl_rows.proofs.JoinLemmas.{no_events, header_sound, header_event}
use Rattle.dl_rows.proofs.OperandRanges.{bytes_front, bytes_joined}
use Rattle.dl_rows.proofs.ReaderLemmas.{foreign_no_header}
use Rattle.dl_rows.proofs.RowBytes.{front_is}
use Rattle.dl_rows.proofs.UnitBodyFeeds.{all_bytes}
use Rattle.dl_rows.proofs.UnitLemmas.{refused_in_header}
use Rattle.dl_rows.proofs.UnitLengths.{foreign_of}
use Rattle.dl_rows.proofs.UnitWhole.{NoneRefused}
use Rattle.std.proofs.Props.{props}
use Rattle.std.proofs.Math.Logic.{∥∥₁_elim, ∥∥₁_prop}
use Rattle.dl_rows.proofs.UnitKnown.{foreign_known, header_known}

-- ---- up to a byte of the piece

-- a front of b and bytes of the piece goes on in b, or is b and some of them
in_piece : (b piece front back : List ℕ) (n : ℕ) → b ++ take n piece ≡ front ++ back
    → ((x : ℕ) × (rest : List ℕ) × (b ≡ front ++ x ∷ rest)) ⊎ ((i : ℕ) × (i ≤ n) × (front ≡ b ++ take i piece))
in_piece b piece front back n e = elim (split_front b (take n piece) front back e) [
  | inl goes ↦ inl goes
  | inr (v, is, parts) ↦ inr (
    length v,
    omega (arith, ap length parts, length-append v back, length-take n piece),
    rw (front_is piece v back n parts) is,
  )
]

-- no front is a header
abbrev NoHeaders : Dialect → List ℕ → List ℕ → ℕ → Type 0
NoHeaders dialect b piece n = (i : ℕ) → i ≤ n → (h : HeaderData) → IsHeader dialect h (b ++ take i piece) → ⊥

no_header_up_to : (dialect : Dialect) (b piece : List ℕ) (n : ℕ) → header_in dialect b ≡ None
    → NoHeaders dialect b piece n → header_in dialect (b ++ take n piece) ≡ None
no_header_up_to dialect b piece n none not = on (header_in dialect (b ++ take n piece)) refl where
  on : (o : Option (HeaderData × List ℕ)) → header_in dialect (b ++ take n piece) ≡ o
      → header_in dialect (b ++ take n piece) ≡ None
  on None e = e
  on (Some (h, rest)) e =
      let f = found_is_header dialect h (b ++ take n piece) rest e in
      elim (in_piece b piece f.0 rest n f.1) [
        | inl (x, back, e) ↦
            absurd (none_some none (ap (header_in dialect) e ∙ header_is_found dialect h f.0 (x ∷ back) f.2))
        | inr (i, le, e) ↦ absurd (not i le h (subst (λ (w : List ℕ). IsHeader dialect h w) e f.2))
      ]

-- nor is any refused in its header
abbrev NoneRefusedTo : Dialect → List ℕ → List ℕ → ℕ → Type 0
NoneRefusedTo dialect b piece n =
    (i : ℕ) → i ≤ n → (at : ℕ) (kind : FaultKind) → HeaderRefused dialect (b ++ take i piece) at kind → ⊥

sound_up_to : (dialect : Dialect) (b piece : List ℕ) (n : ℕ) → header_in dialect b ≡ None
    → NoneRefused dialect b → NoHeaders dialect b piece n → NoneRefusedTo dialect b piece n
    → NoneRefused dialect (b ++ take n piece)
sound_up_to dialect b piece n none sound not quiet front back at kind e r = elim (in_piece b piece front back n e) [
  | inl (x, rest, e) ↦ sound front (x ∷ rest) at kind e r
  | inr (i, le, e) ↦
      let here = no_header_up_to dialect b piece i none (λ j lt. not j (omega (arith, lt, le))) in
      quiet i le at kind ((refused_in_header dialect (b ++ take i piece) at kind here).0 (rw e at r))
]

-- ---- the reader has offered the piece to that of the header

-- the first `used` bytes of the piece are taken
pub record HeadTook (dialect : Dialect) (old new : HeadReader) (b piece : List ℕ) (used : ℕ)
    (step : HeadStep) : Type 0 where
  pub was : InHeader dialect old b
  pub took : Took dialect b piece used step
  pub stands : HeadStands new (b ++ take used piece)
  pub whole : step ≡ answer.More → used ≡ length piece
  pub same_dialect : new.dialect ≡ dialect
  pub bytes : AllBytes piece

-- what holds of each number below one, and of it
up_to : (P : ℕ → Type 0) (n : ℕ) → ((i : ℕ) → i < n → P i) → P n → (i : ℕ) → i ≤ n → P i
up_to P n before here i le =
    elim (cases_eq i n) [ inl same ↦ subst P (sym same) here | inr other ↦ before i (omega (arith, le, other)) ]

taken_bytes : (b piece : List ℕ) (used : ℕ) → AllBytes b → AllBytes piece → AllBytes (b ++ take used piece)
taken_bytes b piece used all more =
    bytes_joined b (take used piece) all
    (bytes_front (take used piece) (drop used piece) (subst AllBytes (sym (take-append-drop used piece)) more))

-- bytes whose header isn't complete, and which aren't foreign, are no unit
pub no_unit : (dialect : Dialect) (b : List ℕ) → header_in dialect b ≡ None → foreign_in dialect b ≡ None
    → IsUnit dialect b → ⊥
no_unit dialect b none own (inl foreign) = none_some own (foreign_of dialect foreign.0 b foreign.1)
no_unit dialect b none own (inr unit) =
    none_some none (ap (header_in dialect) unit.2.whole
    ∙ header_is_found dialect unit.0 unit.2.header unit.2.program unit.2.spells_header)

byte_at : (piece : List ℕ) (i byte : ℕ) (later : List ℕ) → drop i piece ≡ byte ∷ later → slice_get piece i ≡ Some byte
byte_at [] zero byte later e = absurd cc
byte_at [] (suc i) byte later e = absurd cc
byte_at (x ∷ piece) zero byte later e = let same : x ≡ byte = cc in ap (λ (n : ℕ). Some n) same
byte_at (x ∷ piece) (suc i) byte later e = byte_at piece i byte later e

module _ {dialect : Dialect} {old new : HeadReader} {b piece : List ℕ} {used : ℕ} {step : HeadStep}
    (h : HeadTook dialect old new b piece used step) where
  abbrev w : List ℕ
  w = b ++ take used piece

  no_event_before : events dialect b ≡ []
  no_event_before = no_events dialect b h.was.incomplete h.was.more.1

  in_unit : WithinUnit dialect w
  in_unit n len = h.stands.within n (rw h.same_dialect len)

  last_event : 1 ≤ used → events dialect (b ++ take (used - 1) piece) ≡ events dialect b
  last_event some =
      let one : used - 1 < used = omega (arith, some) in
      let none =
      no_header_up_to dialect b piece (used - 1) h.was.incomplete
      (λ i lt. (h.took.before i (omega (arith, lt, one))).0) in
      no_events dialect (b ++ take (used - 1) piece) none (h.took.before (used - 1) one).1 ∙ sym no_event_before

  -- where the bytes are no header, no front of them is
  headers : ((g : HeaderData) → IsHeader dialect g w → ⊥) → NoHeaders dialect b piece used
  headers not =
      up_to (λ (i : ℕ). (g : HeaderData) → IsHeader dialect g (b ++ take i piece) → ⊥) used
      (λ i lt. (h.took.before i lt).0) not

  sound_at : ((g : HeaderData) → IsHeader dialect g w → ⊥)
      → ((at : ℕ) (kind : FaultKind) → HeaderRefused dialect w at kind → ⊥) → NoneRefused dialect w
  sound_at not quiet =
      sound_up_to dialect b piece used h.was.incomplete h.was.sound (headers not)
      (up_to (λ (i : ℕ). (at : ℕ) (kind : FaultKind) → HeaderRefused dialect (b ++ take i piece) at kind → ⊥) used
      (λ i lt. (h.took.before i lt).2) quiet)

  incomplete_at : ((g : HeaderData) → IsHeader dialect g w → ⊥) → header_in dialect w ≡ None
  incomplete_at not = no_header_up_to dialect b piece used h.was.incomplete (headers not)

  -- an answer of an event
  feeds_here : (e : Event) (fin : Reader) → StandsFor fin w → events dialect w ≡ told e
      → EventHolds dialect b piece used e → NoneRefused dialect w
      → Feeds StandsFor dialect b piece (record { used = used; event = e }) fin
  feeds_here e fin stands grows holds sound = record {
    answered = record {
      within = h.took.within;
      in_unit = in_unit;
      grows = rw no_event_before grows;
      holds = holds;
      sound = sound;
    };
    stands = stands;
  }

  -- ---- the header goes on

  module _ (goes : Answers dialect w answer.More) where
    pub goes_stands : InHeader dialect new w
    goes_stands = record {
      same_dialect = h.same_dialect;
      stands = h.stands;
      more = goes;
      bytes = taken_bytes b piece used h.was.bytes h.bytes;
      incomplete = incomplete_at goes.0;
      sound = sound_at goes.0 goes.2;
    }

    pub feeds_goes : (e : Event) (fin : Reader) → StandsFor fin w → told e ≡ [] → EventHolds dialect b piece used e
        → Feeds StandsFor dialect b piece (record { used = used; event = e }) fin
    feeds_goes e fin stands none holds =
        feeds_here e fin stands (no_events dialect w (incomplete_at goes.0) goes.1 ∙ sym none) holds
        (sound_at goes.0 goes.2)

    pub holds_more : used ≡ length piece → EventHolds dialect b piece used event.More
    holds_more all = (all, λ unit. absurd (no_unit dialect w (incomplete_at goes.0) goes.1 unit))

    pub holds_refused : step ≡ answer.NoMemory → EventHolds dialect b piece used event.NoMemory
    holds_refused is = let u = h.took.unfed is in (u.0, byte_at piece used u.0 u.1 u.2, incomplete_at goes.0, u.3)

  -- ---- a fault

  module _ (f : Fault) (refused : HeaderRefused dialect w f.offset f.kind) where
    no_header_here : (g : HeaderData) → IsHeader dialect g w → ⊥
    no_header_here g is =
        (let e : answer.Fault f ≡ answer.Done =
        one_answer dialect w (answer.Fault f) answer.Done refused (g, is) in absurd cc)

    not_foreign_here : (o : Option ℕ) → foreign_in dialect w ≡ o → foreign_in dialect w ≡ None
    not_foreign_here None e = e
    not_foreign_here (Some v) e =
        (let d : answer.Fault f ≡ answer.Foreign v =
        one_answer dialect w (answer.Fault f) (answer.Foreign v) refused e in absurd cc)

    pub fails_head : Fails dialect b piece f used
    fails_head =
        let none = incomplete_at no_header_here in
        record {
          within = h.took.within;
          in_unit = in_unit;
          refused = (refused_in_header dialect w f.offset f.kind none).1 refused;
          no_event = no_events dialect w none (not_foreign_here (foreign_in dialect w) refl) ∙ sym no_event_before;
        }

    pub stopped_head : (stop : HeaderStop) → stop.fault ≡ f → stop.taken ≡ length w
        → stop.unit_len ≡ unit_len dialect w → stop.cells ≡ min (cells dialect w) (2 ^ 64 - 1) → StoppedInHeader dialect stop w
    stopped_head stop fault taken len held = record {
      refused = rw fault fails_head.refused;
      taken = taken;
      len = len;
      in_unit = in_unit;
      incomplete = incomplete_at no_header_here;
      cells = held;
    }

  -- ---- a foreign version

  pub feeds_version : (fin : Reader) (v : ℕ) → foreign_in dialect w ≡ Some v → 1 ≤ used → StandsFor fin w
      → Feeds StandsFor dialect b piece (record { used = used; event = event.Foreign v }) fin
  feeds_version fin v foreign some stands =
      feeds_here (event.Foreign v) fin stands (rw foreign) (some, last_event some) (sound_at not_header not_refused)
    where
      not_header : (g : HeaderData) → IsHeader dialect g w → ⊥
      not_header g is =
          none_some (foreign_no_header dialect w v foreign)
          (ap (header_in dialect) (sym (append-nil w)) ∙ header_is_found dialect g w [] is)

      not_refused : (at : ℕ) (kind : FaultKind) → HeaderRefused dialect w at kind → ⊥
      not_refused at kind r =
          (let e : answer.Foreign v ≡ answer.Fault (record { offset = at; kind = kind }) =
          one_answer dialect w (answer.Foreign v) (answer.Fault (record { offset = at; kind = kind })) foreign r in
          absurd cc)

  -- ---- a header

  pub feeds_header : (fin : Reader) (g : HeaderData) → IsHeader dialect g w → 1 ≤ used → StandsFor fin w
      → Feeds StandsFor dialect b piece (record { used = used; event = event.Header }) fin
  feeds_header fin g is some stands =
      feeds_here event.Header fin stands (header_event dialect g w is) (some, last_event some)
      (header_sound dialect g w is)

-- by what the reader of the header answers
pub head_took : {dialect : Dialect} {x : UnitStage} {old new : HeadReader} {b piece : List ℕ} {used : ℕ} {step : HeadStep}
    → x ≡ state.InHeader old → StandsAt dialect x b → ((i : ℕ) → i < length piece → get_or piece i 0 < 256)
    → ((d : List ℕ) → HeadStands old d → Answers old.dialect d answer.More → Offered old.dialect d piece used step new)
    → new.dialect ≡ old.dialect → HeadTook dialect old new b piece used step
head_took {dialect} {x} {old} {new} {b} {piece} {used} {step} is stands all offered same =
    let was : InHeader dialect old b = rw is at stands in
    let o : Offered dialect b piece used step new =
    rw was.same_dialect at (offered b was.stands (rw was.same_dialect was.more)) in
    record {
      was = was;
      took = o.answered.took;
      stands = o.stands;
      whole = o.answered.whole;
      same_dialect = same ∙ was.same_dialect;
      bytes = all_bytes piece all;
    }

-- what the bytes come to, by the step
pub come_to : {dialect : Dialect} {old new : HeadReader} {b piece : List ℕ} {used : ℕ} {step : HeadStep}
    (h : HeadTook dialect old new b piece used step) (a : HeadStep) → step ≡ a
    → Answers dialect (b ++ take used piece) (so_far a)
come_to h a is = rw is at h.took.answers

-- all that was taken is bytes
pub bytes_taken : {dialect : Dialect} {old new : HeadReader} {b piece : List ℕ} {used : ℕ} {step : HeadStep}
    → HeadTook dialect old new b piece used step → AllBytes (b ++ take used piece)
bytes_taken {b = b} {piece = piece} {used = used} h = taken_bytes b piece used h.was.bytes h.bytes

-- ---- where it is known that something was taken

-- a header that is begun
pub begun_in : {s : UnitStage} {head : HeadReader} → s ≡ state.InHeader head → ∥ IsBegun s ∥₁ → ∥ GoesOn head ∥₁
begun_in is begun = rw is at begun

-- how many bytes were taken
pub taken_is : (head : HeadReader) (n : ℕ) → ∥ GoesOn head ∥₁ → ((b : List ℕ) → HeadStands head b → n ≡ length b)
    → n ≡ head.taken
taken_is head n begun counts = ∥∥₁_elim begun (hlevel props) (λ g. counts g.0 g.1 ∙ sym g.1.taken)

-- one that comes to something takes a byte
pub begun_takes : {head : HeadReader} {used : ℕ} {step : HeadStep} → ∥ GoesOn head ∥₁
    → ((b : List ℕ) → HeadStands head b → Answers head.dialect b answer.More → step ≢ answer.More
    → step ≢ answer.NoMemory → 1 ≤ used) → step ≢ answer.More → step ≢ answer.NoMemory → 1 ≤ used
begun_takes begun takes ends fed =
    ∥∥₁_elim begun (hlevel props) (λ g. takes g.0 g.1 g.2 ends fed)

-- a reader that has taken a header does so
pub header_knows : (head : HeadReader) → ∥ HasHeader head ∥₁ → ∥ KnowsLength head ∥₁
header_knows head has = ∥∥₁_elim has ∥∥₁_prop (λ k. ∣ (k.0, k.1, header_known head.dialect k.2.0 k.0 k.2.1) ∣₁)

-- and gives it
pub header_given : (head : HeadReader) (o : Option HeaderData) → ∥ HasHeader head ∥₁ → Gives head.dialect head o
    → o ≡ None → ⊥
header_given head o has gives none =
    ∥∥₁_elim has (hlevel props)
    (λ k. (let n : Gives head.dialect head None = rw none at gives in n k.0 k.1 k.2.0 k.2.1))

-- and its lengths
pub lengths_given : (head : HeadReader) (o : Option HeaderLengths) → ∥ HasHeader head ∥₁
    → GivesLengths head.dialect head o → o ≡ None → ⊥
lengths_given head o has gives none =
    ∥∥₁_elim has (hlevel props)
    (λ k. (let n : GivesLengths head.dialect head None = rw none at gives in n k.0 k.1 k.2.0 k.2.1))

pub lengths_taken : (head : HeadReader) (o : Option HeaderLengths) (l : HeaderLengths) → GivesLengths head.dialect head o
    → o ≡ Some l → (b : List ℕ) (h : HeaderData) → HeadStands head b → IsHeader head.dialect h b
    → l ≡ lengths_in head.dialect b h
lengths_taken head o l gives some b h stands is =
    let g : GivesLengths head.dialect head (Some l) = rw some at gives in
    let own = g b stands in
    let same = (one_header head.dialect own.0 h b [] own.1 (rw (append-nil b) is)).1 in
    own.2 ∙ ap (lengths_in head.dialect b) same

-- a piece was offered to the reader of a header
module _ {old new : HeadReader} {piece : List ℕ} {used : ℕ} {step : HeadStep} (begun : ∥ GoesOn old ∥₁)
    (offered : (b : List ℕ) → HeadStands old b → Answers old.dialect b answer.More
    → Offered old.dialect b piece used step new)
    (same : new.dialect ≡ old.dialect) where
  -- what the bytes that it has taken come to
  pub comes_to : (s : HeadStep) → step ≡ s
      → ∥ ((b : List ℕ) × HeadStands new b × Answers new.dialect b (so_far s)) ∥₁
  comes_to s is = ∥∥₁_elim begun ∥∥₁_prop (λ g.
      (let o = offered g.0 g.1 g.2 in
      ∣ (g.0 ++ take used piece, o.stands, rw same (rw is at o.answered.took.answers)) ∣₁))

  -- a foreign version is complete
  pub knows_foreign : (version : ℕ) → step ≡ answer.Foreign version → ∥ KnowsLength new ∥₁
  knows_foreign version is =
      ∥∥₁_elim (comes_to (answer.Foreign version) is) ∥∥₁_prop (λ g.
      ∣ (g.0, g.1, foreign_known new.dialect g.0 version g.2) ∣₁)
