-- A walk over the units of a section, a piece further on.
use Rattle.std.proofs.Common.{◌≡◌, ◌≢◌, ◌⊎◌, ◌↔◌, inl, inr, ℕ, ◌+◌, ◌-◌, ◌<◌, ◌≤◌, List, [], ◌++◌, length, take, drop}
use Rattle.std.proofs.Common.{true, false, Option, Some, None, refl, sym, ap, subst, ◌∙◌, arith, append_assoc}
use Rattle.std.proofs.Common.{append-nil}
use Rattle.std.proofs.Common.{length-append, length-drop, length-take-le}
use Rattle.std.proofs.lemmas.Bool.{cases_lt}
use Rattle.std.proofs.lemmas.List.{take-append-drop, take-append-le, take-take, take_all, take_at, drop-drop, drop_all}
use Rattle.std.proofs.lemmas.List.{drop_at, take_rest}
use Rattle.dl_head.specs.declared.dialect.Dialect.{Dialect}
use Rattle.dl_field.specs.HeaderData.{HeaderData}
use Rattle.dl_field.proofs.FieldLemmas.{none_some}
use Rattle.dl_head.specs.declared.reader.HeadReader.{HeadReader}
use Rattle.dl_head.specs.declared.reader.HeadStep.{HeadStep}
use Rattle.dl_head.specs.declared.reader.HeadStep.TheVariants as answer
use Rattle.dl_head.specs.Header.{IsHeader, unit_len}
use Rattle.dl_head.specs.Reading.{Answers, Gives}
use Rattle.dl_head.specs.Runs.{Offered, Took, so_far}
use Rattle.dl_head.specs.Standing.{StandsFor as HeadStandsFor}
use Rattle.dl_rows.proofs.ReaderFeeds.{nothing_yet}
use Rattle.dl_rows.proofs.UnitKnown.{foreign_known, header_known}
use Rattle.dl_head.specs.declared.fault.Fault.{Fault}
use Rattle.dl_object.specs.Section.{NoneFollows}
use Rattle.dl_object.proofs.HeadLemmas.{none_after_refused, none_more}
use Rattle.dl_forms.specs.declared.state.WalkStage.{WalkStage}
use Rattle.dl_forms.specs.declared.state.WalkStage.TheVariants as state
use Rattle.dl_forms.specs.Names.{RefusesCellFrom, Names, named_in}
use Rattle.dl_forms.specs.Standing.{Begins, IsHead, Onward, StandsAt}
use Rattle.dl_forms.proofs.NamesLemmas.{Kind, named_here, none_named, past_head}

-- a step after which the header isn't gone on with
abbrev Ends : HeadStep → Type 0
Ends step =
    (step ≡ answer.Done) ⊎ (((version : ℕ) × (step ≡ answer.Foreign version)) ⊎ ((f : Fault) × (step ≡ answer.Fault f)))

not_more : (step : HeadStep) → Ends step → step ≡ answer.More → ⊥
not_more step (inl e) more = let g : answer.Done ≡ answer.More = sym e ∙ more in absurd cc
not_more step (inr (inl e)) more = let g : answer.Foreign e.0 ≡ answer.More = sym e.1 ∙ more in absurd cc
not_more step (inr (inr e)) more = let g : answer.Fault e.0 ≡ answer.More = sym e.1 ∙ more in absurd cc

not_refused : (step : HeadStep) → Ends step → step ≡ answer.NoMemory → ⊥
not_refused step (inl e) refused = let g : answer.Done ≡ answer.NoMemory = sym e ∙ refused in absurd cc
not_refused step (inr (inl e)) refused = let g : answer.Foreign e.0 ≡ answer.NoMemory = sym e.1 ∙ refused in absurd cc
not_refused step (inr (inr e)) refused = let g : answer.Fault e.0 ≡ answer.NoMemory = sym e.1 ∙ refused in absurd cc

-- each front of u leaves the header going on
abbrev IsOpen : Dialect → List ℕ → Type 0
IsOpen dialect u = (i : ℕ) → i ≤ length u → Answers dialect (take i u) answer.More

-- ---- what is named, with more bytes

onward_more : (dialect : Dialect) (b u x : List ℕ) → Onward dialect b u → Onward dialect (b ++ x) (u ++ x)
onward_more dialect b u x onward = record {
  before = onward.before;
  split = ap (λ (z : List ℕ). z ++ x) onward.split ∙ append_assoc onward.before u x;
  same = λ rest. (
    λ named. subst (Names dialect) (sym (append_assoc u x rest))
        ((onward.same (x ++ rest)).0 (subst (Names dialect) (append_assoc b x rest) named)),
    λ named. subst (Names dialect) (sym (append_assoc b x rest))
        ((onward.same (x ++ rest)).1 (subst (Names dialect) (append_assoc u x rest) named)),
  );
}

-- ---- the header goes on after u

-- so u begins no unit whose length is known
open_begins_none : (dialect : Dialect) (u : List ℕ) → IsOpen dialect u → NoneFollows dialect u
open_begins_none dialect u goes =
    let took : Took dialect [] u (length u) answer.More = record {
      within = omega arith;
      answers = goes (length u) (omega arith);
      before = λ i lt. goes i (omega (arith, lt));
      unfed = λ e. absurd cc;
    } in
    none_more dialect u (length u) answer.More took refl refl

pub open_names_none : (dialect : Dialect) (u : List ℕ) → IsOpen dialect u → Names dialect u → ⊥
open_names_none dialect u goes = none_named dialect u (open_begins_none dialect u goes)

nil_open : (dialect : Dialect) → IsOpen dialect []
nil_open dialect i le = subst (λ (w : List ℕ). Answers dialect w answer.More) (sym (take_all i [] (omega arith)))
    (nothing_yet dialect)

-- ---- bytes of a piece were taken after u

take_past : (p q : List ℕ) (n : ℕ) → n ≤ length q → take (length p + n) (p ++ q) ≡ p ++ take n q
take_past p q n le =
    ap (take (length p + n)) (ap (λ (z : List ℕ). p ++ z) (sym (take-append-drop n q))
    ∙ sym (append_assoc p (take n q) (drop n q)))
    ∙ take_at (p ++ take n q) (drop n q) (length p + n)
    (length-append p (take n q) ∙ ap (λ (k : ℕ). length p + k) (length-take-le n q le))

module _ (dialect : Dialect) (u piece : List ℕ) (goes : IsOpen dialect u) (used : ℕ) (step : HeadStep)
    (took : Took dialect u piece used step) where
  abbrev w : List ℕ
  w = u ++ take used piece

  w_len : length w ≡ length u + used
  w_len = length-append u (take used piece) ∙ ap (λ (n : ℕ). length u + n) (length-take-le used piece took.within)

  -- what stands in front of its last byte leaves the header going on
  before : (i : ℕ) → i < length w → Answers dialect (take i w) answer.More
  before i lt = elim (cases_lt (length u) i) [
    | inl past ↦ (
        let j = i - length u in
        let same : take i w ≡ u ++ take j piece =
        ap (λ (n : ℕ). take n w) (let s : i ≡ length u + (i - length u) = omega (arith, past) in s)
        ∙ take_past u (take used piece) j (let n =
        w_len in omega (arith, lt, n, past, length-take-le used piece took.within))
        ∙ ap (λ (z : List ℕ). u ++ z) (take-take j used piece (let n = w_len in omega (arith, lt, n, past))) in
        subst (λ (z : List ℕ). Answers dialect z answer.More) (sym same)
        (took.before j (let n = w_len in omega (arith, lt, n, past))))
    | inr within ↦
        subst (λ (z : List ℕ). Answers dialect z answer.More) (sym (take-append-le i u (take used piece) within))
        (goes i within)
  ]

  w_open : step ≡ answer.More → IsOpen dialect w
  w_open more i le = elim (cases_lt i (length w)) [
    | inl lt ↦ before i lt
    | inr ge ↦ subst (λ (z : List ℕ). Answers dialect z answer.More) (sym (take_all i w ge))
        (subst (λ (s : HeadStep). Answers dialect w (so_far s)) more took.answers)
  ]

  -- memory is refused
  pub adds_cell : step ≡ answer.NoMemory → (before b : List ℕ) → b ≡ before ++ u
      → RefusesCellFrom dialect (length b) (b ++ piece)
  adds_cell e before b split =
      let cell = took.unfed e in
      let n = ap length split ∙ length-append before u in
      let m = w_len in (
        before,
        w,
        cell.0,
        cell.1,
        ap (λ (z : List ℕ). z ++ piece) split ∙ append_assoc before u piece
            ∙ ap (λ (z : List ℕ). before ++ z) (ap (λ (z : List ℕ). u ++ z) (sym (take-append-drop used piece))
            ∙ sym (append_assoc u (take used piece) (drop used piece)) ∙ ap (λ (z : List ℕ). w ++ z) cell.2),
        omega (arith, n, m),
        cell.3,
      )

  -- a header, a foreign version, or a fault
  pub kind_is : Ends step → Kind dialect w
  kind_is (inl done) = inl (subst (λ (s : HeadStep). Answers dialect w (so_far s)) done took.answers)
  kind_is (inr (inl foreign)) =
      inr (inl (foreign.0, subst (λ (s : HeadStep). Answers dialect w (so_far s)) foreign.1 took.answers))
  kind_is (inr (inr fault)) =
      inr (inr (record {
        place = fault.0.offset;
        kind = fault.0.kind;
        refused = subst (λ (s : HeadStep). Answers dialect w (so_far s)) fault.1 took.answers;
      }))

-- ---- after the head of a unit

-- what the reader gives is what the bytes are
gives_some : (dialect : Dialect) (reader : HeadReader) (w : List ℕ) (o : Option HeaderData) → HeadStandsFor reader w
    → Gives dialect reader o → (h : HeaderData) → o ≡ Some h → IsHeader dialect h w
gives_some dialect reader w (Some g) stands gives h e =
    let same : g ≡ h = cc in subst (λ (z : HeaderData). IsHeader dialect z w) same (gives w stands)
gives_some dialect reader w None stands gives h e = absurd cc

gives_none : (dialect : Dialect) (reader : HeadReader) (w : List ℕ) (o : Option HeaderData) → HeadStandsFor reader w
    → Gives dialect reader o → o ≡ None → (h : HeaderData) → IsHeader dialect h w → ⊥
gives_none dialect reader w (Some g) stands gives e h = absurd cc
gives_none dialect reader w None stands gives e h = gives w stands h

module _ (reader : HeadReader) (b w : List ℕ) (is : IsHead reader w) (onward : Onward reader.dialect b w)
    (o : Option HeaderData) (gives : Gives reader.dialect reader o) where
  pub is_named : named_in o ≡ true → (rest : List ℕ) → Names reader.dialect (b ++ rest)
  is_named named rest =
      (onward.same rest).1 (named_here reader.dialect w rest o
      (gives_some reader.dialect reader w o is.stands gives) named)

  -- len: the unit's length; taken: how many bytes were taken
  pub in_body : (len taken : ℕ) → Some len ≡ unit_len reader.dialect w → length w ≤ len → taken ≡ length w
      → named_in o ≡ false
      → (rest : List ℕ) → Names reader.dialect (b ++ rest) ↔ Names reader.dialect (drop (len - taken) rest)
  in_body len taken told le counted unnamed rest =
      let past = past_head reader.dialect w len is.kind (sym told) le rest o
      (gives_some reader.dialect reader w o is.stands gives)
      (gives_none reader.dialect reader w o is.stands gives) unnamed in
      let same : drop (len - taken) rest ≡ drop (len - length w) rest = ap (λ (n : ℕ). drop (len - n) rest) counted in (
        λ named. subst (Names reader.dialect) (sym same) (past.0 ((onward.same rest).0 named)),
        λ named. (onward.same rest).1 (past.1 (subst (Names reader.dialect) same named)),
      )

-- a head of which the length isn't known names nothing, whatever follows
none_after : (dialect : Dialect) (w rest : List ℕ) → Kind dialect w → unit_len dialect w ≡ None
    → Names dialect (w ++ rest) → ⊥
none_after dialect w rest (inl own) unknown named =
    none_some unknown (header_known dialect own.0 w own.1).1
none_after dialect w rest (inr (inl foreign)) unknown named =
    none_some unknown (foreign_known dialect w foreign.0 foreign.1).1
none_after dialect w rest (inr (inr r)) unknown named =
    none_named dialect (w ++ rest) (none_after_refused dialect w rest r unknown) named

pub ended : (reader : HeadReader) (b w : List ℕ) → IsHead reader w → Onward reader.dialect b w
    → ◌≡◌ {A = Option ℕ} None (unit_len reader.dialect w) → (rest : List ℕ) → Names reader.dialect (b ++ rest) → ⊥
ended reader b w is onward none rest named =
    none_after reader.dialect w rest is.kind (sym none) ((onward.same rest).0 named)

-- ---- after a piece of the rest of a unit

-- all of it
pub body_goes : (dialect : Dialect) (b piece : List ℕ) (left : ℕ) → StandsAt dialect (state.Body left) b
    → length piece ≤ left → StandsAt dialect (state.Body (left - length piece)) (b ++ piece)
body_goes dialect b piece left stands le rest =
    let at = stands (piece ++ rest) in
    let same : drop left (piece ++ rest) ≡ drop (left - length piece) rest = past piece rest left le in (
      λ named. subst (Names dialect) same (at.0 (subst (Names dialect) (append_assoc b piece rest) named)),
      λ named. subst (Names dialect) (sym (append_assoc b piece rest)) (at.1 (subst (Names dialect) (sym same) named)),
    ) where
      past : (p q : List ℕ) (n : ℕ) → length p ≤ n → drop n (p ++ q) ≡ drop (n - length p) q
      past p q n le =
          let s : length p + (n - length p) ≡ n = omega (arith, le) in
          ap (λ (k : ℕ). drop k (p ++ q)) (sym s) ∙ sym (drop-drop (n - length p) (length p) (p ++ q))
          ∙ ap (drop (n - length p)) (drop_at p q (length p) refl)

-- up to the next unit, of which unnamed byte is taken
pub body_ends : (dialect : Dialect) (b piece : List ℕ) (left : ℕ) → StandsAt dialect (state.Body left) b
    → left ≤ length piece → Onward dialect (b ++ take left piece) []
body_ends dialect b piece left stands le =
    let n = length-take-le left piece le in
    let at = body_goes dialect b (take left piece) left stands (omega (arith, n)) in
    let same : left - length (take left piece) ≡ 0 = omega (arith, n) in
    record {
      before = b ++ take left piece;
      split = sym (append-nil (b ++ take left piece));
      same = λ rest. (
        λ named. subst (λ (k : ℕ). Names dialect (drop k rest)) same ((at rest).0 named),
        λ named. (at rest).1 (subst (λ (k : ℕ). Names dialect (drop k rest)) (sym same) named),
      );
    }

-- ---- the bytes offered to the reader of a header

begun_more : (reader : HeadReader) (u : List ℕ) → Begins reader u → Answers reader.dialect u answer.More
begun_more reader u begins =
    subst (λ (z : List ℕ). Answers reader.dialect z answer.More) (take_all (length u) u (omega arith))
    (begins.goes (length u) (omega arith))

pub begins_none : (reader : HeadReader) → HeadStandsFor reader [] → Begins reader []
begins_none reader stands = record { stands = stands; goes = nil_open reader.dialect }

-- what ends the header has a byte
module _ (reader : HeadReader) (u piece : List ℕ) (used : ℕ) (step : HeadStep) (begins : Begins reader u)
    (progress : Answers reader.dialect u answer.More → step ≢ answer.More → step ≢ answer.NoMemory → 1 ≤ used) where
  pub ended_some : Ends step → 1 ≤ used
  ended_some ends = progress (begun_more reader u begins) (not_more step ends) (not_refused step ends)

module _ (reader new : HeadReader) (b u piece : List ℕ) (used : ℕ) (step : HeadStep) (begins : Begins reader u)
    (offered : Answers reader.dialect u answer.More → Offered reader.dialect u piece used step new)
    (same : new.dialect ≡ reader.dialect) (onward : Onward reader.dialect b u) where
  given : Offered reader.dialect u piece used step new
  given = offered (begun_more reader u begins)

  took : Took reader.dialect u piece used step
  took = given.answered.took

  abbrev head : List ℕ
  head = u ++ take used piece

  abbrev taken : List ℕ
  taken = b ++ take used piece

  later : Onward reader.dialect taken head
  later = onward_more reader.dialect b u (take used piece) onward

  -- the header goes on
  pub goes_on : step ≡ answer.More → StandsAt reader.dialect (state.Head new) taken
  goes_on more = (
    head,
    same,
    record {
      stands = given.stands;
      goes = subst (λ (d : Dialect). IsOpen d head) (sym same)
          (w_open reader.dialect u piece begins.goes used step took more);
    },
    later,
  )

  -- it takes the whole piece
  pub all_taken : step ≡ answer.More → 1 ≤ length piece → 1 ≤ used
  all_taken more some = let n = given.answered.whole more in omega (arith, n, some)

  -- it ends, or the unit isn't read
  module _ (ends : Ends step) where
    pub is_head : IsHead new head
    is_head = record {
      stands = given.stands;
      kind = subst (λ (d : Dialect). Kind d head) (sym same)
          (kind_is reader.dialect u piece begins.goes used step took ends);
    }

    pub stands_after : (after : WalkStage) → ((b z : List ℕ) → IsHead new z → Onward new.dialect b z
        → StandsAt new.dialect after b) → StandsAt reader.dialect after taken
    stands_after after at =
        subst (λ (d : Dialect). StandsAt d after taken) same
        (at taken head is_head (subst (λ (d : Dialect). Onward d taken head) (sym same) later))

  -- memory is refused
  pub wants_cell : step ≡ answer.NoMemory → RefusesCellFrom reader.dialect (length b) (b ++ piece)
  wants_cell refused =
      adds_cell reader.dialect u piece begins.goes used step took refused onward.before b onward.split

-- ---- a part of a piece, and bytes of what follows it

pub further : (b piece : List ℕ) (at used : ℕ) → at ≤ length piece
    → used ≤ length (take (length piece - at) (drop at piece))
    → (b ++ take at piece) ++ take used (take (length piece - at) (drop at piece)) ≡ b ++ take (at + used) piece
further b piece at used le within =
    let rest = take_rest piece at in
    let n = ap length rest in
    let joined : take at piece ++ take used (drop at piece) ≡ take (at + used) piece =
    sym (take_past (take at piece) (drop at piece) used (omega (arith, n, within)))
    ∙ ap (λ (k : ℕ). take (k + used) (take at piece ++ drop at piece)) (length-take-le at piece le)
    ∙ ap (take (at + used)) (take-append-drop at piece) in
    append_assoc b (take at piece) (take used (take (length piece - at) (drop at piece)))
    ∙ ap (λ (z : List ℕ). b ++ z) (ap (λ (z : List ℕ). take at piece ++ take used z) rest ∙ joined)

pub further_within : (piece : List ℕ) (at used : ℕ) → at ≤ length piece
    → used ≤ length (take (length piece - at) (drop at piece)) → at + used ≤ length piece
further_within piece at used le within =
    let n = ap length (take_rest piece at) in
    let m = length-drop at piece in
    omega (arith, n, m, le, within)

pub wants_further : (dialect : Dialect) (b piece : List ℕ) (at : ℕ)
    → RefusesCellFrom dialect (length (b ++ take at piece))
    ((b ++ take at piece) ++ take (length piece - at) (drop at piece)) → RefusesCellFrom dialect (length b) (b ++ piece)
wants_further dialect b piece at (before, front, byte, back, split, past, adds) =
    let n = length-append b (take at piece) in (
      before,
      front,
      byte,
      back,
      sym (append_assoc b (take at piece) (take (length piece - at) (drop at piece))
          ∙ ap (λ (z : List ℕ). b ++ z) (ap (λ (z : List ℕ). take at piece ++ z) (take_rest piece at)
          ∙ take-append-drop at piece)) ∙ split,
      omega (arith, n, past),
      adds,
    )

-- ---- what was named, by where the walk is

named_at : (dialect : Dialect) (s : WalkStage) (b : List ℕ) → StandsAt dialect s b → s ≡ state.Named → (rest : List ℕ)
    → Names dialect (b ++ rest)
named_at dialect s b stands e = subst (λ (z : WalkStage). StandsAt dialect z b) e stands

without_rest : (dialect : Dialect) (b : List ℕ) → Names dialect (b ++ []) → Names dialect b
without_rest dialect b named = subst (Names dialect) (append-nil b) named

pub named_now : (dialect : Dialect) (s : WalkStage) (b : List ℕ) → StandsAt dialect s b → s ≡ state.Named → Names dialect b
named_now dialect s b stands e = without_rest dialect b (named_at dialect s b stands e [])

with_rest : (dialect : Dialect) (b : List ℕ) → Names dialect b → Names dialect (b ++ [])
with_rest dialect b named = subst (Names dialect) (sym (append-nil b)) named

pub unnamed_at : (dialect : Dialect) (s : WalkStage) (b : List ℕ) → StandsAt dialect s b → (s ≡ state.Named → ⊥)
    → Names dialect b → ⊥
unnamed_at dialect (state.Head reader) b (u, same, begins, onward) other named =
    open_names_none dialect u (subst (λ (d : Dialect). IsOpen d u) same begins.goes)
    (without_rest dialect u ((onward.same []).0 (with_rest dialect b named)))
unnamed_at dialect (state.Body left) b stands other named =
    open_names_none dialect [] (nil_open dialect)
    (subst (Names dialect) (drop_all left [] (omega arith)) ((stands []).0 (with_rest dialect b named)))
unnamed_at dialect state.Named b stands other named = other refl
unnamed_at dialect state.Ended b stands other named = stands [] (with_rest dialect b named)

pub nil_onward : (dialect : Dialect) → Onward dialect [] []
nil_onward dialect = record { before = []; split = refl; same = λ rest. (λ named. named, λ named. named) }

-- a walk that is over settles it, whatever follows
pub over_at : (dialect : Dialect) (s : WalkStage) (b : List ℕ) → StandsAt dialect s b → (s ≡ state.Named)
    ⊎ (s ≡ state.Ended) → (rest : List ℕ) → Names dialect (b ++ rest) ↔ Names dialect b
over_at dialect s b stands (inl e) rest =
    (λ named. named_now dialect s b stands e, λ named. named_at dialect s b stands e rest)
over_at dialect s b stands (inr e) rest =
    let none = subst (λ (z : WalkStage). StandsAt dialect z b) e stands in
    (λ named. absurd (none rest named), λ named. absurd (none [] (with_rest dialect b named)))
