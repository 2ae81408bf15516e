-- A walk, some bytes further on.
use Rattle.std.proofs.Common.{◌≡◌, ℕ, ◌+◌, ◌-◌, ◌<◌, ◌≤◌, List, [], ◌++◌, length, take, drop, min, refl, sym, ap, subst}
use Rattle.std.proofs.Common.{◌∙◌, arith, append_assoc, length-append, length-drop, length-take}
use Rattle.std.proofs.lemmas.List.{append-nil, drop_all, take_all, take_rest}
use Rattle.std.proofs.Math.Seq.{drop-append-add, take-add}
use Rattle.dl_num.specs.declared.fixed.Order.{Order}
use Rattle.dl_info.specs.Section.{section_of}
use Rattle.dl_info.specs.declared.head.UnitLength.{UnitLength}
use Rattle.dl_info.specs.declared.unit.Answer.{Answer}
use Rattle.dl_info.specs.declared.unit.Answer.TheVariants.{Found, More, Unreadable}
use Rattle.dl_info.specs.Entries.{EntryData}
use Rattle.dl_info.specs.Units.{first_entry, unit_length}
use Rattle.dl_info.proofs.SteadyUnits.{lengths_stay}
use Rattle.dl_dirs.specs.declared.walk.InfoStage.TheVariants as state
use Rattle.dl_dirs.specs.declared.places.Places.{Places}
use Rattle.dl_dirs.specs.declared.walk.InfoStage.{InfoStage}
use Rattle.dl_dirs.specs.declared.walk.Walk.{Walk}
use Rattle.dl_dirs.specs.Holding.{Holds}
use Rattle.dl_dirs.specs.Standing.{Awaits, GoesOn, Onward, StandsAt, StandsFor, told_length}
use Rattle.dl_dirs.specs.Units.{after, entries, found_in}
use Rattle.dl_dirs.proofs.UnitLemmas.{entries_here, no_entries, not_told, one_more, spelled, told_found, unit_ended, unit_passed}

-- bytes that are passed
passed : (left : ℕ) (u rest : List ℕ) → length u ≤ left → drop left (u ++ rest) ≡ drop (left - length u) rest
passed left u rest within =
    let parts : length u + (left - length u) ≡ left = omega (arith, within) in
    ap (λ n. drop n (u ++ rest)) (sym parts) ∙ drop-append-add u rest (left - length u)

module _ (order : Order) (abbreviations b : List ℕ) (es : List EntryData) where
  abbrev pub of : List ℕ → List EntryData
  of = entries order abbreviations

  abbrev pub here_in : List ℕ → List EntryData
  here_in u = found_in (first_entry order abbreviations u)

  behind : (front u : List ℕ) → Onward order abbreviations b es front → (rest : List ℕ)
      → of ((b ++ u) ++ rest) ≡ es ++ of (front ++ (u ++ rest))
  behind front u onward rest = ap of (append_assoc b u rest) ∙ onward (u ++ rest)

  -- ---- in the body of a unit

  pub body_goes : (left : ℕ) (piece front : List ℕ) → StandsAt order abbreviations (state.Body left) front b es
      → length piece ≤ left
      → StandsAt order abbreviations (state.Body (left - length piece)) front (b ++ take (length piece) piece) es
  body_goes left piece front stands within rest =
      rw (take_all (length piece) piece (omega arith))
      (ap of (append_assoc b piece rest) ∙ (stands (piece ++ rest) ∙ ap (λ r. es ++ of r) (passed left piece rest within)))

  pub body_ends : (left : ℕ) (piece front : List ℕ) → StandsAt order abbreviations (state.Body left) front b es
      → left ≤ length piece → Onward order abbreviations (b ++ take left piece) es []
  body_ends left piece front stands within rest =
      let whole : length (take left piece) ≡ left = omega (arith, length-take left piece, within) in
      let none : left - length (take left piece) ≡ 0 = omega (arith, whole) in
      ap of (append_assoc b (take left piece) rest)
      ∙ (stands (take left piece ++ rest)
      ∙ ap (λ r. es ++ of r)
      (passed left (take left piece) rest (omega (arith, whole)) ∙ ap (λ n. drop n rest) none))

  -- ---- where a unit begins

  pub begins : (piece new : List ℕ) (l : UnitLength) (used : ℕ) → Onward order abbreviations b es []
      → told_length order abbreviations piece ≡ Found l → used ≡ min l.size (length piece)
      → StandsAt order abbreviations (state.Body (l.size - used)) new (b ++ take used piece) (es ++ here_in piece)
  begins piece new l used onward is used_is rest =
      behind [] (take used piece) onward rest
      ∙ (ap (λ r. es ++ r) (unit_passed order abbreviations piece l used rest is used_is)
      ∙ sym (append_assoc es (here_in piece) (of (drop (l.size - used) rest))))

  pub begins_more : (piece : List ℕ) → Onward order abbreviations b es []
      → Onward order abbreviations (b ++ take (length piece) piece) es piece
  begins_more piece onward rest =
      rw (take_all (length piece) piece (omega arith)) (behind [] piece onward rest)

  pub begins_none : (piece new : List ℕ) → Onward order abbreviations b es []
      → told_length order abbreviations piece ≡ Unreadable
      → StandsAt order abbreviations state.Ended new (b ++ take (length piece) piece) (es ++ here_in piece)
  begins_none piece new onward is rest =
      rw (take_all (length piece) piece (omega arith))
      (behind [] piece onward rest ∙ ap (λ r. es ++ r) (unit_ended order abbreviations piece rest is))

  pub nothing_told : (u : List ℕ) → told_length order abbreviations u ≡ More → es ++ here_in u ≡ es
  nothing_told u is = ap (λ a. es ++ found_in a) (not_told order abbreviations u is) ∙ append-nil es

  -- ---- in the front of a unit

  pub grows : (front u : List ℕ) → Onward order abbreviations b es front
      → Onward order abbreviations (b ++ u) es (front ++ u)
  grows front u onward rest = behind front u onward rest ∙ ap (λ r. es ++ of r) (sym (append_assoc front u rest))

  pub ends_front : (front new : List ℕ) (l : UnitLength) → Onward order abbreviations b es front
      → told_length order abbreviations front ≡ Found l → length front ≤ l.size
      → StandsAt order abbreviations (state.Body (l.size - length front)) new b (es ++ here_in front)
  ends_front front new l onward is within rest =
      let all : take (length front) front ≡ front = take_all (length front) front (omega arith) in
      onward rest
      ∙ (ap (λ r. es ++ r)
      (ap (λ u. of (u ++ rest)) (sym all)
      ∙ unit_passed order abbreviations front l (length front) rest is (omega (arith, within)))
      ∙ sym (append_assoc es (here_in front) (of (drop (l.size - length front) rest))))

  pub ends_over : (front new : List ℕ) → Onward order abbreviations b es front
      → told_length order abbreviations front ≡ Unreadable
      → StandsAt order abbreviations state.Ended new b (es ++ here_in front)
  ends_over front new onward is rest =
      onward rest ∙ ap (λ r. es ++ r) (unit_ended order abbreviations front rest is)

-- ---- what is awaited

pub awaits_less : (order : Order) (front u : List ℕ) (awaited : ℕ) → Awaits order front awaited → length u < awaited
    → Awaits order (front ++ u) (awaited - length u)
awaits_less order front u awaited a less = record {
  some = omega (arith, less);
  fits = λ more l few is.
      let same = append_assoc front u more in
      rw same (a.fits (u ++ more) l (omega (arith, length-append u more, few, less)) (rw same at is));
}

same_found : (l k : UnitLength) → ◌≡◌ {A = Answer UnitLength} (Found l) (Found k) → l ≡ k
same_found l k e = cc

-- of a unit whose length is known
pub awaits_known : (order : Order) (front : List ℕ) (l : UnitLength) (awaited : ℕ) → unit_length order front ≡ Found l
    → 1 ≤ awaited → length front + awaited ≤ l.size → Awaits order front awaited
awaits_known order front l awaited is some within = record {
  some = some;
  fits = λ more k few longer.
      let stays = lengths_stay order front more (λ none. absurd (let e : ◌≡◌ {A = Answer UnitLength} (Found l) More = sym is ∙ none in cc)) in
      let same : l ≡ k = same_found l k (sym is ∙ (sym stays ∙ longer)) in
      subst (λ (x : UnitLength). length (front ++ more) ≤ x.size) same
      (omega (arith, length-append front more, few, within));
}

-- of one whose length isn't
pub awaits_one : (order : Order) (front : List ℕ) → ((l : UnitLength) → unit_length order front ≡ Found l → ⊥)
    → Awaits order front 1
awaits_one order front none = by (unit_length order front) refl where
  by : (u : Answer UnitLength) → unit_length order front ≡ u → Awaits order front 1
  by (Found l) is = absurd (none l is)
  by More is = record { some = omega arith; fits = λ more l few longer. one_more order front more l is few longer }
  by Unreadable is = record {
    some = omega arith;
    fits = λ more l few longer.
        let stays = lengths_stay order front more
        (λ more. absurd (let e : ◌≡◌ {A = Answer UnitLength} Unreadable More = sym is ∙ more in cc)) in
        absurd (let e : ◌≡◌ {A = Answer UnitLength} Unreadable (Found l) = sym is ∙ (sym stays ∙ longer) in cc);
  }

-- ---- reading a unit

-- what its first bytes u give
pub record Read (walk : Walk) (places : Places) (u : List ℕ) (answer : Answer UnitLength) : Type 0 where
  pub order : places.order ≡ walk.places.order
  pub length : answer ≡ told_length walk.places.order (section_of walk.abbreviations) u
  pub holds : (es : List EntryData) → Holds walk.places es
      → Holds places (es ++ found_in (first_entry walk.places.order (section_of walk.abbreviations) u))

-- the same of other names for these
pub read_of : (walk : Walk) (places : Places) (v u : List ℕ) (given answer : Answer UnitLength) → v ≡ u
    → given ≡ answer → places.order ≡ walk.places.order
    → given ≡ told_length walk.places.order (section_of walk.abbreviations) v
    → ((es : List EntryData) → Holds walk.places es
    → Holds places (es ++ found_in (first_entry walk.places.order (section_of walk.abbreviations) v)))
    → Read walk places u answer
read_of walk places v u given answer same is order length holds =
    let read : Read walk places v given = record { order = order; length = length; holds = holds } in
    subst (λ w. Read walk places w answer) same (subst (Read walk places v) is read)

-- and what that is after the first entries es
pub record Moved (order : Order) (abbreviations u : List ℕ) (es : List EntryData) (places : Places)
    (answer : Answer UnitLength) : Type 0 where
  pub order_is : places.order ≡ order
  pub told : told_length order abbreviations u ≡ answer
  pub holds : Holds places (es ++ found_in (first_entry order abbreviations u))

-- the unit that u begins has four bytes at least
pub some_size : (order : Order) (abbreviations u : List ℕ) (l : UnitLength)
    → told_length order abbreviations u ≡ Found l → 4 ≤ l.size
some_size order abbreviations u l is =
    let s = spelled order u l (told_found order abbreviations u (Found l) (λ more. absurd cc) is).length in
    omega (arith, s.four, s.within)

module _ (walk : Walk) (order : Order) (abbreviations b front : List ℕ) (g : GoesOn walk order abbreviations b front)
  where
    abbrev pub more_in : List ℕ → List EntryData
    more_in u = g.es ++ found_in (first_entry order abbreviations u)

    pub moved : (places : Places) (u : List ℕ) (answer : Answer UnitLength) → Read walk places u answer
        → Moved order abbreviations u g.es places answer
    moved places u answer r =
        let P : Order → List ℕ → Type 0 =
        λ o a. (told_length o a u ≡ answer) × Holds places (g.es ++ found_in (first_entry o a u)) in
        let at_first : P walk.places.order (section_of walk.abbreviations) = (sym r.length, r.holds g.es g.holds) in
        let now : P order abbreviations =
        subst (λ o. P o abbreviations) g.order_is (subst (P walk.places.order) g.abbreviations_are at_first) in
        record { order_is = r.order ∙ g.order_is; told = now.0; holds = now.1 }

    -- in another state after the bytes c
    module _ (new : Walk) (same : section_of new.abbreviations ≡ section_of walk.abbreviations) (u c : List ℕ)
        (answer : Answer UnitLength) (m : Moved order abbreviations u g.es new.places answer) where
      pub after_unit : StandsAt order abbreviations new.state new.front.items c (more_in u)
          → StandsFor new order abbreviations c
      after_unit stands = record {
        order_is = m.order_is;
        abbreviations_are = same ∙ g.abbreviations_are;
        es = more_in u;
        holds = m.holds;
        stands = stands;
      }

      -- where nothing is told yet
      pub after_more : (f : List ℕ) → answer ≡ More → Onward order abbreviations c g.es f
          → GoesOn new order abbreviations c f
      after_more f is onward = record {
        order_is = m.order_is;
        abbreviations_are = same ∙ g.abbreviations_are;
        es = g.es;
        holds = subst (Holds new.places) (nothing_told order abbreviations b g.es u (m.told ∙ is)) m.holds;
        onward = onward;
      }

-- the first bytes of a unit are kept
pub begun : (walk new : Walk) (order : Order) (abbreviations b : List ℕ) (awaited : ℕ) → new.places ≡ walk.places
    → section_of new.abbreviations ≡ section_of walk.abbreviations → new.state ≡ state.Begun awaited
    → Awaits order new.front.items awaited → GoesOn walk order abbreviations b new.front.items
    → StandsFor new order abbreviations b
begun walk new order abbreviations b awaited places same is awaits g = record {
  order_is = ap (λ (p : Places). p.order) places ∙ g.order_is;
  abbreviations_are = same ∙ g.abbreviations_are;
  es = g.es;
  holds = subst (λ (p : Places). Holds p g.es) (sym places) g.holds;
  stands = subst (λ (x : InfoStage). StandsAt order abbreviations x new.front.items b g.es) (sym is) (awaits, g.onward);
}

pub some_awaited : (walk : Walk) (order : Order) (abbreviations b : List ℕ) (awaited : ℕ)
    → walk.state ≡ state.Begun awaited → StandsFor walk order abbreviations b → 1 ≤ awaited
some_awaited walk order abbreviations b awaited was s =
    let begun = subst (λ (x : InfoStage). StandsAt order abbreviations x walk.front.items b s.es) was s.stands in
    begun.0.some

-- and a part u of a piece after them, but not all bytes that are awaited
pub grew : (walk new : Walk) (order : Order) (abbreviations b u : List ℕ) (awaited : ℕ) → new.places ≡ walk.places
    → section_of new.abbreviations ≡ section_of walk.abbreviations → new.state ≡ state.Begun (awaited - length u)
    → new.front.items ≡ walk.front.items ++ u → length u < awaited → walk.state ≡ state.Begun awaited
    → StandsFor walk order abbreviations b → StandsFor new order abbreviations (b ++ u)
grew walk new order abbreviations b u awaited places same is front less was s =
    let begun = subst (λ (x : InfoStage). StandsAt order abbreviations x walk.front.items b s.es) was s.stands in
    let at : StandsAt order abbreviations (state.Begun (awaited - length u)) (walk.front.items ++ u) (b ++ u) s.es = (
      awaits_less order walk.front.items u awaited begun.0 less,
      grows order abbreviations b s.es walk.front.items u begun.1,
    ) in
    record {
      order_is = ap (λ (p : Places). p.order) places ∙ s.order_is;
      abbreviations_are = same ∙ s.abbreviations_are;
      es = s.es;
      holds = subst (λ (p : Places). Holds p s.es) (sym places) s.holds;
      stands = subst (λ (x : InfoStage). StandsAt order abbreviations x new.front.items (b ++ u) s.es) (sym is)
          (subst
          (λ (f : List ℕ). StandsAt order abbreviations (state.Begun (awaited - length u)) f (b ++ u) s.es)
          (sym front)
          at);
    }

-- or all of them
pub grew_out : (walk new : Walk) (order : Order) (abbreviations b u : List ℕ) (awaited : ℕ) → new.places ≡ walk.places
    → section_of new.abbreviations ≡ section_of walk.abbreviations → new.front.items ≡ walk.front.items ++ u → length u ≤ awaited
    → walk.state ≡ state.Begun awaited → StandsFor walk order abbreviations b
    → GoesOn new order abbreviations (b ++ u) new.front.items
    × ((l : UnitLength) → unit_length order new.front.items ≡ Found l → length new.front.items ≤ l.size)
grew_out walk new order abbreviations b u awaited places same front within was s =
    let begun = subst (λ (x : InfoStage). StandsAt order abbreviations x walk.front.items b s.es) was s.stands in (
      record {
        order_is = ap (λ (p : Places). p.order) places ∙ s.order_is;
        abbreviations_are = same ∙ s.abbreviations_are;
        es = s.es;
        holds = subst (λ (p : Places). Holds p s.es) (sym places) s.holds;
        onward = subst (Onward order abbreviations (b ++ u) s.es) (sym front)
            (grows order abbreviations b s.es walk.front.items u begun.1);
      },
      λ l is. rw front (begun.0.fits u l within (rw front at is)),
    )

-- a part of a piece that is taken after another one
pub further : (b piece : List ℕ) (at used : ℕ) → at ≤ length piece
    → used ≤ length (take (length piece - at) (drop at piece))
    → (b ++ take at piece) ++ take used (take (length piece - at) (drop at piece)) ≡ b ++ take (at + used) piece
further b piece at used le within =
    let rest : take (length piece - at) (drop at piece) ≡ drop at piece = take_rest piece at in
    append_assoc b (take at piece) (take used (take (length piece - at) (drop at piece)))
    ∙ ap (λ z. b ++ z) (ap (λ z. take at piece ++ take used z) rest ∙ sym (take-add at used piece))

pub further_within : (piece : List ℕ) (at used : ℕ) → at ≤ length piece
    → used ≤ length (take (length piece - at) (drop at piece)) → at + used ≤ length piece
further_within piece at used le within =
    omega (arith, ap length (take_rest piece at), length-drop at piece, le, within)

-- ---- the end

pub all_told : (order : Order) (abbreviations b front : List ℕ) (es : List EntryData) (awaited : ℕ)
    → Awaits order front awaited → Onward order abbreviations b es front
    → entries order abbreviations b ≡ es ++ found_in (first_entry order abbreviations front)
all_told order abbreviations b front es awaited awaits onward =
    ap of (sym (append-nil b))
    ∙ (onward [] ∙ ap (λ r. es ++ r) (ap of (append-nil front) ∙ (entries_here order abbreviations front ∙ last))) where
      of : List ℕ → List EntryData
      of = entries order abbreviations

      by : (u : Answer UnitLength) → unit_length order front ≡ u → after (λ l. of (drop l.size front)) u ≡ []
      by (Found l) is =
          let fits = awaits.fits [] l (omega arith) (rw (append-nil front) is) in
          ap of (drop_all l.size front (omega (arith, fits, ap length (append-nil front))))
          ∙ no_entries order abbreviations
      by More is = refl
      by Unreadable is = refl

      last : found_in (first_entry order abbreviations front)
          ++ after (λ l. of (drop l.size front)) (unit_length order front)
          ≡ found_in (first_entry order abbreviations front)
      last =
          ap (λ r. found_in (first_entry order abbreviations front) ++ r) (by (unit_length order front) refl)
          ∙ append-nil (found_in (first_entry order abbreviations front))

-- in a state in which nothing is kept
pub all_passed : (order : Order) (abbreviations front b : List ℕ) (es : List EntryData) (s : InfoStage)
    → ((awaited : ℕ) → s ≡ state.Begun awaited → ⊥) → StandsAt order abbreviations s front b es
    → entries order abbreviations b ≡ es
all_passed order abbreviations front b es (state.Begun awaited) other stands = absurd (other awaited refl)
all_passed order abbreviations front b es (state.Body left) other stands =
    ap (entries order abbreviations) (sym (append-nil b))
    ∙ (stands []
    ∙ (ap (λ r. es ++ r)
    (ap (entries order abbreviations) (drop_all left [] (omega arith)) ∙ no_entries order abbreviations)
    ∙ append-nil es))
all_passed order abbreviations front b es state.Ended other stands =
    ap (entries order abbreviations) (sym (append-nil b)) ∙ stands []
