-- The look-up of many addresses in units, one after the other.
use Rattle.std.proofs.Common.{◌≡◌, ◌<◌, ◌≤◌, ⊎_elim, ℕ, zero, suc, ◌+◌, List, [], ◌∷◌, ◌++◌, length, map, Option}
use Rattle.std.proofs.Common.{inl, inr, Some, None, arith, refl, sym, ap, ◌∙◌, subst, slice_get}
use Rattle.std.proofs.Common.{slice_index_or, Bool, true, false, eqb}
use Rattle.std.specs.Prelude.{if◌then◌else◌, ◌==◌}
use Rattle.std.specs.Prelude.{⊤, ◌-◌, ◌^◌, option_map, Result, Ok, Err}
use Rattle.std.specs.Option.{option_map_or, option_or}
use Rattle.std.proofs.lemmas.Bool.{cases_lt, eqb-false, eqb-true}
use Rattle.std.proofs.lemmas.Option.{slice_get-map, slice_get_within}
use Rattle.dl_head.specs.declared.dialect.Dialect.{Dialect}
use Rattle.dl_rows.specs.LineUnit.{unit_rows}
use Rattle.dl_rows.specs.declared.row.Row.{Row}
use Rattle.dl_look.specs.Answer.{answer}
use Rattle.dl_look.specs.FindersRows.{Stand}
use Rattle.dl_look.specs.declared.ledger.Answered.{Answered}
use Rattle.dl_look.specs.declared.place.Place.{Place}
use Rattle.dl_look.specs.Ledgers.{no_answer}
use Rattle.dl_look.specs.Units.{AreFirstAnswers, answer_of_units}
use Rattle.dl_buffers.specs.declared.finding.FoundRow.{FoundRow}
use Rattle.dl_buffers.specs.declared.record.RowRecord.{RowRecord}
use Rattle.dl_sections.specs.declared.around.DamagedUnits.{DamagedUnits}
use Rattle.dl_sections.specs.declared.around.Survey.{Survey}
use Rattle.dl_sections.specs.declared.in_memory.SectionRead.{SectionRead}
use Rattle.dl_sections.specs.declared.in_memory.SectionStop.{SectionStop}
use Rattle.dl_sections.specs.declared.in_memory.SectionStop.TheVariants as stop
use Rattle.dl_sections.specs.Section.{HasUnits}
use Rattle.dl_sections.specs.Around.{Block, whole, damaged, begun}
use Rattle.dl_sections.specs.AroundInMemory.{blocks_told, ReadsAround}
use Rattle.dl_sections.specs.InMemory.{ReadsSection, UnitTold, unit_told, units_told}
use Rattle.dl_buffers.specs.declared.gathering.Gatherer.{Gatherer}
use Rattle.dl_buffers.specs.AllCalls.{Answers, EndsWith, FindsAll, Fit, found_from, found_in, place_of_address, placed}
use Rattle.dl_buffers.specs.AroundCalls.{FindsAllAround, found_after, found_around, IsReadWith, IsRefusedWith}
use Rattle.dl_buffers.specs.Gatherers.{Gathers, Placed, found_told, gatherer_story, row_after, told_upto, unit_after}
use Rattle.dl_buffers.specs.declared.record.FaultRecord.{FaultRecord}
use Rattle.dl_buffers.specs.Records.{record_of, row_record}
use Rattle.dl_buffers.specs.Stops.{damage_told, fault_told, status_around, status_of}
use Rattle.dl_buffers.proofs.ToldUnits.{offset_of_fault}

-- ---- what stands at a place

pub placed_none : {A : Type 0} (old : Option A) → placed None old ≡ old
placed_none None = refl
placed_none (Some a) = refl

placed_twice : {A : Type 0} (told : A) (before old : Option A)
    → placed (Some told) (placed before old) ≡ placed (Some told) old
placed_twice told before None = refl
placed_twice told before (Some a) = refl

-- ---- what units answer

or_none : {A : Type 0} (o : Option A) → option_or o None ≡ o
or_none None = refl
or_none (Some a) = refl

or_assoc : {A : Type 0} (a b c : Option A) → option_or (option_or a b) c ≡ option_or a (option_or b c)
or_assoc None b c = refl
or_assoc (Some a) b c = refl

-- of one unit
abbrev at : UnitTold → Place → Option FoundRow
at t x = option_map (λ (r : Row). record { row = r; unit = t.unit.offset }) (answer t.rows x)

found_push : (units : List UnitTold) (t : UnitTold) (x : Place)
    → found_told (units ++ t ∷ []) x ≡ option_or (found_told units x) (at t x)
found_push [] t x = or_none (at t x)
found_push (u ∷ units) t x =
    ap (option_or (at u x)) (found_push units t x) ∙ sym (or_assoc (at u x) (found_told units x) (at t x))

found_row : (units : List UnitTold) (x : Place)
    → answer_of_units (map (λ t. t.rows) units) x ≡ option_map (λ (f : FoundRow). f.row) (found_told units x)
found_row [] x = refl
found_row (u ∷ units) x = by (answer u.rows x) (found_row units x) where
  by : (o : Option Row)
      → answer_of_units (map (λ t. t.rows) units) x ≡ option_map (λ (f : FoundRow). f.row) (found_told units x)
      → option_or o (answer_of_units (map (λ t. t.rows) units) x)
      ≡ option_map (λ (f : FoundRow). f.row)
      (option_or (option_map (λ (r : Row). record { row = r; unit = u.unit.offset }) o) (found_told units x))
  by None so = so
  by (Some r) so = refl

-- what the units of a section answer is what is told of them
pub found_of_units : (dialect : Dialect) (offset : ℕ) (units : List (List ℕ)) (x : Place)
    → found_from dialect offset units x ≡ found_told (units_told dialect offset units) x
found_of_units dialect offset [] x = refl
found_of_units dialect offset (u ∷ units) x =
    ap (option_or (at (unit_told dialect offset u) x)) (found_of_units dialect (offset + length u) units x)

-- and so is what blocks answer
found_of_blocks : (dialect : Dialect) (offset : ℕ) (blocks : List Block) (x : Place)
    → found_after dialect offset blocks x ≡ found_told (blocks_told dialect offset blocks) x
found_of_blocks dialect offset [] x = refl
found_of_blocks dialect offset (whole u ∷ blocks) x =
    ap (option_or (at (unit_told dialect offset u) x)) (found_of_blocks dialect (offset + length u) blocks x)
found_of_blocks dialect offset (damaged front back place kind ∷ blocks) x =
    found_of_blocks dialect (offset + length (front ++ back)) blocks x

-- ---- the answers of a unit

abbrev pub nth : List Answered → ℕ → Answered
nth answered k = slice_index_or answered k no_answer

-- one that is told is among them
abbrev Told : List Answered → (k i : ℕ) → Row → Type 0
Told answered k i r =
    (j : ℕ) × (j < k) × ((nth answered j).number ≡ i)
    × ((nth answered j).row ≡ r)

told_is : (answered : List Answered) (k i : ℕ) (r : Row) → told_upto answered k i ≡ Some r → Told answered k i r
told_is answered zero i r is = absurd (no_row is) where
  no_row : None ≡ Some r → ⊥
  no_row e = cc
told_is answered (suc k) i r is = by (eqb (nth answered k).number i) refl is (told_is answered k i r) where
  by : (same : Bool) → eqb (nth answered k).number i ≡ same
      → (if same then Some (nth answered k).row else told_upto answered k i) ≡ Some r
      → (told_upto answered k i ≡ Some r → Told answered k i r) → Told answered (suc k) i r
  by true same told so = (k, omega arith, eqb-true (nth answered k).number i same, same_row told) where
    same_row : {p q : Row} → Some p ≡ Some q → p ≡ q
    same_row e = cc
  by false same told so =
      let before = so told in
      (before.0, omega (arith, before.1), before.2, before.3)

-- each of them is told
none_told : (answered : List Answered) (k i : ℕ) → told_upto answered k i ≡ None → (j : ℕ) → j < k
    → (nth answered j).number ≡ i → ⊥
none_told answered zero i none j lt is = absurd (omega (arith, lt))
none_told answered (suc k) i none j lt is =
    by (eqb (nth answered k).number i) refl none (λ told before. none_told answered k i told j before is) where
      none_some : (r : Row) → Some r ≡ None → ⊥
      none_some r e = cc

      by : (same : Bool) → eqb (nth answered k).number i ≡ same
          → (if same then Some (nth answered k).row else told_upto answered k i) ≡ None
          → (told_upto answered k i ≡ None → j < k → ⊥) → ⊥
      by true same told so = none_some (nth answered k).row told
      by false same told so = ⊎_elim
          (λ (before : j < k). so told before)
          (λ (from : k ≤ j). let e : k ≡ j = omega (arith, lt, from) in
          eqb-false (nth answered k).number i same (subst (λ (n : ℕ). (nth answered n).number ≡ i) (sym e) is))
          (cases_lt j k)

-- ---- what is told after one more unit

module _ (addresses : List ℕ) (units : List UnitTold) (t : UnitTold) (answered : List Answered)
    (first : AreFirstAnswers (map place_of_address addresses) (map (λ t. t.rows) units) t.rows answered)
    (i a : ℕ) (asked : slice_get addresses i ≡ Some a) where
  abbrev places : List Place
  places = map place_of_address addresses

  abbrev x : Place
  x = place_of_address a

  abbrev before : Option FoundRow
  before = found_told units x

  abbrev told : Option Row
  told = told_upto answered (length answered) i

  place_is : slice_get places i ≡ Some x
  place_is = slice_get-map place_of_address addresses i ∙ ap (option_map place_of_address) asked

  -- where one is told, no unit before answers, and this one does
  is_first : (r : Row) → told ≡ Some r → (before ≡ None) × (answer t.rows x ≡ Some r)
  is_first r is =
      let k = told_is answered (length answered) i r is in
      let right = first.right k.0 no_answer k.1 in
      let same : right.0 ≡ x = some_same (sym right.1
      ∙ ap (slice_get places) k.2 ∙ place_is) in (
        none_row before (sym (found_row units x) ∙ ap (answer_of_units (map (λ t. t.rows) units)) (sym same)
            ∙ right.2),
        ap (answer t.rows) (sym same) ∙ right.3 ∙ ap Some k.3,
      ) where
        some_same : {p q : Place} → Some p ≡ Some q → p ≡ q
        some_same e = cc

        none_row : (o : Option FoundRow) → option_map (λ (f : FoundRow). f.row) o ≡ None → o ≡ None
        none_row None e = refl
        none_row (Some f) e = cc

  -- where none is told, a unit before answers, or this one doesn't
  no_first : told ≡ None → before ≡ None → answer t.rows x ≡ None
  no_first none unanswered = by (answer t.rows x) refl where
    by : (o : Option Row) → answer t.rows x ≡ o → o ≡ None
    by None is = refl
    by (Some r) is =
        let k = first.all i r (
          x,
          place_is,
          found_row units x ∙ ap (option_map (λ (f : FoundRow). f.row)) unanswered,
          is,
        ) in
        absurd (none_told answered (length answered) i none k.0 k.1 (ap (λ (d : Answered). d.number) (k.2 no_answer)))

  -- what was told, and then is told of this unit
  more : {A : Type 0} (of_found : FoundRow → A) (of_row : Row → A)
      → ((r : Row) → of_row r ≡ of_found (record { row = r; unit = t.unit.offset })) → (o : Option A)
      → placed (option_map of_row told) (placed (option_map of_found before) o)
      ≡ placed (option_map of_found (found_told (units ++ t ∷ []) x)) o
  more {A} of_found of_row same o = by told refl where
    stays : told ≡ None → option_or before (at t x) ≡ before
    stays none = same_before before refl where
      same_before : (f : Option FoundRow) → before ≡ f → option_or f (at t x) ≡ f
      same_before (Some f) is = refl
      same_before None is =
          ap (option_map (λ (r : Row). record { row = r; unit = t.unit.offset })) (no_first none is)

    by : (r : Option Row) → told ≡ r → placed (option_map of_row r) (placed (option_map of_found before) o)
        ≡ placed (option_map of_found (found_told (units ++ t ∷ []) x)) o
    by (Some r) is =
        let e = is_first r is in
        placed_twice (of_row r) (option_map of_found before) o ∙ ap (λ (v : A). placed (Some v) o) (same r)
        ∙ sym (ap (λ (f : Option FoundRow). placed (option_map of_found f) o) (found_push units t x
        ∙ ap (λ (f : Option FoundRow). option_or f (at t x)) e.0
        ∙ ap (option_map (λ (r : Row). record { row = r; unit = t.unit.offset })) e.1))
    by None is =
        placed_none (placed (option_map of_found before) o)
        ∙ sym (ap (λ (f : Option FoundRow). placed (option_map of_found f) o) (found_push units t x ∙ stays is))

-- the rows and the offsets of all addresses
pub placed_more : (addresses : List ℕ) (units : List UnitTold) (t : UnitTold) (answered : List Answered)
    → AreFirstAnswers (map place_of_address addresses) (map (λ t. t.rows) units) t.rows answered
    → (p q q2 : List RowRecord) (m n n2 : List ℕ) → Placed units addresses p q m n
    → ((i : ℕ) → slice_get q2 i ≡ row_after answered (length answered) q i)
    → ((i : ℕ) → slice_get n2 i ≡ unit_after answered t.unit.offset (length answered) n i)
    → Placed (units ++ t ∷ []) addresses p q2 m n2
placed_more addresses units t answered first p q q2 m n n2 so rows offsets = record {
  rows = λ i a asked.
      rows i ∙ ap (placed (option_map row_record (told_upto answered (length answered) i))) (so.rows i a asked)
      ∙ more addresses units t answered first i a asked (λ (f : FoundRow). row_record f.row) row_record (λ r. refl)
      (slice_get p i);
  offsets = λ i a asked.
      offsets i ∙ ap (placed (option_map (λ (r : Row). t.unit.offset) (told_upto answered (length answered) i)))
      (so.offsets i a asked)
      ∙ more addresses units t answered first i a asked (λ (f : FoundRow). f.unit) (λ (r : Row). t.unit.offset) (λ r. refl)
      (slice_get m i);
}

-- before any unit
pub none_placed : (addresses : List ℕ) (p : List RowRecord) (m : List ℕ) → Placed [] addresses p p m m
none_placed addresses p m = record {
  rows = λ i a asked. sym (placed_none (slice_get p i));
  offsets = λ i a asked. sym (placed_none (slice_get m i));
}

-- ---- one answer more

module _ {A : Type 0} (v : Row → A) (answered : List Answered) (k : ℕ) (old q q2 : List A)
    (so : (i : ℕ) → slice_get q i ≡ placed (option_map v (told_upto answered k i)) (slice_get old i)) where
  pub told_more : ((i : ℕ) → slice_get q2 i
      ≡ placed (if (nth answered k).number == i then Some (v (nth answered k).row) else None) (slice_get q i))
      → (i : ℕ) → slice_get q2 i ≡ placed (option_map v (told_upto answered (suc k) i)) (slice_get old i)
  told_more puts i =
      puts i ∙ ap (placed (if (nth answered k).number == i then Some (v (nth answered k).row) else None)) (so i)
      ∙ by ((nth answered k).number == i) where
        by : (same : Bool) → placed (if same then Some (v (nth answered k).row) else None)
            (placed (option_map v (told_upto answered k i)) (slice_get old i))
            ≡ placed (option_map v (if same then Some (nth answered k).row else told_upto answered k i))
            (slice_get old i)
        by true = placed_twice (v (nth answered k).row) (option_map v (told_upto answered k i)) (slice_get old i)
        by false = placed_none (placed (option_map v (told_upto answered k i)) (slice_get old i))

-- ---- how the reading ends

unit_told_is : (o : Option FoundRow) → placed (option_map (λ (f : FoundRow). f.unit) o) (Some (2 ^ 64 - 1))
    ≡ Some (option_map_or (λ (f : FoundRow). f.unit) o (2 ^ 64 - 1))
unit_told_is None = refl
unit_told_is (Some f) = refl

-- q, n: what the rows and offsets are where the sink is given back
module _ (dialect : Dialect) (s addresses : List ℕ) (first now : Gatherer) (q : List RowRecord) (n : List ℕ)
    (q_is : first.rows.ghost_name ≡ now.rows.ghost_name → q ≡ now.rows.now)
    (n_is : first.units.ghost_name ≡ now.units.ghost_name → n ≡ now.units.now)
    (stands : Stand first.finders.now (map place_of_address addresses) [] [])
    (none : (i : ℕ) → i < length addresses → slice_get first.units.now i ≡ Some (2 ^ 64 - 1)) where
  -- where the offsets stand for no unit before
  answers_of : (told_units : List UnitTold) (rows : List Row) → Gathers first now told_units rows
      → (found : ℕ → Option FoundRow) → ((a : ℕ) → found a ≡ found_told told_units (place_of_address a))
      → Answers found addresses first.rows.now q n
  answers_of told_units rows so found found_is =
      let told = so.told addresses stands in
      rw (q_is (sym so.same_rows), n_is (sym so.same_units)) (record {
        rows = λ i a asked.
            told.rows i a asked
            ∙ ap (λ (o : Option FoundRow). placed (option_map (λ (f : FoundRow). row_record f.row) o)
            (slice_get first.rows.now i)) (sym (found_is a));
        units_are = λ i a asked.
            let answer_told = found_told told_units (place_of_address a) in
            told.offsets i a asked
            ∙ ap (placed (option_map (λ (f : FoundRow). f.unit) answer_told)) (none i (slice_get_within addresses i a asked))
            ∙ unit_told_is answer_told
            ∙ ap (λ (o : Option FoundRow). Some (option_map_or (λ (f : FoundRow). f.unit) o (2 ^ 64 - 1)))
            (sym (found_is a));
      })

  by_units : (units : List (List ℕ)) (rows : List Row) → Gathers first now (units_told dialect 0 units) rows
      → Answers (found_in dialect units) addresses first.rows.now q n
  by_units units rows so =
      answers_of (units_told dialect 0 units) rows so (found_in dialect units)
      (λ a. found_of_units dialect 0 units (place_of_address a))

  by_blocks : (blocks : List Block) (rows : List Row) → Gathers first now (blocks_told dialect 0 blocks) rows
      → Answers (found_around dialect blocks) addresses first.rows.now q n
  by_blocks blocks rows so =
      answers_of (blocks_told dialect 0 blocks) rows so (found_around dialect blocks)
      (λ a. found_of_blocks dialect 0 blocks (place_of_address a))

  abbrev Ends : Result ⊤ SectionStop → Type 0
  Ends end = EndsWith dialect s (λ units. Answers (found_in dialect units) addresses first.rows.now q n) end

  pub ends_well : (read : SectionRead) → ReadsSection gatherer_story dialect s first now (Ok read) → Ends (Ok tt)
  ends_well read (units, back, has, is, inl (end, so)) =
      (units, subst (HasUnits dialect s units) end has, by_units units [] so)
  ends_well read (units, back, has, is, inr done) = absurd done

  pub ends_so : (f : SectionStop) → ReadsSection gatherer_story dialect s first now (Err f) → Ends (Err f)
  ends_so (stop.Damaged offset kind) (units, b, back, ends, so) =
      (units, b, back, ends, by_units units (unit_rows dialect b) so)
  ends_so stop.NoMemory (units, b, back, ends, so) = (units, b, back, ends, by_units units (unit_rows dialect b) so)

  -- around damaged units
  abbrev AnswersAround : List Block → Type 0
  AnswersAround blocks = Answers (found_around dialect blocks) addresses first.rows.now q n

  pub ends_around : (survey : Survey) → ReadsAround {E = ⊤} gatherer_story dialect s first now (Ok survey)
      → IsReadWith dialect s AnswersAround survey.damaged
  ends_around survey (inl (blocks, rest, ends, so)) = (blocks, rest, survey, ends, refl, by_blocks blocks [] so)
  ends_around survey (inr (blocks, others, cut, is, done)) = absurd done

  pub refused_around : ReadsAround {E = ⊤} gatherer_story dialect s first now (Err tt)
      → IsRefusedWith dialect s AnswersAround
  refused_around (blocks, b, ends, so) = (blocks, begun b, ends, by_blocks blocks (unit_rows dialect b) so)

-- nothing is told yet
pub begins : (first : Gatherer) → Gathers first first [] []
begins first = record {
  same_rows = refl;
  same_units = refl;
  stand = λ addresses stands. stands;
  told = λ addresses stands. none_placed addresses first.rows.now first.units.now;
}

-- what is told of a stop
pub finds_all_stopped : (refuses : ℕ → Type 0) (dialect : Dialect) (s addresses : List ℕ) (p q : List RowRecord) (m n : List ℕ)
    (f : FaultRecord) → length s < 2 ^ 64 → Fit addresses p m → (stop : SectionStop)
    → EndsWith dialect s (λ units. Answers (found_in dialect units) addresses p q n) (Err stop)
    → FindsAll refuses dialect s addresses p q m n f (fault_told stop 0 f) (status_of stop)
finds_all_stopped refuses dialect s addresses p q m n f few fit (stop.Damaged at kind) ends = (
  at,
  kind,
  fit,
  ends,
  ap (λ (n : ℕ). record_of n kind) (offset_of_fault dialect s ends.0 ends.1 ends.2 at kind ends.3 few),
)
finds_all_stopped refuses dialect s addresses p q m n f few fit stop.NoMemory ends = (fit, inr ends, refl)

-- what is told of damaged units
pub finds_all_around : (refuses : ℕ → Type 0) (dialect : Dialect) (s addresses : List ℕ) (p q : List RowRecord) (m n : List ℕ)
    (f : FaultRecord) → Fit addresses p m → (units : Option DamagedUnits)
    → IsReadWith dialect s (λ blocks. Answers (found_around dialect blocks) addresses p q n) units
    → FindsAllAround refuses dialect s addresses p q m n f (damage_told units f) (status_around units)
finds_all_around refuses dialect s addresses p q m n f fit None read = (fit, read, refl)
finds_all_around refuses dialect s addresses p q m n f fit (Some units) read = (units, fit, read, refl)
