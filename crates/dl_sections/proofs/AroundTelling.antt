-- What visits tell of the units of a section around those that are damaged, and what is read of a section in memory so.
use Rattle.std.proofs.Common.{◌≡◌, ◌⊎◌, inl, inr, ℕ, ◌+◌, List, [], ◌∷◌, ◌++◌, length, take, Some, None, Result, Ok, Err}
use Rattle.std.proofs.Common.{arith, refl, sym, ap, ◌∙◌, append_assoc, append-nil, subst}
use Rattle.std.proofs.KnownBytes.{Appends-nil}
use Rattle.std.proofs.lemmas.List.{take_all}
use Rattle.std.specs.List.{AllByRecursion}
use Rattle.dl_head.specs.Header.{foreign_in}
use Rattle.dl_head.specs.declared.dialect.Dialect.{Dialect}
use Rattle.dl_table.specs.declared.fault.FaultKind.{FaultKind}
use Rattle.dl_table.specs.declared.fault.FaultKind.TheVariants.{Truncated}
use Rattle.dl_rows.specs.declared.row.Row.{Row}
use Rattle.dl_rows.specs.declared.sink.Flow.{Flow}
use Rattle.dl_rows.specs.declared.sink.Flow.TheVariants as flow
use Rattle.dl_rows.specs.LineUnit.{unit_rows}
use Rattle.dl_sections.specs.declared.around.Survey.{Survey}
use Rattle.dl_sections.specs.declared.around.UnitsAround.{UnitsAround}
use Rattle.dl_sections.specs.declared.fault.RunFault.{RunFault}
use Rattle.dl_sections.specs.declared.fault.RunFault.TheVariants as fault
use Rattle.dl_sections.specs.declared.in_memory.Telling.{Telling}
use Rattle.dl_sections.specs.Around.{Block, whole, damaged, IsBlock, Rest, begun, cut_off, broken, blocks_visits, rest_visits}
use Rattle.dl_sections.specs.Around.{bytes_of, visits_around, IsCutTo, IsLast, IsSoundSoFar, RanAround}
use Rattle.dl_sections.specs.AroundInMemory.{blocks_told, ReadsAround}
use Rattle.dl_sections.specs.GoingOn.{AroundFed, AroundIs, BeginsAround, HasNoLength, WantsCell, surveyed}
use Rattle.dl_sections.specs.InMemory.{UnitStory, UnitTold, unit_told}
use Rattle.dl_sections.specs.Section.{of_damage, unit_visits, visits}
use Rattle.dl_sections.specs.Telling.{Heard, PassesOnAround, Tells, heard_after, nothing_heard, telling_story}
use Rattle.dl_sections.specs.Visiting.{Settled, VisitorStops}
use Rattle.dl_sections.proofs.AroundPieces as pieces
use Rattle.dl_sections.proofs.AroundPieces.{no_cell_other}
use Rattle.dl_sections.proofs.TellingLemmas.{front_heard, heard_after-append, unit_heard}

module _ (dialect : Dialect) where
  -- a unit that is damaged leaves the units as they were, and no rows
  damage_heard : (heard : Heard) (offset : ℕ) (b : List ℕ) (at : ℕ) (kind : FaultKind)
      → ((heard_after heard (visits dialect offset b ++ of_damage offset at kind ∷ [])).units ≡ heard.units)
      × ((heard_after heard (visits dialect offset b ++ of_damage offset at kind ∷ [])).rows ≡ [])
  damage_heard heard offset b at kind =
      let is = heard_after-append heard (visits dialect offset b) (of_damage offset at kind ∷ []) in (
        ap (λ (h : Heard). h.units) is ∙ (front_heard dialect offset heard b).0,
        ap (λ (h : Heard). h.rows) is,
      )

  blocks_heard : (heard : Heard) (offset : ℕ) (blocks : List Block) → heard.rows ≡ []
      → AllByRecursion (IsBlock dialect) blocks
      → ((heard_after heard (blocks_visits dialect offset blocks)).units ≡ heard.units ++ blocks_told dialect offset blocks)
      × ((heard_after heard (blocks_visits dialect offset blocks)).rows ≡ [])
  blocks_heard heard offset [] none all = (sym (append-nil heard.units), none)
  blocks_heard heard offset (whole u ∷ blocks) none all =
      let others = blocks_visits dialect (offset + length u) blocks in
      let own = heard_after-append heard (unit_visits dialect offset u) others
      ∙ ap (λ (h : Heard). heard_after h others) (unit_heard dialect offset heard u none all.0) in
      let rest = blocks_heard (record {
        offset = offset;
        version = foreign_in dialect u;
        units = heard.units ++ unit_told dialect offset u ∷ [];
        rows = [];
      }) (offset + length u) blocks refl all.1 in (
        ap (λ (h : Heard). h.units) own ∙ rest.0
            ∙ append_assoc heard.units (unit_told dialect offset u ∷ []) (blocks_told dialect (offset + length u) blocks),
        ap (λ (h : Heard). h.rows) own ∙ rest.1,
      )
  blocks_heard heard offset (damaged front back at kind ∷ blocks) none all =
      let n = offset + length (front ++ back) in
      let own = visits dialect offset front ++ of_damage offset (offset + at) kind ∷ [] in
      let is = heard_after-append heard own (blocks_visits dialect n blocks) in
      let left = damage_heard heard offset front (offset + at) kind in
      let rest = blocks_heard (heard_after heard own) n blocks left.1 all.1 in (
        ap (λ (h : Heard). h.units) is ∙ rest.0
            ∙ ap (λ (l : List UnitTold). l ++ blocks_told dialect n blocks) left.0,
        ap (λ (h : Heard). h.rows) is ∙ rest.1,
      )

  -- of the unit that is begun
  abbrev rest_rows : Rest → List Row
  rest_rows (begun b) = unit_rows dialect b
  rest_rows (cut_off b) = []
  rest_rows (broken front back at kind) = []

  rest_heard : (heard : Heard) (offset : ℕ) (rest : Rest) → heard.rows ≡ []
      → ((heard_after heard (rest_visits dialect offset rest)).units ≡ heard.units)
      × ((heard_after heard (rest_visits dialect offset rest)).rows ≡ rest_rows rest)
  rest_heard heard offset (begun b) none =
      let front = front_heard dialect offset heard b in
      (front.0, front.1 ∙ ap (λ (l : List Row). l ++ unit_rows dialect b) none)
  rest_heard heard offset (cut_off b) none = damage_heard heard offset b (offset + length b) Truncated
  rest_heard heard offset (broken front back at kind) none = damage_heard heard offset front (offset + at) kind

  -- of blocks, and of what follows them
  around_heard : (heard : Heard) (blocks : List Block) (rest : Rest) → heard.units ≡ [] → heard.rows ≡ []
      → AllByRecursion (IsBlock dialect) blocks
      → ((heard_after heard (visits_around dialect blocks rest)).units ≡ blocks_told dialect 0 blocks)
      × ((heard_after heard (visits_around dialect blocks rest)).rows ≡ rest_rows rest)
  around_heard heard blocks rest no_units no_rows all =
      let n = length (bytes_of blocks) in
      let before = blocks_heard heard 0 blocks no_rows all in
      let last = rest_heard (heard_after heard (blocks_visits dialect 0 blocks)) n rest before.1 in
      let is = heard_after-append heard (blocks_visits dialect 0 blocks) (rest_visits dialect n rest) in (
        ap (λ (h : Heard). h.units) is ∙ last.0 ∙ before.0
            ∙ ap (λ (l : List UnitTold). l ++ blocks_told dialect 0 blocks) no_units,
        ap (λ (h : Heard). h.rows) is ∙ last.1,
      )

-- ---- a section

-- before anything is read
pub begins : {U : Type 0} (story : UnitStory U) (dialect : Dialect) (first : Telling U) (a : UnitsAround)
    → BeginsAround dialect a → story.hears first.sink.now first.sink.now [] []
    → AroundIs (telling_story story) dialect [] first first None None a
begins story dialect first a is hears =
    pieces.begins (telling_story story) dialect first None a is (record {
      passed = record { sink = refl; offset = refl; version = refl; nothing = Appends-nil None };
      hears = hears;
    }) (Appends-nil None)

module _ {U : Type 0} (story : UnitStory U) (dialect : Dialect) (s : List ℕ) (first now : Telling U) where
  abbrev Reads : {E : Type 0} → Result Survey E → Type 0
  Reads result = PassesOnAround story dialect s first now result

  all_taken : take (length s) s ≡ s
  all_taken = take_all (length s) s (omega arith)

  told : (blocks : List Block) (rest : Rest) → AllByRecursion (IsBlock dialect) blocks
      → Tells story first now None None (visits_around dialect blocks rest)
      → story.hears first.sink.now now.sink.now (blocks_told dialect 0 blocks) (rest_rows dialect rest)
  told blocks rest all t =
      let is = around_heard dialect (nothing_heard first) blocks rest refl refl all in rw (sym is.0, sym is.1) t.hears

  -- the bytes are over, so that no unit is begun
  no_rows : (rest : Rest) → IsLast dialect (length s) s (Some []) rest → rest_rows dialect rest ≡ []
  no_rows (begun b) (empty, over) = ap (unit_rows dialect) empty
  no_rows (cut_off b) last = refl
  no_rows (broken front back at kind) last = refl

  -- what the bytes came to, by the answer that is known
  pub by_flow : (a : UnitsAround) {n m : Flow} → n ≡ m
      → AroundFed (telling_story story) dialect s first now None None a (Ok n)
      → AroundFed (telling_story story) dialect s first now None None a (Ok m)
  by_flow a is w = subst (λ (f : Flow). AroundFed (telling_story story) dialect s first now None None a (Ok f)) is w

  abbrev pub Ran : Survey → Type 0
  Ran survey = RanAround (telling_story story) dialect (length s) s (Some []) first now None None (Ok survey)

  -- the bytes are over, or the sink wants no more
  pub ends : {E : Type 0} {survey : Survey} → Ran survey → Reads {E = E} (Ok survey)
  ends (inl (blocks, rest, (cut, last, survey), settled)) = record {
    sink = settled.tells.passed.sink;
    reads = inl (
      blocks,
      rest,
      (cut, last, survey),
      rw (no_rows rest last) at (told blocks rest cut.each settled.tells),
    );
  }
  ends (inr (blocks, others, cut, survey, settled)) =
      let is = around_heard dialect (nothing_heard first) blocks (begun []) refl refl cut.each in record {
        sink = settled.tells.passed.sink;
        reads = inr (blocks, others, rw all_taken at cut, survey, rw (sym is.0) settled.tells.done);
      }

  module _ (a : UnitsAround) where
    last_is : (rest : Rest) → HasNoLength dialect rest → IsLast dialect (length s) s (Some []) rest
    last_is (begun b) none = absurd none
    last_is (cut_off b) none = absurd none
    last_is (broken front back at kind) none = inl none

    -- no unit is known to follow, or the sink wants none
    pub no_more : AroundFed (telling_story story) dialect s first now None None a (Ok flow.Stop) → Ran (surveyed a)
    no_more (blocks, rest, survey, inl (cut, none, settled)) =
        inl (blocks, rest, (rw all_taken cut, last_is rest none, survey), settled)
    no_more (blocks, rest, survey, inr (others, none, cut, settled)) =
        inr (blocks, others, rw all_taken (rw none at cut), rw none at survey, rw none at settled)

    abbrev Stops : RunFault → Type 0
    Stops f = (blocks : List Block) × (rest : Rest) × (others : List ℕ) × IsCutTo dialect s blocks rest others
        × IsSoundSoFar dialect rest
        × ((WantsCell dialect rest others f
        × Settled (telling_story story) first None None (visits_around dialect blocks rest) (Tells story first now None None))
        ⊎ VisitorStops (telling_story story) first now None None (visits_around dialect blocks rest) f)

    -- neither the reader of the section nor the sink stops so
    neither : (f : RunFault) → ((e : f ≡ fault.NoMemory) → ⊥) → Stops f → ⊥
    neither f other (blocks, rest, others, cut, sound, inl (wants, settled)) =
        no_cell_other dialect f other rest others wants
    neither f other (blocks, rest, others, cut, sound, inr v) = v.reason

    module _ {E : Type 0} (e : E) where
      -- memory is wanted
      refused : Stops fault.NoMemory → Reads (Err e)
      refused (blocks, begun b, others, cut, sound, inl (wants, settled)) = record {
        sink = settled.tells.passed.sink;
        reads = (
          blocks,
          b,
          (b, others, refl, rw all_taken cut, sound, wants),
          told blocks (begun b) cut.each settled.tells,
        );
      }
      refused (blocks, cut_off b, others, cut, sound, inl (wants, settled)) = absurd wants
      refused (blocks, broken front back at kind, others, cut, sound, inl (wants, settled)) = absurd wants
      refused (blocks, rest, others, cut, sound, inr v) = absurd v.reason

      pub stopped : (f : RunFault) → AroundFed (telling_story story) dialect s first now None None a (Err f)
          → Reads (Err e)
      stopped (fault.Write out) (blocks, rest, others, cut, (heard, more, all, tells)) =
          absurd (let lt = tells.0 in omega (arith, lt))
      stopped fault.NoMemory w = refused w
      stopped (fault.Damage offset kind) w = absurd (neither (fault.Damage offset kind) (λ e. absurd cc) w)
      stopped fault.Read w = absurd (neither fault.Read (λ e. absurd cc) w)
      stopped fault.SectionTooLong w = absurd (neither fault.SectionTooLong (λ e. absurd cc) w)
      stopped fault.NotFound w = absurd (neither fault.NotFound (λ e. absurd cc) w)
      stopped fault.TwoSums w = absurd (neither fault.TwoSums (λ e. absurd cc) w)
      stopped fault.NoUnit w = absurd (neither fault.NoUnit (λ e. absurd cc) w)
      stopped (fault.ForeignUnit unit) w = absurd (neither (fault.ForeignUnit unit) (λ e. absurd cc) w)
      stopped (fault.Emit unit f) w = absurd (neither (fault.Emit unit f) (λ e. absurd cc) w)

-- w: what the sink ends as, where it is still held
pub given_back : {U E : Type 0} (story : UnitStory U) (dialect : Dialect) (s : List ℕ) (first now : Telling U) (w : U)
    (result : Result Survey E) → PassesOnAround story dialect s first now result
    → (first.sink.ghost_name ≡ now.sink.ghost_name → w ≡ now.sink.now)
    → ReadsAround story dialect s first.sink.now w result
given_back story dialect s first now w result passes is = rw (is (sym passes.sink)) passes.reads
