-- What a sink hears of the bytes of a unit.
use Rattle.std.proofs.Common.{◌≡◌, ℕ, ◌-◌, ◌≤◌, List, [], ◌∷◌, ◌++◌, length, take, true, false, Result, Ok, Err, refl, sym, ap, ◌∙◌, arith}
use Rattle.std.proofs.Common.{append_assoc, append-nil, length-append, length-take}
use Rattle.std.proofs.lemmas.List.{append_cancel_left, append_cancel_right}
use Rattle.dl_num.proofs.LebFrontLemmas.{true_false}
use Rattle.dl_num.specs.declared.fixed.Order.{Order}
use Rattle.dl_field.specs.declared.params.Params.{Params}
use Rattle.dl_field.specs.HeaderData.{HeaderData}
use Rattle.dl_head.specs.declared.dialect.Dialect.{Dialect}
use Rattle.dl_head.specs.declared.fault.Fault.{Fault}
use Rattle.dl_rows.specs.declared.program.Program.{Program}
use Rattle.dl_rows.specs.declared.program.ProgramStep.{ProgramStep}
use Rattle.dl_rows.specs.declared.program.ProgramStep.TheVariants as given
use Rattle.dl_rows.specs.declared.reader.Event.{Event}
use Rattle.dl_rows.specs.declared.reader.Event.TheVariants as event
use Rattle.dl_rows.specs.declared.reader.Fed.{Fed}
use Rattle.dl_rows.specs.declared.row.Row.{Row}
use Rattle.dl_rows.specs.declared.unit_body.UnitBody.{UnitBody}
use Rattle.dl_rows.specs.Items.{Item, items_after, items_in, rows_of_items, unit_items}
use Rattle.dl_rows.specs.LineUnit.{rows_in}
use Rattle.dl_rows.specs.Programs.{GivenIs, StandsAfter, Tells, left_by}
use Rattle.dl_rows.specs.Reading.{HearsOf, IsPause, SinkAfter, SinkAt, is_opening, opening_answered, row_answered, row_told}
use Rattle.dl_rows.specs.Sinks.{Story}
use Rattle.dl_rows.specs.UnitBodies.{AfterHeader, InProgram}
use Rattle.dl_rows.proofs.ItemLemmas.{items_join, rows_in_more}
use Rattle.dl_rows.proofs.RowBytes.{front_is}
use Rattle.dl_rows.proofs.UnitBodyLemmas.{header_at, later}

-- u is what is taken of the piece, of which at most so many bytes are of the unit
pub record TakenOf (piece : List ℕ) (most : ℕ) (u : List ℕ) (used : ℕ) : Type 0 where
  pub exact : used ≡ length u
  pub few : length u ≤ most
  pub within : used ≤ length piece
  pub is : take used piece ≡ u

pub taken_of : (piece u tail : List ℕ) (most used : ℕ) → take most piece ≡ u ++ tail
    → used ≡ length (take most piece) - length tail → TakenOf piece most u used
taken_of piece u tail most used e size =
    let exact : used ≡ length u = omega (arith, size, ap length e, length-append u tail) in
    record {
      exact = exact;
      few = omega (arith, ap length e, length-take most piece, length-append u tail);
      within = omega (arith, exact, ap length e, length-take most piece, length-append u tail);
      is = rw exact (front_is piece u tail most e);
    }

-- ---- what bytes after a header come to

items_at : {dialect : Dialect} {h : HeaderData} {b : List ℕ} (a : AfterHeader dialect h b)
    → unit_items dialect b ≡ items_in dialect.order h a.program
items_at a = rw (header_at a)

pub items_more : {dialect : Dialect} {h : HeaderData} {b : List ℕ} (a : AfterHeader dialect h b) (u : List ℕ)
    → unit_items dialect (b ++ u) ≡ unit_items dialect b ++ items_after dialect.order h.params h a.program u
items_more {dialect} {h} a u =
    rw (items_at (later a u), items_at a) (items_join dialect.order h.params h [] a.program u)

-- ---- the rows among them

-- the row that a step gives
abbrev given_row : ProgramStep → List Row
given_row (given.Row r tail) = r ∷ []
given_row other = []

module _ (order : Order) (h : Params) (b bytes : List ℕ) (rows : List Row) (new : Program) (u : List ℕ) where
  -- the rows of the bytes that a step takes, and its own
  rows_grown : (step : ProgramStep) → GivenIs order h b bytes rows step new → bytes ≡ u ++ left_by step
      → rows_in order h (b ++ u) ≡ rows_in order h b ++ (rows ++ given_row step)
  rows_grown given.Nothing g split = rw (append-nil rows, ← append-nil u, ← split) g.grown
  rows_grown (given.Row r tail) g split =
      let same = append_cancel_right (g.front ++ g.last ∷ []) u tail.now (sym g.split ∙ split) in
      rw same at g.grown ∙ append_assoc (rows_in order h b) rows (r ∷ [])
  rows_grown (given.Refuses kind tail) g split =
      let same = append_cancel_right (g.front ++ g.last ∷ []) u tail.now (sym g.split ∙ split) in
      rw (append-nil rows) (rw same at g.grown)

  rows_heard : (header : HeaderData) (step : ProgramStep) → GivenIs order h b bytes rows step new
      → bytes ≡ u ++ left_by step → rows_of_items (items_after order h header b u) ≡ rows ++ given_row step
  rows_heard header step g split =
      append_cancel_left (rows_in order h b) (rows_of_items (items_after order h header b u)) (rows ++ given_row step)
      (sym (rows_in_more order h header b u) ∙ rows_grown step g split)

-- ---- after a step of a program

-- what a step says of an answer: the row that it gives is answered
pub record AnswersStep {S : Type 0} (story : Story S) (s : S) (step : ProgramStep) (result : Result Fed Fault) : Type 0 where
  pub rows : row_answered result ≡ given_row step
  pub late : opening_answered result ≡ false
  pub sink : (items : List Item) → StandsAfter story s items step → SinkAfter story s items result

-- where the sink goes on, no row is answered
pub goes_on : {S : Type 0} (story : Story S) (s : S) (result : Result Fed Fault) → row_answered result ≡ []
    → (items : List Item) → story.hears s items → SinkAfter story s items result
goes_on story s (Err fault) none items hears = hears
goes_on story s (Ok fed) none items hears = at fed.event none where
  at : (e : Event) → row_told e ≡ [] → SinkAt story s items e
  at (event.Row r) none = absurd cc
  at other none = hears

pub no_row_paused : (e : Event) → IsPause e → row_told e ≡ []
no_row_paused (event.Row r) pause = absurd pause
no_row_paused other pause = refl

pub no_opening_paused : (e : Event) → IsPause e → is_opening e ≡ false
no_opening_paused event.More pause = refl
no_opening_paused event.End pause = refl
no_opening_paused event.NoMemory pause = refl
no_opening_paused other pause = absurd pause

pub heard_in : {S : Type 0} {story : Story S} {dialect : Dialect} {h : HeaderData} {t : UnitBody} {b piece : List ℕ}
    {before : List Item} {step : ProgramStep} {new : Program} {s : S} {used : ℕ} {result : Result Fed Fault}
    (is : InProgram dialect h t b)
    (told : Tells story dialect.order h.params h is.at.program (take t.bytes.left piece) before step new s)
    → used ≡ length (take t.bytes.left piece) - length (left_by step) → AnswersStep story s step result
    → HearsOf story dialect b piece used told.rows before result s
heard_in {dialect = dialect} {h = h} {t = t} {piece = piece} {before = before} {step = step} {new = new} {used = used} is
    told size answers =
    let taken = taken_of piece told.taken (left_by step) t.bytes.left used told.split size in
    let items = items_after dialect.order h.params h is.at.program told.taken in
    record {
      items = items;
      grown = rw taken.is (items_more is.at told.taken);
      of_rows = rows_heard dialect.order h.params is.at.program (take t.bytes.left piece) told.rows new told.taken h step
          told.gives told.split ∙ ap (λ (z : List Row). told.rows ++ z) (sym answers.rows);
      opening = λ opens. absurd (true_false opens answers.late);
      sink = answers.sink (before ++ items) told.sink;
    }

-- ---- where the bytes that are taken come to nothing

pub hears_quiet : {S : Type 0} {story : Story S} {dialect : Dialect} {b piece : List ℕ} {used : ℕ} {before : List Item} {s : S}
    (result : Result Fed Fault) → unit_items dialect (b ++ take used piece) ≡ unit_items dialect b
    → (opening_answered result ≡ true → unit_items dialect (b ++ take used piece) ≡ []) → row_answered result ≡ []
    → story.hears s before → HearsOf story dialect b piece used [] before result s
hears_quiet {story = story} {before = before} {s = s} result same opening none hears = record {
  items = [];
  grown = rw append-nil same;
  of_rows = sym none;
  opening = opening;
  sink = rw append-nil (goes_on story s result none before hears);
}

pub hears_nothing : {S : Type 0} {story : Story S} {dialect : Dialect} {b piece : List ℕ} {before : List Item} {s : S}
    (result : Result Fed Fault) → opening_answered result ≡ false → row_answered result ≡ [] → story.hears s before
    → HearsOf story dialect b piece 0 [] before result s
hears_nothing {dialect = dialect} {b = b} result late none hears =
    hears_quiet result (ap (unit_items dialect) (append-nil b)) (λ opens. absurd (true_false opens late)) none hears
