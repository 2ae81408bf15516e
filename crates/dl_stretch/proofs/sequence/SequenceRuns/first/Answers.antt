use Rattle.std.proofs.Common.{◌≡◌, List, sym, subst, ◌∙◌}
use Rattle.dl_rows.specs.declared.row.Row.{Row}
use Rattle.dl_stretch.specs.declared.run.Run.{Run}
use Rattle.dl_stretch.specs.declared.sequence.RowStage.{RowStage}
use Rattle.dl_stretch.specs.declared.sequence.RowStage.TheVariants.{Between, Passed, Rising}
use Rattle.dl_stretch.specs.Sequences.{Keeps, AreKept}
use Rattle.dl_stretch.specs.Parts.{current}
use Rattle.dl_stretch.proofs.SequenceLemmas.{tells_from, ends_falling, ends_rising, ends_passed, ends_between}
use Rattle.dl_stretch.proofs.sequence.SequenceRuns.first.Goals as goal

now : (state known : RowStage) (runs : List Run) (rows : List Row) → state ≡ known → Keeps state runs rows
    → Keeps known runs rows
now state known runs rows is k = subst (λ s. Keeps s runs rows) is k

pub returns-then-is_at_most-clause-found : goal.returns-then-is_at_most-clause-found
returns-then-is_at_most-clause-found c =
    let s = c.args.self.now in
    tells_from c.in-Rising.first c.in-Rising.last (current s)
    (subst (λ t. ∥ AreKept t (current s) ∥₁) c.in-Rising.is s.kept)

pub returns-then-is_at_most-clause-value : goal.returns-then-is_at_most-clause-value
returns-then-is_at_most-clause-value c = λ rows r k at. (
    let s = c.args.self.now in
    ends_rising (current s) rows r c.args.end (sym at) c.in-Rising.first c.in-Rising.last
    (now s.state (Rising c.in-Rising.first c.in-Rising.last) (current s) rows c.in-Rising.is k)
    (sym c.is_at_most.ensures ∙ c.if-is_at_most.true))

pub returns-else-is_at_most-clause-value : goal.returns-else-is_at_most-clause-value
returns-else-is_at_most-clause-value c = λ rows r k at. (
    let s = c.args.self.now in
    ends_falling (current s) rows r c.args.end (sym at) c.in-Rising.first c.in-Rising.last
    (now s.state (Rising c.in-Rising.first c.in-Rising.last) (current s) rows c.in-Rising.is k)
    (sym c.is_at_most.ensures ∙ c.if-is_at_most.false))

pub returns-in-Between-clause-value : goal.returns-in-Between-clause-value
returns-in-Between-clause-value c = λ rows r k at.
    ends_between (current c.args.self.now) rows r (now c.args.self.now.state Between (current c.args.self.now) rows
    c.in-Between.is k)

pub returns-in-Passed-clause-value : goal.returns-in-Passed-clause-value
returns-in-Passed-clause-value c = λ rows r k at.
    ends_passed (current c.args.self.now) rows r (now c.args.self.now.state Passed (current c.args.self.now) rows
    c.in-Passed.is k)
