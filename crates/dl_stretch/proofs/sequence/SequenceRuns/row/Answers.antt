use Rattle.std.proofs.Common.{◌≡◌, ◌++◌, ◌∷◌, [], List, drop, sym, subst, ◌∙◌}
use Rattle.std.proofs.Math.Logic.{∥∥₁_map}
use Rattle.dl_rows.specs.declared.row.Row.{Row}
use Rattle.dl_stretch.specs.declared.run.Run.{Run}
use Rattle.dl_stretch.specs.declared.sequence.RowStage.{RowStage}
use Rattle.dl_stretch.specs.declared.sequence.RowStage.TheVariants.{Between, Passed, Rising}
use Rattle.dl_stretch.specs.Sequences.{Keeps, AreKept}
use Rattle.dl_stretch.specs.Parts.{current}
use Rattle.dl_stretch.proofs.SequenceLemmas.{keeps_first, keeps_next, keeps_falls, keeps_passed}
use Rattle.dl_stretch.proofs.sequence.SequenceRuns.row.Goals as goal

now : (state known : RowStage) (runs : List Run) (rows : List Row) → state ≡ known → Keeps state runs rows
    → Keeps known runs rows
now state known runs rows is k = subst (λ s. Keeps s runs rows) is k

pub invariant_of-self-in-Between : goal.invariant_of-self-in-Between
invariant_of-self-in-Between g c =
    let s = c.args.self.now in
    let r = c.args.row.now in
    record {
      within = c.push_row.ensures.within;
      kept = ∥∥₁_map s.kept (λ w. (
        w.0 ++ r ∷ [],
        keeps_first (current s) (drop s.begun c.push_row.new.runs.items) w.0 r
            c.in_ok-push_row-in-Between.ensures.pushed c.of-place.result c.of-place.ensures
            (now s.state Between (current s) w.0 c.in-Between.is w.1),
      ));
    }

pub invariant_of-self-in-Break-branch-2 : goal.invariant_of-self-in-Break-branch-2
invariant_of-self-in-Break-branch-2 g c =
    let s = c.args.self.now in
    record {
      within = c.push_row-then-is_at_most.ensures.within;
      kept = subst (λ l. ∥ AreKept s.state (drop s.begun l) ∥₁) (sym c.in_err-push_row-in-Rising.ensures.same) s.kept;
    }

pub invariant_of-self-then-is_at_most : goal.invariant_of-self-then-is_at_most
invariant_of-self-then-is_at_most g c =
    let s = c.args.self.now in
    let r = c.args.row.now in
    record {
      within = c.push_row-then-is_at_most.ensures.within;
      kept = ∥∥₁_map s.kept (λ w. (
        w.0 ++ r ∷ [],
        keeps_next (current s) (drop s.begun c.push_row-then-is_at_most.new.runs.items)
            w.0 r c.in_ok-push_row-in-Rising.ensures.pushed c.of-place.result c.of-place.ensures c.in-Rising.first
            c.in-Rising.last (now s.state (Rising c.in-Rising.first c.in-Rising.last) (current s) w.0 c.in-Rising.is w.1)
            (sym c.is_at_most.ensures ∙ c.if-is_at_most.true),
      ));
    }

pub invariant_of-self-else-is_at_most : goal.invariant_of-self-else-is_at_most
invariant_of-self-else-is_at_most g c =
    let s = c.args.self.now in
    let r = c.args.row.now in
    record {
      within = s.within;
      kept = ∥∥₁_map s.kept (λ w. (
        w.0 ++ r ∷ [],
        keeps_falls (current s) w.0 r c.of-place.result c.of-place.ensures
            c.in-Rising.first c.in-Rising.last (now s.state (Rising c.in-Rising.first c.in-Rising.last) (current s) w.0
            c.in-Rising.is w.1) (sym c.is_at_most.ensures ∙ c.if-is_at_most.false),
      ));
    }

pub returns-in_ok-push_row-in-Between-clause-keeps : goal.returns-in_ok-push_row-in-Between-clause-keeps
returns-in_ok-push_row-in-Between-clause-keeps g c = λ rows k. (
    let s = c.args.self.now in
    keeps_first (current s) (drop s.begun c.push_row.new.runs.items) rows c.args.row.now
    c.in_ok-push_row-in-Between.ensures.pushed c.of-place.result c.of-place.ensures
    (now s.state Between (current s) rows c.in-Between.is k))

pub returns-in_ok-push_row-in-Rising-clause-keeps : goal.returns-in_ok-push_row-in-Rising-clause-keeps
returns-in_ok-push_row-in-Rising-clause-keeps g c = λ rows k. (
    let s = c.args.self.now in
    keeps_next (current s) (drop s.begun c.push_row-then-is_at_most.new.runs.items) rows c.args.row.now
    c.in_ok-push_row-in-Rising.ensures.pushed c.of-place.result c.of-place.ensures c.in-Rising.first c.in-Rising.last
    (now s.state (Rising c.in-Rising.first c.in-Rising.last) (current s) rows c.in-Rising.is k)
    (sym c.is_at_most.ensures ∙ c.if-is_at_most.true))

pub returns-else-is_at_most-clause-keeps : goal.returns-else-is_at_most-clause-keeps
returns-else-is_at_most-clause-keeps g c = λ rows k. (
    let s = c.args.self.now in
    keeps_falls (current s) rows c.args.row.now c.of-place.result c.of-place.ensures c.in-Rising.first
    c.in-Rising.last (now s.state (Rising c.in-Rising.first c.in-Rising.last) (current s) rows c.in-Rising.is k)
    (sym c.is_at_most.ensures ∙ c.if-is_at_most.false))

pub returns-in-Passed-clause-keeps : goal.returns-in-Passed-clause-keeps
returns-in-Passed-clause-keeps g c = λ rows k. (
    let s = c.args.self.now in
    subst (λ t. Keeps t (current s) (rows ++ c.args.row.now ∷ [])) (sym c.in-Passed.is)
    (keeps_passed (current s) rows c.args.row.now (now s.state Passed (current s) rows c.in-Passed.is k)))

pub invariant_of-self : goal.invariant_of-self
invariant_of-self g c =
    let s = c.args.self.now in
    record {
      within = c.push_row.ensures.within;
      kept = subst (λ l. ∥ AreKept s.state (drop s.begun l) ∥₁) (sym c.in_err-push_row-in-Between.ensures.same) s.kept;
    }
