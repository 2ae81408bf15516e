use Rattle.std.proofs.Common.{◌∷◌, ◌++◌, [], List, drop, ap}
use Rattle.std.proofs.lemmas.Result.{IfOk-weaker}
use Rattle.dl_rows.specs.declared.row.Row.{Row}
use Rattle.dl_look.specs.FinderRows.{unended}
use Rattle.dl_stretch.specs.Parts.{current}
use Rattle.dl_stretch.specs.Sequences.{Keeps}
use Rattle.dl_stretch.specs.Spans.{answer_of}
use Rattle.dl_stretch.specs.Stands.{Holds}
use Rattle.dl_stretch.specs.declared.run_spans.RunSpans.{RunSpans}
use Rattle.dl_stretch.proofs.UnitLemmas.{goes_on}
use Rattle.dl_stretch.proofs.run_spans.RunSpans.row.Goals as goal

pub returns-else-row-clause-unit : goal.returns-else-row-clause-unit
returns-else-row-clause-unit g c =
    let old = c.args.self.now in
    let r = c.args.row.now in
    let new : RunSpans = record old { list = c.row.new.self; parted = _ } in
    IfOk-weaker c.row.result
    (λ _. (rows : List Row) → Keeps old.list.state (current old.list) rows
    → Keeps c.row.new.self.state (current c.row.new.self) (rows ++ r ∷ []))
    (λ _. (rows : List Row) → Holds old rows → Holds new (rows ++ r ∷ []))
    (λ _ keeps rows holds. goes_on old new rows r c.if-row.false holds
    (λ a. ap (λ l. answer_of l (drop old.whole_spans old.spans.items) a) c.row.ensures.same) (keeps (unended rows)))
    c.row.ensures.keeps
