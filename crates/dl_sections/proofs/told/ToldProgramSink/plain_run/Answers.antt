use Rattle.std.proofs.Common.{◌∙◌, arith, refl, sym}
use Rattle.dl_rows.proofs.RowsCounted.{rows_counted}
use Rattle.dl_rows.specs.Plain.{along_from, items_of_plain}
use Rattle.dl_sections.proofs.ToldLemmas.{told_before, told_nothing, told_run}
use Rattle.dl_sections.proofs.told.ToldProgramSink.plain_run.Goals as goal

pub returns-then-is_some : goal.returns-then-is_some
returns-then-is_some g c first items ones told is = told

pub returns-then-not-plain_run : goal.returns-then-not-plain_run
returns-then-not-plain_run g c first items ones told is =
    let none = sym c.is_some.ensures ∙ c.if-is_some.false in
    let before = told_before g.V.Visitor.story g.W.Destination.fails g.W.Write.contents first c.args.self.now
    items c.args.self.now.failed none told in
    told_nothing g.V.Visitor.story g.W.Destination.fails g.W.Write.contents first c.args.self.now _ items _ c.plain_run.result before none
    refl refl refl refl (c.plain_run.ensures.heard ones is) c.if-not-plain_run.true

pub returns : goal.returns
returns g c first items ones told is =
    let none = sym c.is_some.ensures ∙ c.if-is_some.false in
    let before = told_before g.V.Visitor.story g.W.Destination.fails g.W.Write.contents first c.args.self.now
    items c.args.self.now.failed none told in
    let run = c.args.run.now in
    let h = c.args.header.now in
    let counted = rows_counted h.params h (along_from run.from is.file) ones is.plain in
    told_run g.V.Visitor.story g.W.Destination.fails g.W.Write.contents first c.args.self.now _ items (items_of_plain h ones) c.plain_run.result
    run.rows.count (omega (arith, counted.0, is.comes.count)) counted.1 before none refl refl c.saturating_add-self.ensures refl
    (c.plain_run.ensures.heard ones is) c.if-not-plain_run.false
