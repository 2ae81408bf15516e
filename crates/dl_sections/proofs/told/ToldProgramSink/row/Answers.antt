use Rattle.std.proofs.Common.{[], ◌∷◌, ◌∙◌, refl, sym}
use Rattle.dl_rows.specs.Items.{a_row}
use Rattle.dl_sections.proofs.ToldLemmas.{failed_before, told_before, told_more}
use Rattle.dl_sections.proofs.told.ToldProgramSink.row.Goals as goal

pub returns-then-is_some : goal.returns-then-is_some
returns-then-is_some g c first items told =
    failed_before g.V.Visitor.story g.W.Destination.fails g.W.Write.contents first c.args.self.now items
    (a_row c.args.header.now c.args.row.now ∷ []) c.args.self.now.failed (sym c.is_some.ensures ∙ c.if-is_some.true) told

pub returns-in-Err : goal.returns-in-Err
returns-in-Err g c first items told =
    let before = told_before g.V.Visitor.story g.W.Destination.fails g.W.Write.contents first c.args.self.now
    items c.args.self.now.failed (sym c.is_some.ensures ∙ c.if-is_some.false) told in (
      c.in-Err.fault,
      refl,
      told_more g.V.Visitor.story g.W.Destination.fails g.W.Write.contents first c.args.self.now _
          items (a_row c.args.header.now c.args.row.now ∷ []) _ before.1 refl refl c.in-Err.ensures.heard c.in-Err.ensures.blames_writer,
    )
