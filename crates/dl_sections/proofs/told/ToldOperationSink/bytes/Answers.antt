use Rattle.std.proofs.Common.{◌∙◌, map, refl, sym, append-nil}
use Rattle.dl_rows.proofs.ItemLemmas.{no_row_of_bytes, rows-append}
use Rattle.dl_rows.specs.Items.{a_byte}
use Rattle.dl_sections.proofs.ToldLemmas.{goes_on_as, stays_failed, told_before, told_more}
use Rattle.dl_sections.proofs.told.ToldOperationSink.bytes.Goals as goal

pub returns-then-is_some : goal.returns-then-is_some
returns-then-is_some g c first items told =
    stays_failed g.V.Visitor.story g.W.Destination.fails g.W.Write.contents first c.args.self.now items
    (map a_byte c.args.bytes.now) c.args.self.now.failed (sym c.is_some.ensures ∙ c.if-is_some.true) told

pub returns-in-Err : goal.returns-in-Err
returns-in-Err g c first items told =
    let before = told_before g.V.Visitor.story g.W.Destination.fails g.W.Write.contents first c.args.self.now
    items c.args.self.now.failed (sym c.is_some.ensures ∙ c.if-is_some.false) told in (
      c.in-Err.fault.out,
      c.from.ensures,
      rw c.from.ensures (told_more g.V.Visitor.story g.W.Destination.fails g.W.Write.contents
          first c.args.self.now _ items (map a_byte c.args.bytes.now) _ before.1 refl refl c.in-Err.ensures.heard c.in-Err.ensures.blames_writer),
    )

pub returns-in_default : goal.returns-in_default
returns-in_default g c first items told =
    let before = told_before g.V.Visitor.story g.W.Destination.fails g.W.Write.contents first c.args.self.now
    items c.args.self.now.failed (sym c.is_some.ensures ∙ c.if-is_some.false) told in
    goes_on_as g.V.Visitor.story g.W.Destination.fails g.W.Write.contents first _ _ c.args.self.now.failed
    (sym c.is_some.ensures ∙ c.if-is_some.false) (
      record {
        of_rows = rw (rows-append items (map a_byte c.args.bytes.now), no_row_of_bytes c.args.bytes.now, append-nil) before.0.of_rows;
        of_ends = rw (rows-append items (map a_byte c.args.bytes.now), no_row_of_bytes c.args.bytes.now, append-nil) before.0.of_ends;
      },
      told_more g.V.Visitor.story g.W.Destination.fails g.W.Write.contents first c.args.self.now _ items
          (map a_byte c.args.bytes.now) _ before.1 refl refl c.in_default.ensures.heard c.in_default.ensures.blames_writer,
    )
