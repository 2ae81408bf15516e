use Rattle.std.proofs.Common.{[], Some, None, arith, length, refl}
use Rattle.dl_sections.proofs.AroundTelling.{begins, by_flow, ends, no_more, stopped}
use Rattle.dl_sections.proofs.around_in_memory.read_known_around.Goals as goal

pub returns-in-Ok-On : goal.returns-in-Ok-On
returns-in-Ok-On g c dialect begun hears =
    let story = g.U.UnitSink.story in
    let first = c.args.telling.now in
    let s = c.args.section.now in
    ends story dialect s first c.finish.new.visitor (c.finish.ensures (length s) dialect s first None None (Some [])
    (omega arith, refl) (omega arith)
    (by_flow story dialect s first c.feed.new.visitor c.feed.new.self c.in-Ok-On.field-0-is
    (c.in-Ok-On.ensures.fed dialect [] first None (begins story dialect first c.args.units.now begun hears))))

pub returns-in-Ok-Stop : goal.returns-in-Ok-Stop
returns-in-Ok-Stop g c dialect begun hears =
    let story = g.U.UnitSink.story in
    let first = c.args.telling.now in
    let s = c.args.section.now in
    rw c.survey.ensures (ends story dialect s first c.feed.new.visitor (no_more story dialect s first c.feed.new.visitor
    c.feed.new.self (by_flow story dialect s first c.feed.new.visitor c.feed.new.self c.in-Ok-Stop.field-0-is
    (c.in-Ok-Stop.ensures.fed dialect [] first None (begins story dialect first c.args.units.now begun hears)))))

pub returns-in-Err : goal.returns-in-Err
returns-in-Err g c dialect begun hears =
    let story = g.U.UnitSink.story in
    let first = c.args.telling.now in
    stopped story dialect c.args.section.now first c.feed.new.visitor c.feed.new.self _ c.in-Err.field-0
    (c.in-Err.ensures.fed dialect [] first None (begins story dialect first c.args.units.now begun hears))
