use Rattle.std.proofs.Common.{ℕ, ◌+◌, ◌<◌, ◌^◌, [], None, arith, length, refl}
use Rattle.dl_sections.proofs.SectionLemmas.{nothing_before}
use Rattle.dl_sections.proofs.TellingVisits.{begins, by_flow, read_all, cut_off, no_more, stopped}
use Rattle.dl_sections.proofs.in_memory.read_known.Goals as goal

pub returns-in-Ok : goal.returns-in-Ok
returns-in-Ok g c dialect begun hears =
    let story = g.U.UnitSink.story in
    let first = c.args.telling.now in
    let now = c.work_through.new.visitor in
    let units = c.work_through.new.units in
    let none_read = nothing_before dialect in
    let short : 0 + (0 + length {A = ℕ} c.args.section.now) < 2 ^ 64 = omega arith in
    let worked = by_flow story dialect c.args.section.now first now None None units c.in-Ok-On.field-0-is
    (c.in-Ok-On.ensures.worked dialect none_read [] [] [] first None (begun none_read refl refl) short (begins story first hears)) in
    read_all story dialect c.args.section.now first now None None units worked c.in-Ok.summary
    (λ units b are none sound.
    c.in-Ok.ensures dialect none_read c.args.section.now units b are none sound (omega (arith, short)))

pub returns-in-Err-finish : goal.returns-in-Err-finish
returns-in-Err-finish g c dialect begun hears =
    let story = g.U.UnitSink.story in
    let first = c.args.telling.now in
    let now = c.work_through.new.visitor in
    let units = c.work_through.new.units in
    let none_read = nothing_before dialect in
    let short : 0 + (0 + length {A = ℕ} c.args.section.now) < 2 ^ 64 = omega arith in
    let worked = by_flow story dialect c.args.section.now first now None None units c.in-Ok-On.field-0-is
    (c.in-Ok-On.ensures.worked dialect none_read [] [] [] first None (begun none_read refl refl) short (begins story first hears)) in
    cut_off story dialect c.args.section.now first now None None units worked c.in-Err-finish.fault
    (λ units b are none sound.
    c.in-Err-finish.ensures dialect none_read c.args.section.now units b are none sound (omega (arith, short)))
    c.of.result c.of.ensures.damaged

pub returns-in-Ok-Stop : goal.returns-in-Ok-Stop
returns-in-Ok-Stop g c dialect begun hears =
    let story = g.U.UnitSink.story in
    let first = c.args.telling.now in
    let now = c.work_through.new.visitor in
    let units = c.work_through.new.units in
    let none_read = nothing_before dialect in
    let short : 0 + (0 + length {A = ℕ} c.args.section.now) < 2 ^ 64 = omega arith in
    no_more story dialect c.args.section.now first now None None units (by_flow story dialect c.args.section.now first
    now None None units c.in-Ok-Stop.field-0-is
    (c.in-Ok-Stop.ensures.worked dialect none_read [] [] [] first None (begun none_read refl refl) short (begins story first hears)))

pub returns-in-Err : goal.returns-in-Err
returns-in-Err g c dialect begun hears =
    let story = g.U.UnitSink.story in
    let first = c.args.telling.now in
    let none_read = nothing_before dialect in
    let short : 0 + (0 + length {A = ℕ} c.args.section.now) < 2 ^ 64 = omega arith in
    stopped story dialect c.args.section.now first c.work_through.new.visitor None None c.work_through.new.units
    c.in-Err.fault c.of-in-Err.result c.of-in-Err.ensures.damaged c.of-in-Err.ensures.refused
    (c.in-Err.ensures.worked dialect none_read [] [] [] first None (begun none_read refl refl) short (begins story first hears))
