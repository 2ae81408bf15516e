use Rattle.std.proofs.Common.{Option, Ok, subst}
use Rattle.dl_print.specs.ValueText.{Strings}
use Rattle.dl_sections.specs.declared.in_memory.WholeUnit.{WholeUnit}
use Rattle.dl_buffers.specs.declared.unit.UnitAtFront.{UnitAtFront}
use Rattle.dl_buffers.specs.PathCalls.{both_strings}
use Rattle.dl_buffers.specs.PathsCalls.{NamesAll, paths_of}
use Rattle.dl_buffers.specs.UnitReading.{ReadsUnit}
use Rattle.dl_buffers.proofs.PathsLemmas.{named_all}
use Rattle.dl_buffers.proofs.UnitCallLemmas.{paths_stop}
use Rattle.dl_buffers.proofs.paths.paths_at.Goals as goal

pub returns-in-Ok-Some : goal.returns-in-Ok-Some
returns-in-Ok-Some c =
    let d = c.dialect_of.result in
    let t = c.rest_from.result.now in
    let s = both_strings c.args.line_str.now c.args.str.now in
    let r = subst (λ (o : Option UnitAtFront). ReadsUnit d t (Ok o)) c.in-Ok-Some.field-0-is c.in-Ok-Some.ensures in
    let names = subst (λ (x : Strings). NamesAll c.in-Ok-Some.front.unit.version
    (paths_of x c.in-Ok-Some.front.unit.header c.args.files.now) c.args.paths.now c.name_all.new.paths c.args.ends.now
    c.name_all.new.ends c.name_all.result) c.new-strings.ensures c.name_all.ensures in
    rw (← c.dialect_of.ensures, ← c.rest_from.ensures.bytes) (named_all d t c.args.offset s c.args.files.now
    c.args.paths.now c.name_all.new.paths c.args.ends.now c.name_all.new.ends c.args.fault.now r.0 r.1
    c.name_all.result (subst (λ (u : WholeUnit). NamesAll u.version (paths_of s u.header c.args.files.now)
    c.args.paths.now c.name_all.new.paths c.args.ends.now c.name_all.new.ends c.name_all.result) r.2.unit names))

pub returns-in-Err : goal.returns-in-Err
returns-in-Err c =
    let is = c.rest_from.ensures in
    rw (c.tell_stop.ensures.told, c.tell_stop.ensures.status, ← c.dialect_of.ensures, ← is.bytes) (paths_stop
    c.dialect_of.result c.rest_from.result.now c.args.section.now c.args.offset is.bytes is.small
    c.ranges.offset.fits c.args.fault.now (both_strings c.args.line_str.now c.args.str.now)
    c.args.files.now c.args.paths.now c.args.ends.now c.in-Err.stop
    c.in-Err.ensures)
