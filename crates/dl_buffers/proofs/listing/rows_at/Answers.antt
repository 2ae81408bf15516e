use Rattle.std.proofs.Common.{refl, drop}
use Rattle.dl_buffers.specs.Calls.{dialect_of}
use Rattle.dl_buffers.proofs.UnitCallLemmas.{lists_none, lists_stopped, lists_whole, none_heard, short_rest, told_is}
use Rattle.dl_buffers.proofs.listing.rows_at.Goals as goal

pub returns-in-Ok : goal.returns-in-Ok
returns-in-Ok c =
    let t = c.rest_from-bytes.result.now in
    let is = c.rest_from-bytes.ensures in
    lists_whole c.dialect_of.result (dialect_of c.args.how) c.dialect_of.ensures t
    (drop c.args.offset c.args.section.now) is.bytes
    (short_rest c.args.section.now t c.args.offset is.bytes is.small) c.args.offset _ c.read_section-read.new.sink _
    (search) c.args.count.now c.args.fault.now c.in-Ok.field-0 (c.in-Ok.ensures (refl, refl, none_heard _ refl))
    c.if-is_whole.true

pub returns-in-Ok-2 : goal.returns-in-Ok-2
returns-in-Ok-2 c =
    let t = c.rest_from-bytes.result.now in
    let is = c.rest_from-bytes.ensures in
    lists_none c.dialect_of.result (dialect_of c.args.how) c.dialect_of.ensures t
    (drop c.args.offset c.args.section.now) is.bytes
    (short_rest c.args.section.now t c.args.offset is.bytes is.small) c.args.offset _ c.read_section-read.new.sink _
    (search) c.args.count.now c.args.fault.now c.in-Ok-2.field-0 (c.in-Ok-2.ensures (refl, refl, none_heard _ refl))
    c.if-is_whole.false

pub returns-in-Err : goal.returns-in-Err
returns-in-Err c =
    let d = c.dialect_of.result in
    let t = c.rest_from-bytes.result.now in
    let is = c.rest_from-bytes.ensures in
    rw (c.tell_stop.ensures.told, c.tell_stop.ensures.status, c.count_told.ensures) (lists_stopped d
    (dialect_of c.args.how) c.dialect_of.ensures t (drop c.args.offset c.args.section.now) is.bytes
    (short_rest c.args.section.now t c.args.offset is.bytes is.small) c.args.offset _ c.read_section-read.new.sink _
    (search) c.args.count.now c.args.fault.now c.in-Err.stop (c.in-Err.ensures (refl, refl, none_heard _ refl))
    (told_is d t c.args.section.now c.args.offset is.bytes is.small c.ranges.offset.fits))
