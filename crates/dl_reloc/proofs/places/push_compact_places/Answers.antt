use Rattle.std.proofs.Common.{◌+◌, ◌++◌, arith, length, sym}
use Rattle.dl_memory.proofs.RefusalLemmas.{wants_list}
use Rattle.dl_reloc.specs.Places.{placed_compact}
use Rattle.dl_reloc.proofs.CountLemmas.{entry_less, one_place}
use Rattle.dl_reloc.proofs.PlaceLemmas.{next_place, none_left}
use Rattle.dl_reloc.proofs.places.push_compact_places.Goals as goal

pub returns-in_default-next_entry-clause-places : goal.returns-in_default-next_entry-clause-places
returns-in_default-next_entry-clause-places g c =
    none_left c.args.target.now c.args.table.now c.args.wide.now c.in-Some.header c.loop.entry c.loop.rest.now
    c.in-Some.header.count c.loop.counter c.loop.places.items
    (c.args.places.now.items ++ placed_compact c.args.target.now c.args.section.now c.args.table.now c.args.wide.now)
    c.loop-test.true (sym c.in_default-next_entry.ensures) c.loop.invariant.all

pub returns-in_err-push_place-clause-refused : goal.returns-in_err-push_place-clause-refused
returns-in_err-push_place-clause-refused g c =
    let l = c.loop in
    let less = entry_less c.args.target.now.class c.in-Some.header l.entry c.in-Some-next_entry.next l.rest.now
    c.in-Some-next_entry.after.now (sym c.in-Some-next_entry.ensures) in
    wants_list _ _ (length l.places.items + 1) _ (omega (arith, less, l.invariant.room))
    c.in_err-push_place.ensures.refused

pub loop-preserved : goal.loop-preserved
loop-preserved g c =
    let l = c.loop in
    let target = c.args.target.now in
    let table = c.args.table.now in
    let wide = c.args.wide.now in
    let next = c.in-Some-next_entry.next in
    let less = entry_less target.class c.in-Some.header l.entry next l.rest.now c.in-Some-next_entry.after.now
    (sym c.in-Some-next_entry.ensures) in
    let more = one_place target next table wide l.places.items c.push_place.new.places.items
    c.in_ok-push_place.ensures.places in
    record {
      all = next_place target table wide c.in-Some.header l.entry next l.rest.now c.in-Some-next_entry.after.now
          c.in-Some.header.count l.counter l.places.items c.push_place.new.places.items
          (c.args.places.now.items ++ placed_compact target c.args.section.now table wide)
          c.loop-test.true (sym c.in-Some-next_entry.ensures) l.invariant.all c.in_ok-push_place.ensures.places;
      room = omega (arith, less, more, l.invariant.room);
    }
