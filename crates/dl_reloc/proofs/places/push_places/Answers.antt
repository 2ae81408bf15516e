use Rattle.std.proofs.Common.{◌+◌, ◌∙◌, ap, arith, length}
use Rattle.dl_memory.proofs.RefusalLemmas.{wants_list}
use Rattle.std.proofs.Math.Nat.{div-le_self}
use Rattle.dl_reloc.specs.Entries.{count, entry_size}
use Rattle.dl_reloc.proofs.AppliedLemmas.{entry_is}
use Rattle.dl_reloc.proofs.CountLemmas.{places_so_far}
use Rattle.dl_reloc.proofs.PlaceLemmas.{next_placed}
use Rattle.dl_reloc.proofs.places.push_places.Goals as goal

pub loop-index-preserved : goal.loop-index-preserved
loop-index-preserved g c =
    next_placed c.args.target.now c.args.form c.args.entries.now c.args.table.now c.args.wide.now c.loop-index.index
    c.read-entry.result c.args.places.now.items c.loop-index.places.items c.push_place.new.places.items
    c.loop-index.invariant
    (entry_is c.args.target.now c.args.form c.args.entries.now c.loop-index.index c.entry_size-size.result
    c.item.result.now c.read-entry.result c.entry_size-size.ensures.size c.item.ensures.item c.read-entry.ensures)
    c.in_ok-push_place.ensures.places

pub returns-in_err-push_place-clause-refused : goal.returns-in_err-push_place-clause-refused
returns-in_err-push_place-clause-refused g c =
    let l = c.loop-index in
    let entries = c.args.entries.now in
    let many = places_so_far c.args.target.now c.args.form entries c.args.table.now c.args.wide.now l.index
    c.args.places.now.items l.places.items l.invariant in
    let all = c.count-index-end.ensures ∙ ap (λ size. count size entries) c.entry_size-size.ensures.size in
    wants_list _ _ (length l.places.items + 1) _ (omega (arith, many, all, c.loop-index-test.true))
    c.in_err-push_place.ensures.refused

pub returns-clause-few : goal.returns-clause-few
returns-clause-few g c =
    let l = c.loop-index in
    let entries = c.args.entries.now in
    let many = places_so_far c.args.target.now c.args.form entries c.args.table.now c.args.wide.now l.index
    c.args.places.now.items l.places.items l.invariant in
    let all = c.count-index-end.ensures ∙ ap (λ size. count size entries) c.entry_size-size.ensures.size in
    let most = div-le_self (length entries) (entry_size c.args.target.now.class c.args.form) in
    omega (arith, many, all, most, c.loop-index-test.false)
