use Rattle.std.proofs.Common.{◌+◌, ◌∙◌, ◌++◌, ◌∷◌, [], List, ap, arith, get_or, length, length-append, take}
use Rattle.std.proofs.lemmas.List.{length-map, length-take}
use Rattle.std.specs.Prelude.{map}
use Rattle.dl_memory.proofs.RefusalLemmas.{wants_list}
use Rattle.dl_dump.specs.declared.held_sequence.HeldItem.{HeldItem}
use Rattle.dl_dump.specs.declared.held_sequence.HeldItem.TheVariants as held
use Rattle.dl_dump.proofs.RangeItemLemmas.{bytes_more}
use Rattle.dl_dump.proofs.range_dumping.hold_bytes.Goals as goal

pub loop-byte-preserved : goal.loop-byte-preserved
loop-byte-preserved g c =
    let i = c.loop-byte.byte-index in
    let bytes = c.args.bytes.now in
    c.in_ok-push.ensures.items
    ∙ ap (λ (l : List HeldItem). l ++ held.Byte (get_or bytes i 0) ∷ []) c.loop-byte.invariant
    ∙ bytes_more c.args.items.now.items bytes i c.loop-byte-test.true

pub returns-in_err-push-clause-refused : goal.returns-in_err-push-clause-refused
returns-in_err-push-clause-refused g c =
    let i = c.loop-byte.byte-index in
    let bytes = c.args.bytes.now in
    let old = c.args.items.now.items in
    let so_far = ap length c.loop-byte.invariant ∙ length-append old (map held.Byte (take i bytes)) in
    let some = length-map (take i bytes) held.Byte ∙ length-take i bytes in
    wants_list c.from_residual.result (g.M.Memory.refuses c.args.memory.now) (length c.loop-byte.items.items + 1)
    (length old + length bytes) (omega (arith, c.loop-byte-test.true, so_far, some)) c.in_err-push.ensures.refused
