use Rattle.dl_memory.proofs.RefusalLemmas.{wants_list}
use Rattle.dl_pack.specs.Shown.{texts_of}
use Rattle.dl_pack.specs.Mentioned.{order_of}
use Rattle.dl_pack.proofs.GrowthLemmas.{text_within}
use Rattle.dl_pack.proofs.TableLemmas.{bytes_more}
use Rattle.dl_pack.proofs.tables.put_bytes.Goals as goal

pub loop-text-preserved : goal.loop-text-preserved
loop-text-preserved g c =
    bytes_more (texts_of c.args.names.now) c.order-text-items.result.now (order_of c.args.texts.now) c.loop-text.text-index
    _ c.args.out.now.items _ _ _ c.order-text-items.ensures.order c.loop-text-test.true c.text_at.ensures
    c.loop-text.invariant c.in_ok-extend_from_slice.ensures.items

pub returns-in_err-extend_from_slice-clause-refused : goal.returns-in_err-extend_from_slice-clause-refused
returns-in_err-extend_from_slice-clause-refused g c =
    wants_list _ _ _ _ (text_within (texts_of c.args.names.now) c.order-text-items.result.now (order_of c.args.texts.now)
    c.loop-text.text-index _ c.args.out.now.items c.loop-text.out.items c.text_at.result.now
    c.order-text-items.ensures.order c.loop-text-test.true c.text_at.ensures c.loop-text.invariant)
    c.in_err-extend_from_slice.ensures.refused
