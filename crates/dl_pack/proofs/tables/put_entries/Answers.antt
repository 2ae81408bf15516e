use Rattle.std.proofs.Common.{ap, arith, length, refl}
use Rattle.dl_memory.proofs.RefusalLemmas.{wants_fewer}
use Rattle.dl_pack.specs.Shown.{texts_of}
use Rattle.dl_pack.specs.Mentioned.{order_of}
use Rattle.dl_pack.proofs.GrowthLemmas.{number_grew}
use Rattle.dl_pack.proofs.TableLemmas.{entries_more, place_more}
use Rattle.dl_pack.proofs.tables.put_entries.Goals as goal

pub loop-text-preserved : goal.loop-text-preserved
loop-text-preserved g c = record {
  place = place_more (texts_of c.args.names.now) c.order-text-items.result.now (order_of c.args.texts.now)
      c.loop-text.text-index _ c.text_at.result.now c.loop-text.place _ _ c.order-text-items.ensures.order
      c.loop-text-test.true c.text_at.ensures refl c.loop-text.invariant.place c.saturating_add-place.ensures;
  out = λ few. entries_more (texts_of c.args.names.now) c.order-text-items.result.now (order_of c.args.texts.now)
      c.loop-text.text-index _ c.args.out.now.items _ _ _ c.text_at.result.now c.loop-text.place _
      c.order-text-items.ensures.order c.loop-text-test.true c.text_at.ensures refl few c.loop-text.invariant.place
      c.loop-text.invariant.out c.in_ok-put_number.ensures.put c.in_ok-put_number-2.ensures.put;
  longer = omega (
    arith,
    c.loop-text.invariant.longer,
    number_grew c.loop-text.out.items c.put_number.new.out.items 8 _ c.in_ok-put_number.ensures.put,
    number_grew c.put_number.new.out.items c.put_number-in-loop-text.new.out.items 8 _ c.in_ok-put_number-2.ensures.put,
  );
}

pub returns-in_err-put_number-clause-refused : goal.returns-in_err-put_number-clause-refused
returns-in_err-put_number-clause-refused g c =
    wants_fewer _ _ _ _ (omega (
      arith,
      c.loop-text.invariant.longer,
      c.loop-text-test.true,
      ap length c.order-text-items.ensures.order,
    )) c.in_err-put_number.ensures.refused

pub returns-in_err-put_number-2-clause-refused : goal.returns-in_err-put_number-2-clause-refused
returns-in_err-put_number-2-clause-refused g c =
    wants_fewer _ _ _ _ (omega (
      arith,
      c.loop-text.invariant.longer,
      number_grew c.loop-text.out.items c.put_number.new.out.items 8 _ c.in_ok-put_number.ensures.put,
      c.loop-text-test.true,
      ap length c.order-text-items.ensures.order,
    )) c.in_err-put_number-2.ensures.refused

pub returns-clause-longer : goal.returns-clause-longer
returns-clause-longer g c =
    omega (
      arith,
      c.loop-text.invariant.longer,
      c.loop-text-test.false,
      c.loop-text.auto.text-index-end,
      ap length c.order-text-items.ensures.order,
    )
