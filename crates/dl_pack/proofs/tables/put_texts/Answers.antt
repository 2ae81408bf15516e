use Rattle.std.proofs.Common.{ap, arith, length, length-append}
use Rattle.std.specs.List.{concat}
use Rattle.dl_memory.proofs.RefusalLemmas.{wants_fewer}
use Rattle.dl_pack.specs.Mentioned.{order_of}
use Rattle.dl_pack.specs.Shown.{texts_of}
use Rattle.dl_pack.specs.Tables.{texts_at}
use Rattle.dl_pack.proofs.GrowthLemmas.{grew}
use Rattle.dl_pack.proofs.TextLemmas.{texts_len}
use Rattle.dl_pack.proofs.tables.put_texts.Goals as goal

pub returns-clause-few : goal.returns-clause-few
returns-clause-few g c =
    let texts = texts_at (texts_of c.args.names.now) (order_of c.args.texts.now) in
    let out = c.put_bytes.new.out in
    omega (
      arith,
      texts_len texts,
      length-append c.args.out.now.items (concat texts),
      ap length c.in_ok-put_bytes.ensures.put,
      out.ok.0,
      out.ok.1,
      out.small,
    )

pub returns-in_err-put_bytes-clause-refused : goal.returns-in_err-put_bytes-clause-refused
returns-in_err-put_bytes-clause-refused g c = wants_fewer _ _ _ _ (omega arith) c.in_err-put_bytes.ensures.refused

pub returns-in_err-pad-clause-refused : goal.returns-in_err-pad-clause-refused
returns-in_err-pad-clause-refused g c =
    wants_fewer _ _ _ _ (omega (
      arith,
      grew c.args.out.now.items c.put_bytes.new.out.items _ c.in_ok-put_bytes.ensures.put,
    )) c.in_err-pad.ensures.refused
