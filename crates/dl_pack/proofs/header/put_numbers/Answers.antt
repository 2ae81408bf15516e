use Rattle.std.proofs.Common.{arith, take}
use Rattle.std.proofs.lemmas.List.{length-take}
use Rattle.dl_memory.proofs.RefusalLemmas.{wants_fewer}
use Rattle.dl_pack.specs.Columns.{column_bytes}
use Rattle.dl_pack.proofs.GrowthLemmas.{column_len, grew}
use Rattle.dl_pack.proofs.header.put_numbers.Goals as goal

pub returns-in_err-put_number-clause-refused : goal.returns-in_err-put_number-clause-refused
returns-in_err-put_number-clause-refused g c =
    let numbers = c.args.numbers.now in
    let i = c.loop-number.number-index in
    wants_fewer _ _ _ _ (omega (
      arith,
      grew c.args.out.now.items c.loop-number.out.items (column_bytes 8 (take i numbers)) c.loop-number.invariant,
      column_len 8 (take i numbers),
      length-take i numbers,
      c.loop-number-test.true,
    )) c.in_err-put_number.ensures.refused
