use Rattle.std.proofs.Common.{◌-◌, arith, vec_len}
use Rattle.dl_memory.proofs.RefusalLemmas.{wants_fewer}
use Rattle.dl_pack.proofs.GrowthLemmas.{padded_more}
use Rattle.dl_pack.proofs.tables.put_text_table.Goals as goal

pub returns-in_err-total-clause-refused : goal.returns-in_err-total-clause-refused
returns-in_err-total-clause-refused g c = wants_fewer _ _ _ _ (omega arith) c.in_err-total.ensures.refused

pub returns-in_err-pad-clause-refused : goal.returns-in_err-pad-clause-refused
returns-in_err-pad-clause-refused g c =
    wants_fewer _ _ _ _ (omega (arith, c.in_ok-total.ensures.longer)) c.in_err-pad.ensures.refused

pub returns-clause-longer : goal.returns-clause-longer
returns-clause-longer g c =
    omega (
      arith,
      c.in_ok-total.ensures.longer,
      padded_more c.put_entries.new.out.items c.pad.new.out.items
          (vec_len c.put_entries.new.out - c.len-start.result) c.in_ok-pad.ensures.put,
    )
