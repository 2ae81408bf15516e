use Rattle.std.proofs.Common.{arith, length, [], ◌∷◌, replicate, ◌-◌}
use Rattle.dl_num.specs.Fixed.{little_bytes}
use Rattle.dl_memory.proofs.RefusalLemmas.{wants_fewer}
use Rattle.dl_pack.proofs.GrowthLemmas.{grew, number_grew}
use Rattle.dl_pack.proofs.TableLemmas.{put_four}
use Rattle.dl_pack.proofs.header.put_back.Goals as goal

pub returns-clause-put : goal.returns-clause-put
returns-clause-put g c =
    put_four c.args.out.now.items _ _ _ _ (little_bytes 1 (length c.args.build_id.now)) (0 ∷ 0 ∷ 0 ∷ [])
    c.args.build_id.now (replicate (44 - length c.args.build_id.now) 0) c.in_ok-put_number.ensures.put
    c.in_ok-put_slice.ensures.put c.in_ok-put_slice-2.ensures.put c.in_ok-put_zeros.ensures.put

pub returns-in_err-put_number-clause-refused : goal.returns-in_err-put_number-clause-refused
returns-in_err-put_number-clause-refused g c =
    wants_fewer _ _ _ _ (omega (arith)) c.in_err-put_number.ensures.refused

pub returns-in_err-put_slice-clause-refused : goal.returns-in_err-put_slice-clause-refused
returns-in_err-put_slice-clause-refused g c =
    wants_fewer _ _ _ _ (omega (arith, number_grew c.args.out.now.items c.put_number.new.out.items 1 _ c.in_ok-put_number.ensures.put)) c.in_err-put_slice.ensures.refused

pub returns-in_err-put_slice-2-clause-refused : goal.returns-in_err-put_slice-2-clause-refused
returns-in_err-put_slice-2-clause-refused g c =
    wants_fewer _ _ _ _ (omega (arith, number_grew c.args.out.now.items c.put_number.new.out.items 1 _ c.in_ok-put_number.ensures.put, grew c.put_number.new.out.items c.put_slice.new.out.items _ c.in_ok-put_slice.ensures.put)) c.in_err-put_slice-2.ensures.refused

pub returns-in_err-put_zeros-clause-refused : goal.returns-in_err-put_zeros-clause-refused
returns-in_err-put_zeros-clause-refused g c =
    wants_fewer _ _ _ _ (omega (arith, number_grew c.args.out.now.items c.put_number.new.out.items 1 _ c.in_ok-put_number.ensures.put, grew c.put_number.new.out.items c.put_slice.new.out.items _ c.in_ok-put_slice.ensures.put, grew c.put_slice.new.out.items c.put_slice-2.new.out.items _ c.in_ok-put_slice-2.ensures.put)) c.in_err-put_zeros.ensures.refused
