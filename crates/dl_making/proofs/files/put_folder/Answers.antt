use Rattle.std.proofs.Common.{◌+◌, arith, ap, length, length-append}
use Rattle.dl_memory.proofs.RefusalLemmas.{wants_list}
use Rattle.dl_making.proofs.FewLemmas.{slash_few}
use Rattle.dl_making.proofs.files.put_folder.Goals as goal

pub returns-in_err-extend_from_slice-clause-refused : goal.returns-in_err-extend_from_slice-clause-refused
returns-in_err-extend_from_slice-clause-refused g c =
    wants_list _ _ (length c.args.text.now.items + length c.args.directory.now) _ (omega arith)
    c.in_err-extend_from_slice.ensures.refused

pub returns-in_err-extend_from_slice-2-clause-refused : goal.returns-in_err-extend_from_slice-2-clause-refused
returns-in_err-extend_from_slice-2-clause-refused g c =
    wants_list _ _ (length c.extend_from_slice.new.list.items + length c.slash_after.result.now) _ (omega (
      arith,
      ap length c.in_ok-extend_from_slice.ensures.items,
      length-append c.args.text.now.items c.args.directory.now,
      ap length c.slash_after.ensures,
      slash_few c.args.directory.now,
    )) c.in_err-extend_from_slice-2.ensures.refused
