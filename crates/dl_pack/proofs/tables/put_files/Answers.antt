use Rattle.std.proofs.Common.{arith}
use Rattle.dl_memory.proofs.RefusalLemmas.{wants_fewer}
use Rattle.dl_pack.specs.Mentioned.{order_of}
use Rattle.dl_pack.specs.Shown.{files_of}
use Rattle.dl_pack.proofs.GrowthLemmas.{files_len, grew}
use Rattle.dl_pack.proofs.tables.put_files.Goals as goal

pub returns-in_err-put_file_table-clause-refused : goal.returns-in_err-put_file_table-clause-refused
returns-in_err-put_file_table-clause-refused g c =
    wants_fewer _ _ _ _ (omega arith) c.in_err-put_file_table.ensures.refused

pub returns-in_err-pad-clause-refused : goal.returns-in_err-pad-clause-refused
returns-in_err-pad-clause-refused g c =
    wants_fewer _ _ _ _ (omega (
      arith,
      grew c.args.out.now.items c.put_file_table.new.out.items _ c.in_ok-put_file_table.ensures.put,
      files_len (files_of c.args.names.now) (order_of c.args.files.now) (order_of c.args.texts.now),
    )) c.in_err-pad.ensures.refused
