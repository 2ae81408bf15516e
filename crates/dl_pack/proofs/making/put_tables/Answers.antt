use Rattle.std.proofs.Common.{arith}
use Rattle.dl_memory.proofs.RefusalLemmas.{wants_fewer}
use Rattle.dl_pack.specs.Mentioned.{order_of}
use Rattle.dl_pack.specs.Shown.{files_of, texts_of}
use Rattle.dl_pack.specs.Tables.{file_table, texts_at}
use Rattle.dl_pack.proofs.GrowthLemmas.{files_len, grew, padded_len}
use Rattle.dl_pack.proofs.TextLemmas.{texts_len}
use Rattle.dl_pack.proofs.making.put_tables.Goals as goal

pub returns-in_err-put_files-clause-refused : goal.returns-in_err-put_files-clause-refused
returns-in_err-put_files-clause-refused g c = wants_fewer _ _ _ _ (omega arith) c.in_err-put_files.ensures.refused

pub returns-in_err-total-clause-refused : goal.returns-in_err-total-clause-refused
returns-in_err-total-clause-refused g c =
    let files = file_table (files_of c.args.names.now) (order_of c.args.files.now) (order_of c.args.texts.now) in
    wants_fewer _ _ _ _ (omega (
      arith,
      grew c.args.bytes.now.items c.put_files.new.out.items _ c.in_ok-put_files.ensures.put,
      padded_len files,
      files_len (files_of c.args.names.now) (order_of c.args.files.now) (order_of c.args.texts.now),
    )) c.in_err-total.ensures.refused

pub returns-in_err-put_texts-clause-refused : goal.returns-in_err-put_texts-clause-refused
returns-in_err-put_texts-clause-refused g c =
    let files = file_table (files_of c.args.names.now) (order_of c.args.files.now) (order_of c.args.texts.now) in
    wants_fewer _ _ _ _ (omega (
      arith,
      grew c.args.bytes.now.items c.put_files.new.out.items _ c.in_ok-put_files.ensures.put,
      padded_len files,
      files_len (files_of c.args.names.now) (order_of c.args.files.now) (order_of c.args.texts.now),
      c.in_ok-total.ensures.longer,
      texts_len (texts_at (texts_of c.args.names.now) (order_of c.args.texts.now)),
    )) c.in_err-put_texts.ensures.refused
