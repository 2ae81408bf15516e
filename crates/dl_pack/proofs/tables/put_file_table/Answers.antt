use Rattle.std.proofs.Common.{ap, arith, get_or, length, take}
use Rattle.std.proofs.lemmas.List.{length-take}
use Rattle.dl_memory.proofs.RefusalLemmas.{wants_fewer}
use Rattle.dl_pack.specs.Tables.{file_bytes, file_table, no_file}
use Rattle.dl_pack.specs.Shown.{files_of}
use Rattle.dl_pack.specs.Mentioned.{order_of}
use Rattle.dl_pack.proofs.GrowthLemmas.{files_len, grew}
use Rattle.dl_pack.proofs.TableLemmas.{flat_more}
use Rattle.dl_pack.proofs.tables.put_file_table.Goals as goal

pub loop-file-preserved : goal.loop-file-preserved
loop-file-preserved g c =
    flat_more (λ place. file_bytes (order_of c.args.texts.now) (get_or (files_of c.args.names.now) place no_file))
    c.order-file-items.result.now (order_of c.args.files.now) c.loop-file.file-index _ c.args.out.now.items _ _ _
    c.order-file-items.ensures.order c.loop-file-test.true c.loop-file.invariant
    (ap (file_bytes (order_of c.args.texts.now)) c.file_at.ensures.file) c.in_ok-put_file.ensures.put

pub returns-in_err-put_file-clause-refused : goal.returns-in_err-put_file-clause-refused
returns-in_err-put_file-clause-refused g c =
    let files = files_of c.args.names.now in
    let order = order_of c.args.files.now in
    let i = c.loop-file.file-index in
    let so_far = grew c.args.out.now.items c.loop-file.out.items (file_table files (take i order) (order_of c.args.texts.now))
    c.loop-file.invariant in
    wants_fewer _ _ _ _ (omega (
      arith,
      so_far,
      files_len files (take i order) (order_of c.args.texts.now),
      length-take i order,
      c.loop-file-test.true,
      ap length c.order-file-items.ensures.order,
    )) c.in_err-put_file.ensures.refused
