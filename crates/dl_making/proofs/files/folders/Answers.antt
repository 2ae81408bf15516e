use Rattle.std.proofs.Common.{arith, ap, length, length-append, [], ◌++◌}
use Rattle.dl_memory.proofs.RefusalLemmas.{wants_fewer}
use Rattle.dl_path.specs.PathTexts.{folder}
use Rattle.dl_making.proofs.FewLemmas.{folder_few}
use Rattle.dl_making.proofs.files.folders.Goals as goal

pub returns-in_err-put_folder-clause-refused : goal.returns-in_err-put_folder-clause-refused
returns-in_err-put_folder-clause-refused g c =
    wants_fewer _ _ _ _ (omega (arith, ap length c.new-text.ensures.items)) c.in_err-put_folder.ensures.refused

pub returns-in_err-put_folder-2-clause-refused : goal.returns-in_err-put_folder-2-clause-refused
returns-in_err-put_folder-2-clause-refused g c =
    wants_fewer _ _ _ _ (omega (
      arith,
      ap length c.new-text.ensures.items,
      ap length c.in_ok-put_folder.ensures.put,
      length-append c.new-text.result.items (folder c.args.first.now),
      folder_few c.args.first.now,
    )) c.in_err-put_folder-2.ensures.refused
