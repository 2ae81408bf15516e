use Rattle.std.proofs.Common.{◌≡◌, ◌++◌, take}
use Rattle.dl_pack.specs.Shown.{files_of}
use Rattle.dl_pack.specs.Tables.{file_table}
use Rattle.dl_pack.specs.Mentioned.{order_of}
use Rattle.dl_pack.proofs.tables.put_file_table.Given as goal

abbrev pub invariant-loop-file : goal.invariant-loop-file
invariant-loop-file g l =
    l.out.items ≡ l.fn.out.items
    ++ file_table (files_of l.names) (take l.file-index (order_of l.files)) (order_of l.texts)
