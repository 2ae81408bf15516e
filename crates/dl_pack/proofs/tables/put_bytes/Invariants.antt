use Rattle.std.proofs.Common.{◌≡◌, ◌++◌, take}
use Rattle.std.specs.List.{concat}
use Rattle.dl_pack.specs.Shown.{texts_of}
use Rattle.dl_pack.specs.Tables.{texts_at}
use Rattle.dl_pack.specs.Mentioned.{order_of}
use Rattle.dl_pack.proofs.tables.put_bytes.Given as goal

abbrev pub invariant-loop-text : goal.invariant-loop-text
invariant-loop-text g l =
    l.out.items ≡ l.fn.out.items ++ concat (texts_at (texts_of l.names) (take l.text-index (order_of l.texts)))
