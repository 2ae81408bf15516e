use Rattle.std.proofs.Common.{◌+◌}
use Rattle.std.specs.BTreeMap.{btree_map_len}
use Rattle.std.proofs.Common.{arith}
use Rattle.dl_addr.proofs.KeepLemmas.{on_ok}
use Rattle.dl_addr.proofs.RoomLemmas.{err_map, few_entries, put_more}
use Rattle.dl_addr.proofs.texts.put.Goals as goal

pub returns-clause-put : goal.returns-clause-put
returns-clause-put g c =
    on_ok c.insert.result c.insert.ensures.updates (λ updates count few.
    put_more c.args.numbers.now c.insert.new.map c.args.key c.args.number count updates few)

pub returns-clause-refused : goal.returns-clause-refused
returns-clause-refused g c =
    let numbers = c.args.numbers.now in
    err_map c.insert.result c.insert.ensures.refused (λ refused count few. (
      btree_map_len numbers + 1,
      omega (arith, few_entries numbers count c.len-count.ensures.ordered few),
      refused,
    ))
