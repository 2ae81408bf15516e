use Rattle.std.proofs.Common.{◌+◌, drop, get_or, take}
use Rattle.std.specs.List.{flat_map}
use Rattle.std.proofs.lemmas.Result.{err_from_is_err_and}
use Rattle.dl_table.specs.Written.{pair_bytes}
use Rattle.dl_table.proofs.BuildLemmas.{no_pair}
use Rattle.dl_table.proofs.WritingLemmas.{TellsOut-piece, parts_split}
use Rattle.dl_table.proofs.table.writing.put_pairs.Goals as goal

pub returns-in_err-out-clause-written : goal.returns-in_err-out-clause-written
returns-in_err-out-clause-written g c = λ start text h.
    let pairs = c.args.pairs.now in
    let i = c.loop-pair.pair-index in
    let p = err_from_is_err_and c.from_residual.result c.from_residual.ensures.1 in
    let tells = c.in_err-out.ensures.written start _ (c.loop-pair.invariant start text h) in
    rw (p.1, p.2) (TellsOut-piece start _ text (flat_map pair_bytes (take i pairs))
    (pair_bytes (get_or pairs i no_pair)) (flat_map pair_bytes (drop (i + 1) pairs)) (flat_map pair_bytes pairs) _
    (parts_split pair_bytes pairs i no_pair c.loop-pair-test.true) tells)
