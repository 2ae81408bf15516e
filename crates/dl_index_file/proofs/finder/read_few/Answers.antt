use Rattle.std.proofs.Common.{ℕ, ◌+◌, ◌*◌, ◌≤◌, sym, arith, subst}
use Rattle.std.proofs.lemmas.List.{length-replicate}
use Rattle.dl_index_file.proofs.FinderLemmas.{few_held}
use Rattle.dl_index_file.proofs.RangeLemmas.{filled_is}
use Rattle.dl_index_file.proofs.finder.read_few.Goals as goal

pub returns-clause-holds : goal.returns-clause-holds
returns-clause-holds g c f is short =
    let index = c.args.index.now in
    let st = index.stands f is short in
    let few = c.args.few in
    let fits = c.requires.fits in
    let size = c.size-size.ensures in
    let small : few.count * c.size-size.result ≤ 4096 = subst (λ n. few.count * n ≤ 4096) (sym size) fits in
    let offset = index.places.starts.offset in
    few_held st _ few.first few.count c.size-size.result size c.requires.within index.kept.places.starts.size
    (filled_is f _ _ _ (few.count * c.size-size.result) (offset + few.first * c.size-size.result)
    (omega (arith, length-replicate {A = ℕ} 4096 0)) c.fill_all.auto.buffer (c.in_ok-fill_all.ensures.bytes f is short))
