use Rattle.std.proofs.Common.{◌+◌, ◌<◌, ◌++◌, length, take, drop, get_or, arith}
use Rattle.std.proofs.lemmas.Result.{err_from_is_err_and}
use Rattle.std.specs.Prelude.{ℕ}
use Rattle.dl_table.specs.declared.table.Pair.{Pair}
use Rattle.dl_table.proofs.BuildLemmas.{no_pair}
use Rattle.dl_dump_json.specs.Fields.{pair_object}
use Rattle.dl_print.proofs.Outs.{PrintsMore-then, TellsOut-part}
use Rattle.dl_dump_json.specs.Members.{comma_before, elements}
use Rattle.dl_dump_json.proofs.ArrayLemmas.{elements_more, elements_split}
use Rattle.dl_dump_json.proofs.array.print_pairs.Goals as goal

pub returns-in_err-print_one_pair-clause-printed : goal.returns-in_err-print_one_pair-clause-printed
returns-in_err-print_one_pair-clause-printed g c start text h =
    let p = err_from_is_err_and c.from_residual.result c.from_residual.ensures.1 in
    let xs = c.args.pairs.now in
    let i = c.loop-place.place in
    let turn : i < length xs = omega (arith, c.loop-place-test.true) in
    let told = λ (place : ℕ) (p : Pair). pair_object p in
    rw (p.1, p.2) (TellsOut-part start _ text (elements told 0 (take i xs)) (comma_before i ++ told i (get_or xs i no_pair))
    (elements told (0 + length (take (i + 1) xs)) (drop (i + 1) xs)) (elements told 0 xs) _
    (elements_split told xs i no_pair turn)
    (c.in_err-print_one_pair.ensures.printed start _ (c.loop-place.invariant start text h)))

pub loop-place-preserved : goal.loop-place-preserved
loop-place-preserved g c =
    let xs = c.args.pairs.now in
    let i = c.loop-place.place in
    let turn : i < length xs = omega (arith, c.loop-place-test.true) in
    let told = λ (place : ℕ) (p : Pair). pair_object p in
    PrintsMore-then _ _ _ _ _ _ (elements told 0 (take i xs)) (comma_before i ++ told i (get_or xs i no_pair))
    (elements told 0 (take (i + 1) xs)) (elements_more told xs i no_pair turn) c.loop-place.invariant
    c.in_ok-print_one_pair.ensures.printed
