use Rattle.std.proofs.Common.{◌+◌, ◌<◌, ◌++◌, length, take, drop, get_or, arith}
use Rattle.std.proofs.lemmas.Result.{err_from_is_err_and}
use Rattle.std.specs.Prelude.{ℕ, decimal}
use Rattle.dl_print.proofs.Outs.{PrintsMore-then, TellsOut-part}
use Rattle.dl_dump_json.specs.Members.{comma_before, elements}
use Rattle.dl_dump_json.proofs.ArrayLemmas.{elements_more, elements_split}
use Rattle.dl_dump_json.proofs.array.print_each_byte.Goals as goal

pub returns-in_err-print_one_byte-clause-printed : goal.returns-in_err-print_one_byte-clause-printed
returns-in_err-print_one_byte-clause-printed g c start text h =
    let p = err_from_is_err_and c.from_residual.result c.from_residual.ensures.1 in
    let xs = c.args.bytes.now in
    let i = c.loop-place.place in
    let turn : i < length xs = omega (arith, c.loop-place-test.true) in
    let told = λ (place n : ℕ). decimal n in
    rw (p.1, p.2) (TellsOut-part start _ text (elements told 0 (take i xs)) (comma_before i ++ told i (get_or xs i 0))
    (elements told (0 + length (take (i + 1) xs)) (drop (i + 1) xs)) (elements told 0 xs) _
    (elements_split told xs i 0 turn)
    (c.in_err-print_one_byte.ensures.printed start _ (c.loop-place.invariant start text h)))

pub loop-place-preserved : goal.loop-place-preserved
loop-place-preserved g c =
    let xs = c.args.bytes.now in
    let i = c.loop-place.place in
    let turn : i < length xs = omega (arith, c.loop-place-test.true) in
    let told = λ (place n : ℕ). decimal n in
    PrintsMore-then _ _ _ _ _ _ (elements told 0 (take i xs)) (comma_before i ++ told i (get_or xs i 0))
    (elements told 0 (take (i + 1) xs)) (elements_more told xs i 0 turn) c.loop-place.invariant
    c.in_ok-print_one_byte.ensures.printed
