use Rattle.std.proofs.Common.{◌+◌, drop, get_or, take}
use Rattle.std.specs.List.{flat_map}
use Rattle.std.proofs.lemmas.Result.{err_from_is_err_and}
use Rattle.dl_table.proofs.BuildLemmas.{no_pair}
use Rattle.dl_table.proofs.WritingLemmas.{parts_split}
use Rattle.dl_print.specs.HeaderFields.{pair_text}
use Rattle.dl_print.proofs.Outs.{TellsOut-part}
use Rattle.dl_print.proofs.output.Printer.pairs.Goals as goal

pub returns-in_err-pair-clause-printed : goal.returns-in_err-pair-clause-printed
returns-in_err-pair-clause-printed g c = λ start text h.
    let p = err_from_is_err_and c.from_residual.result c.from_residual.ensures.1 in
    let pairs = c.args.pairs.now in
    let i = c.loop-pair.pair-index in
    let tells = c.in_err-pair.ensures.printed start _ (c.loop-pair.invariant start text h) in
    rw (p.1, p.2) (TellsOut-part start _ text (flat_map pair_text (take i pairs)) (pair_text (get_or pairs i no_pair))
    (flat_map pair_text (drop (i + 1) pairs)) (flat_map pair_text pairs) _
    (parts_split pair_text pairs i no_pair c.loop-pair-test.true) tells)
