use Rattle.std.proofs.Common.{codes, append_assoc}
use Rattle.std.proofs.lemmas.Result.{err_from_is_err_and}
use Rattle.dl_print.proofs.Outs.{TellsOut-more}
use Rattle.dl_print.proofs.output.Printer.quoted.Goals as goal

pub returns-in_err-spelled-clause-printed : goal.returns-in_err-spelled-clause-printed
returns-in_err-spelled-clause-printed g c = λ start text h.
    let p = err_from_is_err_and c.from_residual-in_err-spelled.result
    c.from_residual-in_err-spelled.ensures.1 in
    let tells = c.in_err-spelled.ensures.printed start _ (c.in_ok-put.ensures.printed start text h) in
    rw (p.1, p.2) (simp append_assoc at (TellsOut-more start _ _ (codes "\"") _ tells))
