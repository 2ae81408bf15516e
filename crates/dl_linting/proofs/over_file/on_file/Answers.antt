use Rattle.std.proofs.Common.{inl, inr, refl}
use Rattle.std.proofs.KnownBytes.{Keeps-refl}
use Rattle.std.proofs.lemmas.Result.{err_from_is_err_and}
use Rattle.dl_program.proofs.BlameLemmas.{of_file_blamed}
use Rattle.dl_linting.proofs.over_file.on_file.Goals as goal

pub returns-clause-ran : goal.returns-clause-ran
returns-clause-ran g c untold f known short =
    let opened = c.in_ok-table.ensures.opens f known short in
    inr (opened.0, opened.1, c.on_table.ensures.ran c.args.file.now opened.0 opened.2 untold)

pub returns-in_err-table-clause-ran : goal.returns-in_err-table-clause-ran
returns-in_err-table-clause-ran g c untold f known short =
    let e = err_from_is_err_and c.from_residual.result c.from_residual.ensures.1 in
    rw (e.1, e.2) (inl (_, refl, c.in_err-table.ensures.opens f known short, Keeps-refl _, untold))

pub returns-in_err-table-clause-blames : goal.returns-in_err-table-clause-blames
returns-in_err-table-clause-blames g c untold =
    let e = err_from_is_err_and c.from_residual.result c.from_residual.ensures.1 in
    rw (e.1, e.2) (of_file_blamed g.W.Destination.fails _ c.in_err-table.ensures.blames)
