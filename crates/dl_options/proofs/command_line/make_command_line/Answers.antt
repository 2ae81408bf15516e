use Rattle.std.proofs.Common.{Result, Ok, Err}
use Rattle.std.specs.Prelude.{OnErr}
use Rattle.dl_options.proofs.command_line.make_command_line.Goals as goal

on_error : {T E P : Type 0} (r : Result T E) → P → OnErr r P
on_error (Ok x) p = tt
on_error (Err e) p = p

pub returns-in_err-line-8-clause-refused : goal.returns-in_err-line-8-clause-refused
returns-in_err-line-8-clause-refused c =
    on_error c.from_residual-in_err-line-8.result (c.in_err-line-8.ensures.refused c.lines.ensures.refused)

pub returns-clause-app : goal.returns-clause-app
returns-clause-app c =
    let one = c.in_ok-line.ensures.app _ _ c.program.ensures c.addr.ensures.app in
    let two = c.in_ok-line-2.ensures.app _ _ one c.index.ensures.app in
    let three = c.in_ok-line-3.ensures.app _ _ two c.dump.ensures.app in
    let four = c.in_ok-line-4.ensures.app _ _ three c.check.ensures.app in
    let five = c.in_ok-line-5.ensures.app _ _ four c.find.ensures.app in
    let six = c.in_ok-line-6.ensures.app _ _ five c.copy.ensures.app in
    let seven = c.in_ok-line-7.ensures.app _ _ six c.sources.ensures.app in
    let eight = c.in_ok-line-8.ensures.app _ _ seven c.lines.ensures.app in
    c.with_command-9.ensures.app _ _ eight c.lint.ensures.app
