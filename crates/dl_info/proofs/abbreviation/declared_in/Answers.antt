use Rattle.std.proofs.Common.{length}
use Rattle.std.proofs.lemmas.Result.{err_from_is_err_and}
use Rattle.std.proofs.lemmas.Bool.{eq-eqb, ne_eqb}
use Rattle.dl_info.specs.Abbreviations.{declaration, declared_in}
use Rattle.dl_info.proofs.AbbreviationLemmas.{declaration_stops, declarations_go_on, declarations_run_out, declared_here}
use Rattle.dl_info.proofs.abbreviation.declared_in.Goals as goal

pub returns-in_err-declaration-clause-attributes : goal.returns-in_err-declaration-clause-attributes
returns-in_err-declaration-clause-attributes c =
    let b = c.args.table.now in
    let p = err_from_is_err_and c.from_residual.result c.from_residual.ensures.1 in
    rw (p.1, p.2) (declaration_stops (length b) c.loop.counter c.args.code c.loop.rest.now c.in_err-declaration.field-0.0
    (declared_in (length b) c.args.code b) c.loop-test.true c.in_err-declaration.ensures.declaration c.loop.invariant)

pub returns-then-declaration-code-clause-attributes : goal.returns-then-declaration-code-clause-attributes
returns-then-declaration-code-clause-attributes c =
    let b = c.args.table.now in
    declared_here (length b) c.loop.counter c.args.code c.loop.rest.now c.in_ok-declaration.after.now
    (declaration c.in_ok-declaration.declaration) (declared_in (length b) c.args.code b) c.loop-test.true
    c.in_ok-declaration.ensures.declaration
    (eq-eqb c.in_ok-declaration.declaration.code c.args.code c.if-declaration-code.true) c.loop.invariant

pub loop-preserved : goal.loop-preserved
loop-preserved c =
    let b = c.args.table.now in
    declarations_go_on (length b) c.loop.counter c.args.code c.loop.rest.now c.in_ok-declaration.after.now
    (declaration c.in_ok-declaration.declaration) (declared_in (length b) c.args.code b) c.loop-test.true
    c.in_ok-declaration.ensures.declaration
    (ne_eqb c.in_ok-declaration.declaration.code c.args.code c.if-declaration-code.false) c.loop.invariant

pub returns-clause-attributes : goal.returns-clause-attributes
returns-clause-attributes c =
    let b = c.args.table.now in
    declarations_run_out (length b) c.loop.counter c.args.code c.loop.rest.now (declared_in (length b) c.args.code b)
    c.loop-test.false c.loop.invariant
