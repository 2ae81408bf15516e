use Rattle.std.proofs.Common.{◌≡◌, ◌∙◌, ap, Some, Ok, Err}
use Rattle.std.proofs.lemmas.Result.{err_from_is_err_and}
use Rattle.std.proofs.KnownBytes.{Keeps-refl}
use Rattle.dl_emit.specs.declared.fault.EmitFault.{EmitFault}
use Rattle.dl_emit.specs.declared.fault.EmitFault.TheVariants as fault
use Rattle.dl_emit.proofs.UnitLemmas.{refused_first, header_failed, no_write, program_written}
use Rattle.dl_head.specs.Dialect.{version_5}
use Rattle.dl_emit.proofs.ReadAgain.{unit_is_read_again}
use Rattle.dl_emit.proofs.unit.write_unit.Goals as goal

pub returns-in_err-program_len-clause-written : goal.returns-in_err-program_len-clause-written
returns-in_err-program_len-clause-written g c =
    let told = rw c.params.ensures.value at c.in_err-program_len.ensures.err in
    let p = err_from_is_err_and c.from_residual.result c.from_residual.ensures.1 in
    rw (p.1, p.2) (refused_first c.args.header.now c.args.rows.now c.args.order _ _ c.in_err-program_len.field-0.0 told
    (Keeps-refl _))

pub returns-in_err-out-clause-written : goal.returns-in_err-out-clause-written
returns-in_err-out-clause-written g c =
    let told = rw c.params.ensures.value at c.in_ok-program_len.ensures in
    let p = err_from_is_err_and c.from_residual-in_err-out.result c.from_residual-in_err-out.ensures.1 in
    rw (p.1, p.2) (header_failed c.args.header.now c.args.rows.now c.args.order _ _ c.in_ok-program_len.program_len
    c.in_err-out.field-0.0 told.ok told.len c.in_err-out.ensures.written)

pub returns-in_err-write_program-clause-written : goal.returns-in_err-write_program-clause-written
returns-in_err-write_program-clause-written g c =
    let told = rw c.params.ensures.value at c.in_ok-program_len.ensures in
    let written = rw c.params-2.ensures.value at c.in_err-write_program.ensures.written in
    let p = err_from_is_err_and c.from_residual-in_err-write_program.result
    c.from_residual-in_err-write_program.ensures.1 in
    rw (p.1, p.2) (program_written c.args.header.now c.args.rows.now c.args.order _ _ c.in_ok-program_len.program_len
    c.in_ok-out.out _ (Err c.in_err-write_program.field-0.0) told.ok told.len c.in_ok-out.ensures.written written)

pub returns-clause-written : goal.returns-clause-written
returns-clause-written g c =
    let told = rw c.params.ensures.value at c.in_ok-program_len.ensures in
    let written = rw c.params-2.ensures.value at c.in_ok-write_program.ensures.written in
    program_written c.args.header.now c.args.rows.now c.args.order _ _ c.in_ok-program_len.program_len c.in_ok-out.out _
    (Ok c.in_ok-write_program.field-0) told.ok told.len c.in_ok-out.ensures.written written

pub returns-clause-readable : goal.returns-clause-readable
returns-clause-readable g c =
    let told = rw c.params.ensures.value at c.in_ok-program_len.ensures in
    let written = rw c.params-2.ensures.value at c.in_ok-write_program.ensures.written in
    let out =
    program_written c.args.header.now c.args.rows.now c.args.order _ _ c.in_ok-program_len.program_len
    c.in_ok-out.out _ (Ok c.in_ok-write_program.field-0) told.ok told.len c.in_ok-out.ensures.written written in
    unit_is_read_again (version_5 c.args.order) c.args.header.now c.args.rows.now c.params.ensures.sound told.rows out.0

pub returns-in_err-program_len-clause-blames : goal.returns-in_err-program_len-clause-blames
returns-in_err-program_len-clause-blames g c out is =
    let told = rw c.params.ensures.value at c.in_err-program_len.ensures.err in
    let p = err_from_is_err_and c.from_residual.result c.from_residual.ensures.1 in
    let e = rw (p.1, p.2) at is in
    let same : c.in_err-program_len.field-0.0 ≡ fault.Write out = cc in
    absurd (no_write c.args.header.now.params out c.args.rows.now (told ∙ ap (λ (f : EmitFault). Some f) same))
