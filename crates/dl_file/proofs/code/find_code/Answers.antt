use Rattle.std.proofs.Common.{sym}
use Rattle.std.proofs.lemmas.Result.{err_from_is_err_and}
use Rattle.dl_memory.specs.Refusals.{IsRefused}
use Rattle.dl_file.specs.Code.{RangesRefused}
use Rattle.dl_file.proofs.CodeLemmas.{code_refused}
use Rattle.dl_file.proofs.code.find_code.Goals as goal

pub returns-in_err-ranges-clause-most : goal.returns-in_err-ranges-clause-most
returns-in_err-ranges-clause-most g c = λ f is short.
    let p = err_from_is_err_and c.from_residual-in_err-ranges.result c.from_residual-in_err-ranges.ensures.1 in
    let refuses = g.M.Memory.refuses c.args.memory.now in
    let e = c.in_ok-elf.elf in
    rw (p.1, p.2) (code_refused (IsRefused refuses e.count) (RangesRefused refuses f) c.in_err-ranges.field-0.0
    (λ refused. (e, sym (c.in_ok-elf.ensures.answer f is short), refused)) c.in_err-ranges.ensures.most)
