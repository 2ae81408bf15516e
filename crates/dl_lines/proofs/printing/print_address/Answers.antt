use Rattle.std.proofs.Common.{◌++◌, codes}
use Rattle.dl_print.specs.Digits.{hexadecimal_of}
use Rattle.std.proofs.lemmas.Result.{err_from_is_err_and}
use Rattle.dl_path.proofs.PrintLemmas.{loses_front}
use Rattle.dl_lines.proofs.printing.print_address.Goals as goal

pub returns-in_err-address-clause-printed : goal.returns-in_err-address-clause-printed
returns-in_err-address-clause-printed g c start text h =
    let p = err_from_is_err_and c.from_residual.result c.from_residual.ensures.1 in
    rw (p.1, p.2) (loses_front (g.W.Write.contents c.args.output.now) (g.W.Write.contents c.address.new.output) c.args.printer.now
    (codes "0x" ++ hexadecimal_of 16 c.args.address) (codes " ") _ c.in_err-address.ensures.printed start text h)
