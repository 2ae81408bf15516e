use Rattle.std.proofs.lemmas.Result.{err_from_is_err_and}
use Rattle.dl_path.specs.Paths.{slash_after}
use Rattle.dl_addr.specs.Printing.{inner_text}
use Rattle.dl_path.proofs.PrintLemmas.{loses_front}
use Rattle.dl_addr.proofs.path_text.print_folder.Goals as goal

pub returns-in_err-print_text-clause-printed : goal.returns-in_err-print_text-clause-printed
returns-in_err-print_text-clause-printed g c start text h =
    let p = err_from_is_err_and c.from_residual.result c.from_residual.ensures.1 in
    let directory = c.args.directory.now in
    rw (p.1, p.2) (loses_front (g.W.Write.contents c.args.output.now) (g.W.Write.contents c.print_text.new.output)
    c.args.printer.now (inner_text c.args.form directory) (slash_after directory) _ c.in_err-print_text.ensures.printed start
    text h)
