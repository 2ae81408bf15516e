use Rattle.std.proofs.lemmas.Result.{err_from_is_err_and}
use Rattle.dl_path.specs.Paths.{slash_after}
use Rattle.dl_path.specs.Shown.{shown}
use Rattle.dl_path.proofs.PrintLemmas.{loses_front}
use Rattle.dl_dump.proofs.path.print_folder.Goals as goal

pub returns-in_err-print_shown-clause-printed : goal.returns-in_err-print_shown-clause-printed
returns-in_err-print_shown-clause-printed g c start text h =
    let p = err_from_is_err_and c.from_residual.result c.from_residual.ensures.1 in
    rw (p.1, p.2) (loses_front (g.W.Write.contents c.args.output.now) (g.W.Write.contents c.print_shown.new.output)
    c.args.printer.now (shown c.args.directory.now) (slash_after c.args.directory.now) _ c.in_err-print_shown.ensures.printed start text h)
