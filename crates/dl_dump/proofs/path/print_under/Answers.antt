use Rattle.std.proofs.Common.{◌++◌, refl, sym}
use Rattle.std.proofs.lemmas.Result.{err_from_is_err_and}
use Rattle.dl_path.specs.Parts.{path_seen}
use Rattle.dl_path.specs.Paths.{slash_after, under}
use Rattle.dl_path.specs.Shown.{shown}
use Rattle.dl_path.proofs.PathLemmas.{apart}
use Rattle.dl_path.proofs.PrintLemmas.{loses_front, loses_same, prints_same, prints_then}
use Rattle.dl_path.proofs.ShownLemmas.{shown_at_slash}
use Rattle.dl_dump.proofs.path.print_under.Goals as goal

pub returns-in_err-print_folder-clause-printed : goal.returns-in_err-print_folder-clause-printed
returns-in_err-print_folder-clause-printed g c start text h =
    let e = err_from_is_err_and c.from_residual.result c.from_residual.ensures.1 in
    let directory = c.args.directory.now in
    let path = path_seen c.args.path in
    let folder = shown directory ++ slash_after directory in
    let old = g.W.Write.contents c.args.output.now in
    let new = g.W.Write.contents c.print_folder.new.output in
    rw (e.1, e.2) (loses_same old new c.args.printer.now (folder ++ shown path) (shown (under directory path)) _
    (sym (apart shown refl shown_at_slash directory path))
    (loses_front old new c.args.printer.now folder (shown path) _ c.in_err-print_folder.ensures.printed) start text h)

pub returns-clause-printed : goal.returns-clause-printed
returns-clause-printed g c =
    let directory = c.args.directory.now in
    let path = path_seen c.args.path in
    let folder = shown directory ++ slash_after directory in
    let old = g.W.Write.contents c.args.output.now in
    let mid = g.W.Write.contents c.print_folder.new.output in
    let new = g.W.Write.contents c.print_parts.new.output in
    prints_same old new c.args.printer.now c.print_parts.new.printer (folder ++ shown path) (shown (under directory path))
    c.print_parts.result (sym (apart shown refl shown_at_slash directory path))
    (prints_then old mid new c.args.printer.now c.print_folder.new.printer c.print_parts.new.printer folder (shown path)
    c.print_parts.result c.in_ok-print_folder.ensures.printed c.print_parts.ensures.printed)
