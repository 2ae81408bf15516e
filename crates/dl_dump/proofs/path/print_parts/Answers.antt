use Rattle.std.proofs.Common.{◌++◌, refl, sym}
use Rattle.std.proofs.lemmas.Result.{err_from_is_err_and}
use Rattle.dl_path.specs.Parts.{path_seen}
use Rattle.dl_path.specs.Paths.{slash_after}
use Rattle.dl_path.specs.Shown.{shown}
use Rattle.dl_path.proofs.PathLemmas.{over_parts}
use Rattle.dl_path.proofs.PrintLemmas.{loses_front, loses_same, loses_then, more_then, prints_same, prints_then}
use Rattle.dl_path.proofs.ShownLemmas.{shown_at_slash}
use Rattle.dl_dump.proofs.path.print_parts.Goals as goal

pub returns-in_err-print_folder-clause-printed : goal.returns-in_err-print_folder-clause-printed
returns-in_err-print_folder-clause-printed g c start text h =
    let e = err_from_is_err_and c.from_residual.result c.from_residual.ensures.1 in
    let p = c.args.path in
    let a = shown p.base.now ++ slash_after p.base.now in
    let b = shown p.directory.now ++ slash_after p.directory.now in
    let n = shown p.name.now in
    let old = g.W.Write.contents c.args.output.now in
    let new = g.W.Write.contents c.print_folder.new.output in
    rw (e.1, e.2) (loses_same old new c.args.printer.now ((a ++ b) ++ n) (shown (path_seen p)) _
    (sym (over_parts shown refl shown_at_slash p.base.now p.directory.now p.name.now))
    (loses_front old new c.args.printer.now (a ++ b) n _
    (loses_front old new c.args.printer.now a b _ c.in_err-print_folder.ensures.printed)) start text h)

pub returns-in_err-print_folder-2-clause-printed : goal.returns-in_err-print_folder-2-clause-printed
returns-in_err-print_folder-2-clause-printed g c start text h =
    let e = err_from_is_err_and c.from_residual-in_err-print_folder-2.result
    c.from_residual-in_err-print_folder-2.ensures.1 in
    let p = c.args.path in
    let a = shown p.base.now ++ slash_after p.base.now in
    let b = shown p.directory.now ++ slash_after p.directory.now in
    let n = shown p.name.now in
    let old = g.W.Write.contents c.args.output.now in
    let mid = g.W.Write.contents c.print_folder.new.output in
    let new = g.W.Write.contents c.print_folder-2.new.output in
    rw (e.1, e.2) (loses_same old new c.args.printer.now ((a ++ b) ++ n) (shown (path_seen p)) _
    (sym (over_parts shown refl shown_at_slash p.base.now p.directory.now p.name.now))
    (loses_front old new c.args.printer.now (a ++ b) n _
    (loses_then old mid new c.args.printer.now c.print_folder.new.printer a b _ c.in_ok-print_folder.ensures.printed
    c.in_err-print_folder-2.ensures.printed)) start text h)

pub returns-clause-printed : goal.returns-clause-printed
returns-clause-printed g c =
    let p = c.args.path in
    let a = shown p.base.now ++ slash_after p.base.now in
    let b = shown p.directory.now ++ slash_after p.directory.now in
    let n = shown p.name.now in
    let old = g.W.Write.contents c.args.output.now in
    let mid = g.W.Write.contents c.print_folder.new.output in
    let between = g.W.Write.contents c.print_folder-2.new.output in
    let new = g.W.Write.contents c.print_shown.new.output in
    prints_same old new c.args.printer.now c.print_shown.new.printer ((a ++ b) ++ n) (shown (path_seen p))
    c.print_shown.result (sym (over_parts shown refl shown_at_slash p.base.now p.directory.now p.name.now))
    (prints_then old between new c.args.printer.now c.print_folder-2.new.printer c.print_shown.new.printer (a ++ b) n
    c.print_shown.result
    (more_then old mid between c.args.printer.now c.print_folder.new.printer c.print_folder-2.new.printer a b
    c.in_ok-print_folder.ensures.printed c.in_ok-print_folder-2.ensures.printed) c.print_shown.ensures.printed)
