use Rattle.std.proofs.Common.{◌++◌, sym}
use Rattle.std.specs.Prelude.{flat_map}
use Rattle.std.proofs.lemmas.Result.{err_from_is_err_and}
use Rattle.dl_index.specs.Shown.{text_told, texts_told}
use Rattle.dl_path.specs.Shown.{shown}
use Rattle.dl_path.proofs.PrintLemmas.{loses_front, loses_same, loses_then}
use Rattle.dl_listing.proofs.TextLemmas.{texts_apart}
use Rattle.dl_listing.proofs.line.print_texts.Goals as goal

pub returns-in_err-print_text-clause-printed : goal.returns-in_err-print_text-clause-printed
returns-in_err-print_text-clause-printed g c start text h =
    let p = err_from_is_err_and c.from_residual.result c.from_residual.ensures.1 in
    let t = c.args.texts in
    let one = flat_map shown (text_told t.first) in
    let two = flat_map shown (text_told t.second) in
    let three = flat_map shown (text_told t.third) in
    let old = g.W.Write.contents c.args.output.now in
    let new = g.W.Write.contents c.print_text.new.output in
    let before = c.args.printer.now in
    rw (p.1, p.2) (loses_same old new before (one ++ two ++ three) (flat_map shown (texts_told t)) _
    (sym (texts_apart (text_told t.first) (text_told t.second) (text_told t.third)))
    (loses_front old new before (one ++ two) three _ (loses_front old new before one two _
    c.in_err-print_text.ensures.printed)) start text h)

pub returns-in_err-print_text-2-clause-printed : goal.returns-in_err-print_text-2-clause-printed
returns-in_err-print_text-2-clause-printed g c start text h =
    let p = err_from_is_err_and c.from_residual-in_err-print_text-2.result
    c.from_residual-in_err-print_text-2.ensures.1 in
    let t = c.args.texts in
    let one = flat_map shown (text_told t.first) in
    let two = flat_map shown (text_told t.second) in
    let three = flat_map shown (text_told t.third) in
    let old = g.W.Write.contents c.args.output.now in
    let mid = g.W.Write.contents c.print_text.new.output in
    let new = g.W.Write.contents c.print_text-2.new.output in
    let before = c.args.printer.now in
    rw (p.1, p.2) (loses_same old new before (one ++ two ++ three) (flat_map shown (texts_told t)) _
    (sym (texts_apart (text_told t.first) (text_told t.second) (text_told t.third)))
    (loses_front old new before (one ++ two) three _ (loses_then old mid new before c.print_text.new.printer one two _
    c.in_ok-print_text.ensures.printed c.in_err-print_text-2.ensures.printed)) start text h)
