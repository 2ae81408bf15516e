use Rattle.std.proofs.Common.{codes, sym, subst}
use Rattle.std.proofs.lemmas.Result.{err_from_is_err_and}
use Rattle.dl_print.specs.Output.{Prints}
use Rattle.dl_addr.specs.declared.style.AnswerForm.{AnswerForm}
use Rattle.dl_addr.specs.declared.style.AnswerForm.TheVariants.{Json}
use Rattle.dl_addr.specs.Answers.{answer_seen}
use Rattle.dl_addr.specs.Json.{json_row}
use Rattle.dl_addr.specs.Locations.{row_text}
use Rattle.dl_addr.specs.Printing.{named_text}
use Rattle.dl_addr.specs.Texts.{path_kept}
use Rattle.dl_path.proofs.PrintLemmas.{loses_front, prints_then}
use Rattle.dl_addr.proofs.printing.print_row.Goals as goal

pub returns-in_err-print_json_row-in-Json-clause-printed : goal.returns-in_err-print_json_row-in-Json-clause-printed
returns-in_err-print_json_row-in-Json-clause-printed g c =
    let p = err_from_is_err_and c.from_residual.result c.from_residual.ensures.1 in
    let path = path_kept c.args.answer.now.path in
    let seen = answer_seen c.args.answer.now in
    let old = g.W.Write.contents c.args.output.now in
    let new = g.W.Write.contents c.print_json_row.new.output in
    subst (λ (f : AnswerForm). Prints old new c.args.printer.now c.print_json_row.new.printer
    (row_text f (named_text f path) seen) c.from_residual.result) (sym c.in-Json.is)
    (λ start text h. rw (p.1, p.2) (loses_front old new c.args.printer.now (json_row (named_text Json path) seen)
    (codes "}") _ c.in_err-print_json_row-in-Json.ensures.printed start text h))

pub returns-in_ok-print_json_row-in-Json-clause-printed : goal.returns-in_ok-print_json_row-in-Json-clause-printed
returns-in_ok-print_json_row-in-Json-clause-printed g c =
    let path = path_kept c.args.answer.now.path in
    let seen = answer_seen c.args.answer.now in
    let old = g.W.Write.contents c.args.output.now in
    let mid = g.W.Write.contents c.print_json_row.new.output in
    let new = g.W.Write.contents c.put.new.output in
    subst (λ (f : AnswerForm). Prints old new c.args.printer.now c.put.new.self
    (row_text f (named_text f path) seen) c.put.result) (sym c.in-Json.is)
    (prints_then old mid new c.args.printer.now c.print_json_row.new.printer c.put.new.self
    (json_row (named_text Json path) seen) (codes "}") c.put.result c.in_ok-print_json_row-in-Json.ensures.printed
    c.put.ensures.printed)
