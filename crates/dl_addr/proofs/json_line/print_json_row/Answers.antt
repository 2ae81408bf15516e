use Rattle.std.proofs.Common.{◌++◌, codes}
use Rattle.std.proofs.lemmas.Result.{err_from_is_err_and}
use Rattle.dl_print.specs.Digits.{hexadecimal}
use Rattle.dl_addr.specs.declared.style.AnswerForm.TheVariants.{Json}
use Rattle.dl_addr.specs.Answers.{answer_seen}
use Rattle.dl_addr.specs.Json.{json_is_stmt, json_position}
use Rattle.dl_addr.specs.Texts.{path_kept}
use Rattle.dl_addr.specs.Printing.{named_text}
use Rattle.dl_path.proofs.PrintLemmas.{loses_front, loses_then}
use Rattle.dl_addr.proofs.json_line.print_json_row.Goals as goal

pub returns-in_err-print_path_member-clause-printed : goal.returns-in_err-print_path_member-clause-printed
returns-in_err-print_path_member-clause-printed g c start text h =
    let p = err_from_is_err_and c.from_residual.result c.from_residual.ensures.1 in
    let answer = c.args.answer.now in
    let path = codes ",\"path\":" ++ named_text Json (path_kept answer.path) in
    let rest = json_is_stmt answer.position.is_stmt ++ ((codes ",\"unit\":\"0x" ++ hexadecimal answer.path.file.now.unit.offset) ++ codes "\"") in
    let old = g.W.Write.contents c.args.output.now in
    let new = g.W.Write.contents c.print_path_member.new.output in
    rw (
      p.1,
      p.2,
    ) (loses_front old new c.args.printer.now (path ++ json_position (answer_seen answer)) rest _
    (loses_front old new c.args.printer.now path (json_position (answer_seen answer)) _ c.in_err-print_path_member.ensures.printed) start text h)

pub returns-in_err-print_position-clause-printed : goal.returns-in_err-print_position-clause-printed
returns-in_err-print_position-clause-printed g c start text h =
    let p = err_from_is_err_and c.from_residual-in_err-print_position.result
    c.from_residual-in_err-print_position.ensures.1 in
    let answer = c.args.answer.now in
    let path = codes ",\"path\":" ++ named_text Json (path_kept answer.path) in
    let rest = json_is_stmt answer.position.is_stmt ++ ((codes ",\"unit\":\"0x" ++ hexadecimal answer.path.file.now.unit.offset) ++ codes "\"") in
    let old = g.W.Write.contents c.args.output.now in
    let mid = g.W.Write.contents c.print_path_member.new.output in
    let new = g.W.Write.contents c.print_position.new.output in
    rw (
      p.1,
      p.2,
    ) (loses_front old new c.args.printer.now (path ++ json_position (answer_seen answer)) rest _
    (loses_then old mid new c.args.printer.now c.print_path_member.new.printer path (json_position (answer_seen answer)) _
    c.in_ok-print_path_member.ensures.printed c.in_err-print_position.ensures.printed) start text h)
