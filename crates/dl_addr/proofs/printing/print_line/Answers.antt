use Rattle.std.proofs.Common.{[], ◌∷◌, ◌++◌}
use Rattle.std.specs.Prelude.{option_map}
use Rattle.std.proofs.lemmas.Result.{err_from_is_err_and}
use Rattle.std.specs.Option.{option_copied}
use Rattle.dl_addr.specs.Answers.{answer_seen}
use Rattle.dl_addr.specs.Locations.{asked_text}
use Rattle.dl_addr.specs.Printing.{seen_text}
use Rattle.dl_path.proofs.PrintLemmas.{loses_front, loses_then}
use Rattle.dl_addr.proofs.printing.print_line.Goals as goal

pub returns-in_err-print_asked-clause-printed : goal.returns-in_err-print_asked-clause-printed
returns-in_err-print_asked-clause-printed g c start text h =
    let p = err_from_is_err_and c.from_residual.result c.from_residual.ensures.1 in
    let a = asked_text c.args.style.form (option_copied c.args.style.section) c.args.asked in
    let b = seen_text c.args.style.form (option_map answer_seen c.args.answer) in
    let old = g.W.Write.contents c.args.output.now in
    let new = g.W.Write.contents c.print_asked.new.output in
    rw (
      p.1,
      p.2,
    ) (loses_front old new c.args.printer.now (a ++ b) (10 ∷ []) _
    (loses_front old new c.args.printer.now a b _ c.in_err-print_asked.ensures.printed) start text h)

pub returns-in_err-print_answer-clause-printed : goal.returns-in_err-print_answer-clause-printed
returns-in_err-print_answer-clause-printed g c start text h =
    let p = err_from_is_err_and c.from_residual-in_err-print_answer.result
    c.from_residual-in_err-print_answer.ensures.1 in
    let a = asked_text c.args.style.form (option_copied c.args.style.section) c.args.asked in
    let b = seen_text c.args.style.form (option_map answer_seen c.args.answer) in
    let old = g.W.Write.contents c.args.output.now in
    let mid = g.W.Write.contents c.print_asked.new.output in
    let new = g.W.Write.contents c.print_answer.new.output in
    rw (
      p.1,
      p.2,
    ) (loses_front old new c.args.printer.now (a ++ b) (10 ∷ []) _
    (loses_then old mid new c.args.printer.now c.print_asked.new.printer a b _ c.in_ok-print_asked.ensures.printed
    c.in_err-print_answer.ensures.printed) start text h)
