use Rattle.std.proofs.Common.{[], subst, ◌∙◌}
use Rattle.std.proofs.KnownBytes.{Appends-nil}
use Rattle.std.proofs.lemmas.Result.{err_from_is_err_and}
use Rattle.std.specs.Io.KnownBytes.{Appends}
use Rattle.dl_print.specs.Output.{TellsOut}
use Rattle.dl_print.proofs.Outs.{HasPrinted-nothing, HasPrinted-out}
use Rattle.dl_sources.specs.Reporting.{entries_text}
use Rattle.dl_sources.proofs.ReportLemmas.{sums_is, text_is}
use Rattle.dl_sources.proofs.printing.print_table.Goals as goal

pub returns-in_err-print_paths-clause-printed : goal.returns-in_err-print_paths-clause-printed
returns-in_err-print_paths-clause-printed g c mentions held =
    let p = err_from_is_err_and c.from_residual.result c.from_residual.ensures.1 in
    let old = g.W.Write.contents c.args.output.now in
    let new = g.W.Write.contents c.print_paths.new.output in
    let nothing = HasPrinted-nothing old old c.new-printer.result (Appends-nil old) c.new-printer.ensures.nothing_pending
    c.new-printer.ensures.nothing_out in
    rw (p.1, p.2) (subst (λ l. TellsOut old new l c.in_err-print_paths.field-0.0) (text_is c.args.table.now mentions held c.sums_of-sums.ensures.ordered c.args.question.now)
    (c.in_err-print_paths.ensures.printed old [] nothing))

pub returns-in_err-flush-clause-printed : goal.returns-in_err-flush-clause-printed
returns-in_err-flush-clause-printed g c mentions held =
    let p = err_from_is_err_and c.from_residual-in_err-flush.result c.from_residual-in_err-flush.ensures.1 in
    let old = g.W.Write.contents c.args.output.now in
    let new = g.W.Write.contents c.flush.new.output in
    let q = c.args.question.now in
    let nothing = HasPrinted-nothing old old c.new-printer.result (Appends-nil old) c.new-printer.ensures.nothing_pending
    c.new-printer.ensures.nothing_out in
    rw (p.1, p.2) (subst (λ l. TellsOut old new l c.in_err-flush.field-0.0) (text_is c.args.table.now mentions held c.sums_of-sums.ensures.ordered q)
    (c.in_err-flush.ensures.printed old (entries_text q c.args.table.now.paths.entries)
    (c.in_ok-print_paths.ensures.printed old [] nothing)))

pub returns-clause-printed : goal.returns-clause-printed
returns-clause-printed g c mentions held =
    let old = g.W.Write.contents c.args.output.now in
    let new = g.W.Write.contents c.flush.new.output in
    let q = c.args.question.now in
    let nothing = HasPrinted-nothing old old c.new-printer.result (Appends-nil old) c.new-printer.ensures.nothing_pending
    c.new-printer.ensures.nothing_out in (
      c.sums_of-sums.ensures.sums ∙ sums_is c.args.table.now mentions held c.sums_of-sums.ensures.ordered,
      subst (Appends old new) (text_is c.args.table.now mentions held c.sums_of-sums.ensures.ordered q)
          (HasPrinted-out old new (entries_text q c.args.table.now.paths.entries) c.flush.new.self
          (c.in_ok-flush.ensures.printed old (entries_text q c.args.table.now.paths.entries)
          (c.in_ok-print_paths.ensures.printed old [] nothing)) c.in_ok-flush.ensures.empty),
    )
