use Rattle.std.proofs.Common.{◌∙◌, Bool, sym, ap}
use Rattle.std.specs.Prelude.{not, ◌&&◌, reverse}
use Rattle.dl_lines.specs.Runs.{has_statement}
use Rattle.dl_lines.proofs.RunLemmas.{place_is}
use Rattle.dl_lines.proofs.run.FirstStatements.takes.Goals as goal

pub returns-clause-told : goal.returns-clause-told
returns-clause-told c rows tells =
    let r = c.args.row.now in
    let has = has_statement r.file r.line (reverse rows) in
    ap not (c.has_found-goes_on.ensures ∙ tells r.file r.line)
    ∙ ap (λ (b : Bool). b && not has) (sym (ap not c.if-row.false))
    ∙ ap (λ (b : Bool). b && (not r.end_sequence && not has)) (sym c.if-not-row.false)
    ∙ sym (place_is rows r)
