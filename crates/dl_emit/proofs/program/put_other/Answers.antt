use Rattle.std.proofs.Common.{ap, ◌∙◌}
use Rattle.dl_emit.specs.Program.{line_advance, marks, placed, settings}
use Rattle.dl_emit.proofs.PutLemmas.{line_kept, put_three}
use Rattle.dl_emit.proofs.program.put_other.Goals as goal

pub returns-clause-put : goal.returns-clause-put
returns-clause-put c =
    let row = c.args.row.now in
    let h = c.args.params.now in
    put_three c.args.order h (settings c.args.before.now row) (marks row) _ _ _ _ _ _ c.put_settings-at.ensures.put
    c.put_marks-at.ensures.put c.put_placed.ensures.put
    (ap (λ l. placed h row l c.advance-advance.result) (line_kept _ _ c.line_advance-line.result c.line_advance-line.ensures)
    ∙ ap (λ by. placed h row (line_advance c.args.before.now.line row.line) by) c.advance-advance.ensures)
