use Rattle.std.proofs.Common.{None, ap, take, ◌++◌, ◌∙◌}
use Rattle.dl_emit.specs.Program.{settings, marks, placed, start}
use Rattle.dl_emit.specs.WrittenUnit.{operations_bytes}
use Rattle.dl_emit.proofs.PutLemmas.{line_kept, put_three}
use Rattle.dl_emit.proofs.program.put_first.Goals as goal

pub returns-clause-put : goal.returns-clause-put
returns-clause-put c =
    let row = c.args.row.now in
    let h = c.args.params.now in
    put_three c.args.order h (settings (start h) row) (marks row) _ _ _ _ _ _
    (c.put_settings-at.ensures.put
    ∙ ap (λ before. take c.args.at c.args.buffer.now ++ operations_bytes c.args.order h (settings before row)) c.start.ensures)
    c.put_marks-at.ensures.put c.put_placed.ensures.put
    (ap (λ l. placed h row l None) (line_kept 1 _ c.line_advance.result c.line_advance.ensures))
