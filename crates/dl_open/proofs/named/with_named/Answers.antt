use Rattle.std.proofs.Common.{false, true, ap₂, ◌∙◌}
use Rattle.dl_open.specs.Tables.{class_dialect}
use Rattle.dl_open.proofs.NamedLemmas.{anew, answered, as_opened, held_answer, not_told}
use Rattle.dl_open.proofs.named.with_named.Goals.{in-Ok-true, in-Ok-false, in-Err}
use Rattle.dl_open.proofs.named.with_named.Goals as goal

pub returns-in-Some-clause-opens : goal.returns-in-Some-clause-opens
returns-in-Some-clause-opens g c f known short t given has =
    let all_bytes = g.S.ReadAt.all_bytes in
    let fails_with = g.S.ReadAt.fails_with in
    let fails = g.S.ReadAt.fails_with c.args.file.now in
    let answer = c.is_named_in.result in
    let result = c.match-is_named_in.result in
    let told = held_answer _ {S = g.row.S.Denot} all_bytes fails_with fails c.args.table.line t c.file_dialect-dialect.result c.args.path.now
    c.in-Some.bytes.now answer c.in-Some.ensures given.line
    (c.file_dialect-dialect.ensures ∙ ap₂ (class_dialect c.args.units) given.order given.class) c.is_named_in.ensures.told in
    elim c.match-is_named_in.branch [
      | in-Ok-true w ↦ anew (g.M.Memory.refuses c.args.memory.now) _ {S = g.row.S.Denot} all_bytes fails_with fails c.args.path.now f t true answer result w.opened.result
          (answered answer _ true w.in-Ok-true.is w.in-Ok-true.field-0-test) told w.result-is
          (w.opened.ensures.opens f known short)
      | in-Ok-false w ↦ as_opened (g.M.Memory.refuses c.args.memory.now) _ {S = g.row.S.Denot} all_bytes fails_with fails c.args.path.now f t answer result c.args.table
          (answered answer _ false w.in-Ok-false.is w.in-Ok-false.field-0-test) told w.result-is has given
      | in-Err w ↦ not_told (g.M.Memory.refuses c.args.memory.now) _ {S = g.row.S.Denot} all_bytes fails_with fails c.args.path.now f t answer result w.in-Err.stop
          w.in-Err.is told w.result-is
    ]
