use Rattle.std.proofs.Common.{max, ap, ◌∙◌}
use Rattle.dl_index.proofs.CheckLemmas.{names_by}
use Rattle.dl_index.proofs.checks.names_texts.Goals as goal

pub returns : goal.returns
returns c =
    names_by c.args.table.now c.args.count c.args.file _ _ _ c.max-2.result c.number_at-first.ensures
    c.number_at-second.ensures c.number_at-third.ensures
    (c.max-2.ensures ∙ ap (λ n. max n c.number_at-third.result) c.max.ensures)
