use Rattle.std.proofs.Common.{◌∙◌, sym}
use Rattle.dl_open.proofs.NamedLemmas.{with_section, without_section}
use Rattle.dl_open.proofs.named.with_texts.Goals as goal

pub returns-then-not-table-clause-opens : goal.returns-then-not-table-clause-opens
returns-then-not-table-clause-opens g c f known short =
    let (t, has, given) = c.in-Ok.ensures.opens f known short in
    (t, without_section _ (g.S.ReadAt.fails_with c.args.file.now) f t (sym given.has_str ∙ c.if-not-table.true) has, given)

pub returns-clause-opens : goal.returns-clause-opens
returns-clause-opens g c f known short =
    let (t, has, given) = c.in-Ok.ensures.opens f known short in
    with_section (g.M.Memory.refuses c.args.memory.now) _ {S = g.row.S.Denot} g.S.ReadAt.all_bytes g.S.ReadAt.fails_with (g.S.ReadAt.fails_with c.args.file.now) c.args.path.now
    f t c.with_named.result (sym given.has_str ∙ c.if-not-table.false) has (c.with_named.ensures.opens f known short t given has)
