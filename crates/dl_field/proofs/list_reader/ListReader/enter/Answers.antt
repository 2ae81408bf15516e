use Rattle.std.proofs.Common.{sym, ◌∙◌}
use Rattle.dl_field.proofs.ListLemmas.{next_path, none_held}
use Rattle.dl_field.proofs.ValueLemmas.{granted}
use Rattle.dl_field.proofs.list_reader.ListReader.enter.Goals as goal

pub returns-then-left-eq0-clause-made : goal.returns-then-left-eq0-clause-made
returns-then-left-eq0-clause-made c = λ format next layout entries before holds summed some place is.
    next_path _ _ _ format next layout entries before c.args.left
    (none_held c.args.self.now.pairs.items c.requires.few) (c.len.ensures ∙ c.args.self.now.pool.ok.0)
    (granted c.push.result c.push.ensures.items (sym c.is_err.ensures.value ∙ c.if-is_err.false)) holds summed
    c.if-left-eq0.true place is
