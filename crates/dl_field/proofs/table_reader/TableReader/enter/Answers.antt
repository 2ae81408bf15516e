use Rattle.std.proofs.Common.{sym, ◌∙◌}
use Rattle.dl_field.proofs.ValueLemmas.{entered, granted}
use Rattle.dl_field.proofs.table_reader.TableReader.enter.Goals as goal

pub returns-clause-made : goal.returns-clause-made
returns-clause-made c = λ order next layout v rest is full.
    entered order c.args.self.now c.push.new.list.items c.end_value.new.self c.args.at c.args.held c.args.format next
    layout v rest is c.requires.held full c.end_value.ensures.goes
    (granted c.push.result c.push.ensures.items (sym c.is_err.ensures.value ∙ c.if-is_err.false))
