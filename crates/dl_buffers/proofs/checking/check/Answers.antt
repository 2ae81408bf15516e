use Rattle.std.proofs.Common.{sym, ◌∙◌}
use Rattle.dl_buffers.proofs.checking.check.Goals as goal

pub returns-then-goes_on : goal.returns-then-goes_on
returns-then-goes_on c =
    rw (sym c.goes_on.ensures ∙ c.if-goes_on.true, ← c.dialect_of.ensures) c.check_around.ensures

pub returns-else-goes_on : goal.returns-else-goes_on
returns-else-goes_on c =
    rw (sym c.goes_on.ensures ∙ c.if-goes_on.false, ← c.dialect_of-else-goes_on.ensures) c.check_to_fault.ensures
