use Rattle.std.proofs.Common.{arith}
use Rattle.dl_member.proofs.counts.Counts.add.Goals as goal

pub returns-in-Unwritten-clause-counted : goal.returns-in-Unwritten-clause-counted
returns-in-Unwritten-clause-counted c =
    rw c.in-Unwritten.is (omega arith, λ fits. omega (arith, fits))

pub returns-in-Done-clause-counted : goal.returns-in-Done-clause-counted
returns-in-Done-clause-counted c =
    rw c.in-Done.is (omega (arith, c.max-self.ensures), λ fits. omega (arith, fits))
