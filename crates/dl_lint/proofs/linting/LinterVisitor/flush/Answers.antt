use Rattle.dl_lint.proofs.LintingLemmas.{settles}
use Rattle.dl_lint.proofs.linting.LinterVisitor.flush.Goals as goal

pub returns-clause-settled : goal.returns-clause-settled
returns-clause-settled g c flow first start visits goes =
    settles g.M.Memory.refuses g.D.DamageSink.hears first c.args.self.now c.flush.new.self start (g.W.Write.contents c.args.output.now)
    (g.W.Write.contents c.flush.new.output) visits flow goes c.in_ok-flush.ensures.printed
    c.in_ok-flush.ensures.empty
