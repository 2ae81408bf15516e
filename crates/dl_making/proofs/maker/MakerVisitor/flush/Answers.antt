use Rattle.dl_making.proofs.MakerLemmas.{settles}
use Rattle.dl_making.proofs.maker.MakerVisitor.flush.Goals as goal

pub returns-clause-settled : goal.returns-clause-settled
returns-clause-settled g c flow first start visits s =
    settles g.M.Memory.refuses first c.args.self.now start (g.W.Write.contents c.args._output.now) visits flow s
