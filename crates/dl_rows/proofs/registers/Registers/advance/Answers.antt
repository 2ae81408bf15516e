use Rattle.std.proofs.Common.{◌∙◌}
use Rattle.dl_rows.proofs.PlaceLemmas.{advanced_is, advanced_by_one}
use Rattle.dl_rows.proofs.registers.Registers.advance.Goals as goal

pub returns : goal.returns
returns c =
    advanced_is c.args.params.now c.args.self.now c.args.by c.requires.operations c.from-maximum.ensures
    c.from-2.ensures c.from-minimum.ensures

pub returns-then-maximum-eq1 : goal.returns-then-maximum-eq1
returns-then-maximum-eq1 c =
    c.move_to.ensures
    ∙ advanced_by_one c.args.params.now c.args.self.now c.args.by c.if-maximum-eq1.true c.from-maximum.ensures
    c.from.ensures c.from-minimum.ensures
