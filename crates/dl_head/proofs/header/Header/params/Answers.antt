use Rattle.std.proofs.Common.{subst}
use Rattle.dl_head.specs.Sound.{IsSoundHeader}
use Rattle.dl_head.proofs.HeaderSound.{usable}
use Rattle.dl_head.proofs.header.Header.params.Goals as goal

pub returns-clause-usable : goal.returns-clause-usable
returns-clause-usable c =
    let sound = subst IsSoundHeader c.self.view_is c.self.invariant in usable c.args.self.now.params
    c.args.self.now.directories c.args.self.now.files sound.params
