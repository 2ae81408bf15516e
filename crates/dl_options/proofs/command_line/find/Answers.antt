use Rattle.std.proofs.Common.{codes, rules}
use Rattle.clap.specs.Words.{new_app}
use Rattle.dl_options.proofs.command_line.find.Goals as goal

pub returns-clause-app : goal.returns-clause-app
returns-clause-app c =
    let one = c.with_arg-command.ensures.app (new_app (codes "find")) _ (search rules) c.address.ensures in
    let two = c.with_arg-command-2.ensures.app _ _ one c.op.ensures in
    let three = c.with_arg-command-3.ensures.app _ _ two c.section.ensures in
    c.add_strings.ensures.app _ (c.add_follow.ensures.app _ (c.add_units-command.ensures.app _ three))
