use Rattle.std.proofs.Common.{codes, rules}
use Rattle.clap.specs.Words.{new_app}
use Rattle.dl_options.proofs.command_line.index.Goals as goal

pub returns-clause-app : goal.returns-clause-app
returns-clause-app c =
    let one = c.add_making-command.ensures.app (new_app (codes "index")) (search rules) in
    let two = c.with_arg-command.ensures.app _ _ one c.list.ensures in
    let three = c.with_arg-command-2.ensures.app _ _ two c.output.ensures in
    c.with_arg.ensures.app _ _ three c.index_file.ensures
