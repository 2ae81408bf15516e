use Rattle.std.proofs.Common.{codes, rules}
use Rattle.clap.specs.Words.{new_app}
use Rattle.dl_options.proofs.command_line.dump.Goals as goal

pub returns-clause-app : goal.returns-clause-app
returns-clause-app c =
    let begun = c.add_keep_going-command.ensures.app (new_app (codes "dump")) (search rules) in
    let parted = c.add_part-command.ensures.app _ (c.add_shown.ensures.app _ begun) in
    c.add_strings.ensures.app _ (c.add_follow.ensures.app _ (c.add_units-command.ensures.app _ parted))
