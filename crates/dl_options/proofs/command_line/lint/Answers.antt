use Rattle.std.proofs.Common.{codes, rules}
use Rattle.clap.specs.Words.{new_app}
use Rattle.dl_options.proofs.command_line.lint.Goals as goal

pub returns-clause-app : goal.returns-clause-app
returns-clause-app c =
    let begun = c.add_keep_going.ensures.app (new_app (codes "lint")) (search rules) in
    let ruled = c.add_rules-command.ensures.app _ begun in
    c.add_strings.ensures.app _ (c.add_follow.ensures.app _ (c.add_units-command.ensures.app _ ruled))
