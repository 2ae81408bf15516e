use Rattle.std.proofs.Common.{codes, rules}
use Rattle.clap.specs.Words.{new_app}
use Rattle.dl_options.proofs.command_line.copy.Goals as goal

pub returns-clause-app : goal.returns-clause-app
returns-clause-app c = c.add_input.ensures.app _ (c.add_to_5.ensures.app (new_app (codes "copy")) (search rules))
