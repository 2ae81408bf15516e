use Rattle.std.proofs.Common.{codes, rules}
use Rattle.clap.specs.Words.{new_app}
use Rattle.dl_options.proofs.command_line.addr.Goals as goal

pub returns-clause-app : goal.returns-clause-app
returns-clause-app c = c.add_addresses.ensures.app (new_app (codes "addr")) (search rules)
