use Rattle.std.proofs.Common.{codes, rules}
use Rattle.clap.specs.Words.{new_app}
use Rattle.dl_options.proofs.command_line.lines.Goals as goal

pub returns-clause-app : goal.returns-clause-app
returns-clause-app c = c.add_lines.ensures.app (new_app (codes "lines")) (search rules)
