use Rattle.std.proofs.Common.{codes, rules}
use Rattle.clap.specs.Words.{new_app}
use Rattle.dl_options.proofs.command_line.sources.Goals as goal

pub returns-clause-app : goal.returns-clause-app
returns-clause-app c =
    let listing = c.add_listing.ensures.app (new_app (codes "sources")) (search rules) in
    c.add_strings.ensures.app _ (c.add_follow.ensures.app _ (c.add_units-command.ensures.app _ listing))
