-- How a command grows.
use Rattle.std.proofs.Common.{◌∙◌, ◌||◌, ap, ap₂}
use Rattle.clap.specs.Words.{App, AddsSubcommand, with_subcommand}
use Rattle.clap.specs.declared.builder.command.Command.{Command}
use Rattle.dl_options.specs.CommandLine.{IsApp}

pub IsApp-subcommand : (old sub new : Command) (A S : App) → AddsSubcommand old sub new → IsApp A old → IsApp S sub
    → IsApp (with_subcommand A S.top) new
IsApp-subcommand old sub new A S added o i =
    (added.shape i.1 ∙ ap₂ with_subcommand o.0 (ap (λ (a : App). a.top) i.0), added.globals ∙ ap₂ ◌||◌ o.1 i.1)
