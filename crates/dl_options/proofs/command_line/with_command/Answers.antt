use Rattle.std.proofs.Common.{Result, subst}
use Rattle.std.specs.Prelude.{IfOk}
use Rattle.std.specs.declared.alloc.AllocError.{AllocError}
use Rattle.std.proofs.lemmas.Result.{IfOk-weaker}
use Rattle.clap.specs.declared.builder.command.Command.{Command}
use Rattle.dl_options.specs.CommandLine.{IsApp}
use Rattle.dl_options.proofs.CommandLineLemmas.{IsApp-subcommand}
use Rattle.dl_options.proofs.command_line.with_command.Goals as goal

pub returns-clause-app : goal.returns-clause-app
returns-clause-app c = λ a sub app made.
    let is = subst (λ (x : Result Command AllocError). IfOk x (IsApp sub)) c.in_ok-command.was made in
    IfOk-weaker _ _ _ (λ new added. IsApp-subcommand _ _ new _ _ added app is) c.take_subcommand.ensures.added
