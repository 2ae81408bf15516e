use Rattle.dl_options.specs.Memory.{library_refused}
use Rattle.dl_options.proofs.library.refused.Goals as goal

pub returns : goal.returns
returns c = library_refused c.args.error
