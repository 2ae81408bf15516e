use Rattle.std.proofs.Common.{◌∙◌}
use Rattle.dl_locating.proofs.opening.open_with_code.Goals as goal

pub returns-clause-code : goal.returns-clause-code
returns-clause-code g c f known short = c.in_ok-code.ensures.code f (c.in_ok-file.ensures.bytes ∙ known) short

pub returns-clause-directories : goal.returns-clause-directories
returns-clause-directories g c f known short = c.in_ok-code.ensures.directories f (c.in_ok-file.ensures.bytes ∙ known) short
