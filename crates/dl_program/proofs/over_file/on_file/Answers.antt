use Rattle.dl_program.proofs.BlameLemmas.{of_file_blamed}
use Rattle.dl_program.proofs.over_file.on_file.Goals as goal

pub returns-in-Err-clause-blames : goal.returns-in-Err-clause-blames
returns-in-Err-clause-blames g c untold = of_file_blamed g.W.Destination.fails c.in-Err.stop c.in-Err.ensures.blames
