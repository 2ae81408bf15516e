use Rattle.dl_program.proofs.BlameLemmas.{of_file_blamed}
use Rattle.dl_program.proofs.TableLemmas.{found_stops}
use Rattle.dl_program.proofs.over_file.on_found.Goals as goal

pub returns-clause-ran : goal.returns-clause-ran
returns-clause-ran g c f known short t given untold =
    found_stops (g.M.Memory.refuses c.args.memory.now) _ _ _ _ _ f t _ _ _ c.in-Err.stop c.looks_up.result c.args.table.is_object c.if-not-looks_up.false
    c.looks_up.ensures given.object (c.in-Err.ensures.part f known short) c.without_table.ensures untold

pub returns-clause-blames : goal.returns-clause-blames
returns-clause-blames g c untold = of_file_blamed g.W.Destination.fails c.in-Err.stop c.in-Err.ensures.blames
