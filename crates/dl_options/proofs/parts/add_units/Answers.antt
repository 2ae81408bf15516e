use Rattle.dl_options.proofs.parts.add_units.Goals as goal

pub returns-clause-app : goal.returns-clause-app
returns-clause-app c = λ a made. c.add_units_of_file.ensures.app _ (c.with_arg.ensures.app a _ made c.older.ensures)
