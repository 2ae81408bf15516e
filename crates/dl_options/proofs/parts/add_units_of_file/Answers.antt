use Rattle.dl_options.proofs.parts.add_units_of_file.Goals as goal

pub returns-clause-app : goal.returns-clause-app
returns-clause-app c = λ a made.
    let one = c.with_arg-command.ensures.app a _ made c.address_size.ensures in
    c.with_arg.ensures.app _ _ one c.version_5.ensures
