use Rattle.dl_options.proofs.parts.add_to_5.Goals as goal

pub returns-clause-app : goal.returns-clause-app
returns-clause-app c = λ a made.
    let one = c.with_arg-command.ensures.app a _ made c.switch-to_5.ensures in
    let two = c.with_arg-command-2.ensures.app _ _ one c.older.ensures in
    let three = c.with_arg-command-3.ensures.app _ _ two c.address_size.ensures in
    c.with_arg.ensures.app _ _ three c.comp_dir.ensures
