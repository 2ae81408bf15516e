use Rattle.dl_options.proofs.parts.add_making.Goals as goal

pub returns-clause-app : goal.returns-clause-app
returns-clause-app c = λ a made.
    let one = c.add_keep_going-command.ensures.app _ (c.with_arg.ensures.app a _ made c.all.ensures) in
    let two = c.with_arg-command.ensures.app _ _ one c.section.ensures in
    let three = c.add_units_of_file-command.ensures.app _ two in
    c.add_follow.ensures.app _ (c.with_arg-2.ensures.app _ _ three c.comp_dir.ensures)
