use Rattle.dl_options.proofs.parts.add_shown.Goals as goal

pub returns-clause-app : goal.returns-clause-app
returns-clause-app c = λ a made.
    let one = c.with_arg-command.ensures.app a _ made c.switch-header.ensures in
    let two = c.with_arg-command-2.ensures.app _ _ one c.switch-operations.ensures in
    c.with_arg-2.ensures.app _ _ (c.with_arg.ensures.app _ _ two c.switch-paths.ensures) c.comp_dir.ensures
