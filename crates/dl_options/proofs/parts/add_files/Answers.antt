use Rattle.dl_options.proofs.parts.add_files.Goals as goal

pub returns-clause-app : goal.returns-clause-app
returns-clause-app c = λ a made.
    let one = c.with_arg-command.ensures.app a _ made c.big.ensures in
    let two = c.with_arg-command-2.ensures.app _ _ one c.files_from.ensures in
    let three = c.with_arg-command-3.ensures.app _ _ two c.letter-null.ensures in
    c.with_arg-2.ensures.app _ _ (c.with_arg.ensures.app _ _ three c.switch-progress.ensures) c.files.ensures
