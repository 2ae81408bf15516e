use Rattle.dl_options.proofs.parts.add_search.Goals as goal

pub returns-clause-app : goal.returns-clause-app
returns-clause-app c = λ a made.
    let one = c.with_arg.ensures.app a _ made c.switch-exact.ensures in
    let two = c.with_arg-command.ensures.app _ _ one c.all.ensures in
    c.with_arg-3.ensures.app _ _ (c.with_arg-2.ensures.app _ _ two c.stop.ensures) c.section.ensures
