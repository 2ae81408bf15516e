use Rattle.dl_options.proofs.parts.add_settings.Goals as goal

pub returns-clause-app : goal.returns-clause-app
returns-clause-app c = λ a made.
    let one = c.with_arg-command.ensures.app _ _ (c.add_printing-command.ensures.app a made) c.switch-decimal.ensures in
    let two = c.with_arg-command-2.ensures.app _ _ one c.switch-hex.ensures in
    let three = c.with_arg-command-3.ensures.app _ _ two c.base.ensures in
    let four = c.with_arg-command-4.ensures.app _ _ three c.all.ensures in
    let five = c.with_arg-command-5.ensures.app _ _ four c.stop.ensures in
    c.with_arg.ensures.app _ _ five c.section.ensures
