use Rattle.dl_options.proofs.parts.add_part.Goals as goal

pub returns-clause-app : goal.returns-clause-app
returns-clause-app c = λ a made.
    let one = c.with_arg-command.ensures.app a _ made c.switch-json.ensures in
    c.with_arg-2.ensures.app _ _ (c.with_arg.ensures.app _ _ one c.unit.ensures) c.range.ensures
