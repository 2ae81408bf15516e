use Rattle.dl_options.proofs.parts.add_rules.Goals as goal

pub returns-clause-app : goal.returns-clause-app
returns-clause-app c = λ a made.
    let one = c.with_arg-command.ensures.app a _ made c.rule.ensures in
    let two = c.with_arg-command-2.ensures.app _ _ one c.no_rule.ensures in
    c.with_arg.ensures.app _ _ two c.switch-json.ensures
