use Rattle.dl_options.proofs.parts.add_keep_going.Goals as goal

pub returns-clause-app : goal.returns-clause-app
returns-clause-app c = λ a made. c.with_arg.ensures.app a _ made c.switch-keep_going.ensures
