use Rattle.dl_options.proofs.parts.add_input.Goals as goal

pub returns-clause-app : goal.returns-clause-app
returns-clause-app c = λ a made. c.with_arg-2.ensures.app _ _ (c.with_arg.ensures.app a _ made c.big.ensures) c.file.ensures
