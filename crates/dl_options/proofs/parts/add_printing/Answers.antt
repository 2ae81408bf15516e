use Rattle.dl_options.proofs.parts.add_printing.Goals as goal

pub returns-clause-app : goal.returns-clause-app
returns-clause-app c = λ a made.
    let one = c.with_arg-command.ensures.app a _ made c.letter-addresses.ensures in
    c.with_arg-2.ensures.app _ _ (c.with_arg.ensures.app _ _ one c.letter-basenames.ensures) c.json.ensures
