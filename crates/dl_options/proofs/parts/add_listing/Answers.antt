use Rattle.dl_options.proofs.parts.add_listing.Goals as goal

pub returns-clause-app : goal.returns-clause-app
returns-clause-app c = λ a made.
    let one = c.with_arg-command.ensures.app a _ made c.switch-rows.ensures in
    let two = c.with_arg-command-2.ensures.app _ _ one c.switch-md5.ensures in
    let three = c.with_arg.ensures.app _ _ two c.switch-json.ensures in
    let four = c.with_arg-command-3.ensures.app _ _ three c.listed_unit.ensures in
    let five = c.add_keep_going-command.ensures.app _ (c.with_arg-2.ensures.app _ _ four c.all.ensures) in
    c.with_arg-3.ensures.app _ _ five c.comp_dir.ensures
