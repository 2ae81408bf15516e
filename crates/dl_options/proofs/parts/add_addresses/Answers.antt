use Rattle.dl_options.proofs.parts.add_addresses.Goals as goal

pub returns-clause-app : goal.returns-clause-app
returns-clause-app c = λ a made.
    let units = c.add_units-command.ensures.app _ (c.add_settings.ensures.app a made) in
    let one = c.with_arg-command.ensures.app _ _ units c.comp_dir.ensures in
    let two = c.with_arg-command-2.ensures.app _ _ one c.made_of.ensures in
    let two_and_follow = c.add_follow-command.ensures.app _ two in
    let three = c.with_arg-command-3.ensures.app _ _ two_and_follow c.big.ensures in
    let four = c.with_arg-command-4.ensures.app _ _ three c.line_str.ensures in
    let five = c.with_arg-command-5.ensures.app _ _ four c.strings.ensures in
    let six = c.with_arg-command-6.ensures.app _ _ five c.exe.ensures in
    c.with_arg.ensures.app _ _ (c.with_arg-command-7.ensures.app _ _ six c.addr_file.ensures) c.addresses.ensures
