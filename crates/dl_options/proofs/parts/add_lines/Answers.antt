use Rattle.dl_options.proofs.parts.add_lines.Goals as goal

pub returns-clause-app : goal.returns-clause-app
returns-clause-app c = λ a made.
    let units = c.add_units-command.ensures.app _ (c.add_search.ensures.app a made) in
    let one = c.add_follow-command.ensures.app _ (c.with_arg.ensures.app _ _ units c.comp_dir.ensures) in
    let two = c.with_arg-command.ensures.app _ _ one c.big.ensures in
    let three = c.with_arg-command-2.ensures.app _ _ two c.line_str.ensures in
    let four = c.with_arg-command-3.ensures.app _ _ three c.strings.ensures in
    c.with_arg-3.ensures.app _ _ (c.with_arg-2.ensures.app _ _ four c.addr_file.ensures) c.lines.ensures
