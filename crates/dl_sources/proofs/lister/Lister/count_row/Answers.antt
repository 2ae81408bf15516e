use Rattle.std.proofs.Common.{◌∙◌, sym}
use Rattle.dl_sources.proofs.lister.Lister.count_row.Goals as goal

pub returns-clause-counted : goal.returns-clause-counted
returns-clause-counted g c live count rows same counting =
    c.row.ensures live count rows counting (λ none. c.begins_live-is_live.ensures live count rows counting none
    ∙ sym (same c.args.row.now.address))
