use Rattle.std.proofs.Common.{sym, ◌∙◌, true≢false}
use Rattle.dl_sources.proofs.lister.Lister.begins_live.Goals as goal

pub returns-else-begins : goal.returns-else-begins
returns-else-begins g c live count rows stands none =
    absurd (true≢false (sym ((c.begins.ensures live count rows stands).1 none) ∙ c.if-begins.false))
