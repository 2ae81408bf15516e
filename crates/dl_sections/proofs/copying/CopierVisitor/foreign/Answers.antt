use Rattle.dl_sections.proofs.CopierLemmas.{stops_at_version}
use Rattle.dl_sections.proofs.copying.CopierVisitor.foreign.Goals as goal

pub returns-clause-heard : goal.returns-clause-heard
returns-clause-heard g c first start visits s = stops_at_version s g.M.Memory.refuses
    c.args.offset c.args._version
