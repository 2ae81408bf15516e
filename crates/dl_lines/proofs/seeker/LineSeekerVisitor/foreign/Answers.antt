use Rattle.std.proofs.Common.{refl}
use Rattle.dl_sections.specs.Section.{of_version}
use Rattle.dl_lines.proofs.SeekLemmas.{still}
use Rattle.dl_lines.proofs.seeker.LineSeekerVisitor.foreign.Goals as goal

pub returns-clause-heard : goal.returns-clause-heard
returns-clause-heard g c first start visits s =
    still g.M.Memory.refuses first c.args.self.now start (g.W.Write.contents c.args._output.now) visits s
    (of_version c.args._offset c.args._version) refl
