use Rattle.std.proofs.Common.{List}
use Rattle.dl_sections.specs.Section.{Visit}
use Rattle.dl_sections.specs.Telling.{Tells}
use Rattle.dl_rows.specs.Items.{a_byte}
use Rattle.dl_sections.specs.Section.{of_item}
use Rattle.dl_sections.proofs.TellingVisits.{told_on}
use Rattle.dl_sections.proofs.VisitLemmas.{bytes_by_one}
use Rattle.dl_sections.proofs.in_memory.TellingVisitor.bytes.Goals as goal

pub returns-clause-heard : goal.returns-clause-heard
returns-clause-heard g c first start visits s =
    bytes_by_one (λ (v : List Visit). Tells g.U.UnitSink.story first c.args.self.now start (g.W.Write.contents c.args._output.now) v)
    (λ visits x s. told_on s (of_item (a_byte x)) _ _ s.passed s.hears) visits c.args._bytes.now s
