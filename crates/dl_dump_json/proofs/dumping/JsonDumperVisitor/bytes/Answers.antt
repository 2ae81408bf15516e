use Rattle.std.proofs.Common.{List, refl}
use Rattle.dl_rows.specs.Items.{a_byte}
use Rattle.dl_sections.specs.Section.{Visit, of_item}
use Rattle.dl_sections.proofs.VisitLemmas.{bytes_by_one}
use Rattle.dl_dump_json.specs.Dumping.{HasDumped}
use Rattle.dl_dump_json.proofs.DumpingLemmas.{prints_nothing}
use Rattle.dl_dump_json.proofs.dumping.JsonDumperVisitor.bytes.Goals as goal

pub returns-clause-heard : goal.returns-clause-heard
returns-clause-heard g c first start visits s =
    bytes_by_one
    (λ (v : List Visit). HasDumped g.D.DamageSink.hears first c.args.self.now start (g.W.Write.contents c.args._output.now) v)
    (λ visits x s. prints_nothing s (of_item (a_byte x)) refl refl) visits c.args._bytes.now s
