use Rattle.std.proofs.Common.{true, refl, subst}
use Rattle.dl_sections.specs.Section.{of_end}
use Rattle.dl_memory.specs.Refusals.{IsRefused}
use Rattle.dl_making.specs.Making.{EndsUnit, end_room}
use Rattle.dl_making.proofs.KeepLemmas.{end_wants}
use Rattle.dl_making.proofs.MakerLemmas.{ends, stops}
use Rattle.dl_making.proofs.maker.MakerVisitor.end.Goals as goal

pub returns-in-Ok-clause-heard : goal.returns-in-Ok-clause-heard
returns-in-Ok-clause-heard g c first start visits s told =
    ends first c.args.self.now c.end_unit.new.self start (g.W.Write.contents c.args._output.now) visits c.args.header told s
    c.end_unit.ensures.same c.end_unit.ensures.unit c.end_unit.ensures.refused
    (subst (EndsUnit c.args.self.now c.end_unit.new.self) c.as_ref.ensures.value c.in-Ok.ensures.ended)

pub returns-clause-heard : goal.returns-clause-heard
returns-clause-heard g c first start visits s told =
    stops g.M.Memory.refuses first c.args.self.now (record c.end_unit.new.self { is_refused = true }) start
    (g.W.Write.contents c.args._output.now) visits (of_end c.args.header) s
    (let e = c.end_unit.ensures.same in record { memory = e.memory; code = e.code; directories = e.directories; strings = e.strings })
    c.end_unit.ensures.unit refl
    (end_wants first c.args.self.now start (g.W.Write.contents c.args._output.now) visits s c.args.header told
    (subst (λ h. IsRefused (g.M.Memory.refuses c.args.self.now.memory.now) (end_room c.args.self.now h)) c.as_ref.ensures.value
    c.in-Err.ensures.wants))
