use Rattle.std.proofs.Common.{length, subst}
use Rattle.dl_memory.specs.Refusals.{IsRefused}
use Rattle.dl_addr.specs.Keeping.{Keeps}
use Rattle.dl_addr.specs.Room.{paths_room}
use Rattle.dl_addr.proofs.LocatorLemmas.{tail, stops}
use Rattle.dl_addr.proofs.locating.LocatorVisitor.end.Goals as goal

pub returns-in-Ok-clause-heard : goal.returns-in-Ok-clause-heard
returns-in-Ok-clause-heard g c first start visits s told =
    let keeps = subst (λ h. Keeps c.args.self.now c.keep.new.self h c.keep.result) c.as_ref.ensures.value
    c.keep.ensures.keeps in
    tail first c.args.self.now c.keep.new.self start (g.W.Write.contents c.args._output.now) visits c.args.header
    c.keep.result s keeps c.in-Ok.is c.end_unit.new.self c.new-self.result c.end_unit.ensures.stand c.new-self.ensures
    c.end_unit.ensures.count

pub returns-clause-heard : goal.returns-clause-heard
returns-clause-heard g c first start visits s told =
    let keeps = subst (λ h. Keeps c.args.self.now c.keep.new.self h c.keep.result) c.as_ref.ensures.value
    c.keep.ensures.keeps in
    stops first c.args.self.now c.keep.new.self start (g.W.Write.contents c.args._output.now) visits c.args.header
    c.keep.result s keeps g.M.Memory.refuses _ c.in-Err.is
    (λ places units rows st few. subst
    (λ h. IsRefused (g.M.Memory.refuses c.args.self.now.memory.now) (paths_room (length places) h))
    c.as_ref.ensures.value (c.in-Err.ensures.refused places units rows st few))
