use Rattle.std.proofs.Common.{◌<◌, ℕ, inr, arith, length, refl, subst, sym, ◌∙◌}
use Rattle.dl_head.specs.declared.dialect.Dialect.{Dialect}
use Rattle.dl_buffers.specs.declared.status.Status.TheVariants as status
use Rattle.dl_buffers.specs.AroundCalls.{FindsAllAround}
use Rattle.dl_buffers.proofs.AllLemmas.{finds_all_around, finds_all_stopped}
use Rattle.dl_buffers.proofs.gathering.answer_all.Goals as goal

pub returns-in-Ok : goal.returns-in-Ok
returns-in-Ok g c addresses stands fit =
    let none = λ (i : ℕ) (lt : i < length addresses). c.forget.ensures.none i (omega (arith, lt, fit.1)) in
    rw (
      sym c.goes_on.ensures ∙ c.if-goes_on.true,
      c.tell_damage.ensures.told,
      c.tell_damage.ensures.status,
      ← c.dialect_of.ensures,
    ) (finds_all_around (g.M.Memory.refuses c.args.memory.now) c.dialect_of.result c.args.section.now addresses c.args.rows.now
    c.gather_around.new.rows c.args.units.now c.gather_around.new.units c.args.fault.now fit
    c.in-Ok.damaged (c.in-Ok.ensures addresses stands none))

pub returns-in-Err : goal.returns-in-Err
returns-in-Err g c addresses stands fit =
    let none = λ (i : ℕ) (lt : i < length addresses). c.forget.ensures.none i (omega (arith, lt, fit.1)) in
    rw (sym c.goes_on.ensures ∙ c.if-goes_on.true) (subst (λ (d : Dialect). FindsAllAround (g.M.Memory.refuses c.args.memory.now) d c.args.section.now addresses
    c.args.rows.now c.gather_around.new.rows c.args.units.now c.gather_around.new.units c.args.fault.now c.args.fault.now
    status.NoMemory) c.dialect_of.ensures (fit, inr (c.in-Err.ensures addresses stands none), refl))

pub returns-in-Err-gather : goal.returns-in-Err-gather
returns-in-Err-gather g c addresses stands fit =
    let none = λ (i : ℕ) (lt : i < length addresses). c.forget.ensures.none i (omega (arith, lt, fit.1)) in
    rw (
      sym c.goes_on.ensures ∙ c.if-goes_on.false,
      c.tell_stop.ensures.told,
      c.tell_stop.ensures.status,
      ← c.dialect_of-else-goes_on.ensures,
    ) (finds_all_stopped (g.M.Memory.refuses c.args.memory.now) c.dialect_of-else-goes_on.result c.args.section.now
    addresses c.args.rows.now c.gather.new.rows c.args.units.now c.gather.new.units c.args.fault.now (omega arith) fit
    c.in-Err-gather.stop (c.in-Err-gather.ensures addresses stands none))

pub returns-in-Ok-gather : goal.returns-in-Ok-gather
returns-in-Ok-gather g c addresses stands fit =
    let none = λ (i : ℕ) (lt : i < length addresses). c.forget.ensures.none i (omega (arith, lt, fit.1)) in
    rw (sym c.goes_on.ensures ∙ c.if-goes_on.false, ← c.dialect_of-else-goes_on.ensures)
    (fit, c.in-Ok-gather.ensures addresses stands none, refl)
