use Rattle.dl_program.proofs.DamageLemmas.{either_failed, lines_more}
use Rattle.dl_program.proofs.damages.StopLinesDamageSink.damaged.Goals as goal

pub returns : goal.returns
returns g c first told before = (
  λ whole.
      (let line = c.tell.ensures.0 whole in
      let earlier = before.0 line.0 in
      (earlier.0, lines_more _ _ _ told c.args.damage earlier.1 line.1)),
  λ failed. either_failed before.1 (c.tell.ensures.1 failed),
)
