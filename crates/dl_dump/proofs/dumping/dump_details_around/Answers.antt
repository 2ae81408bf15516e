use Rattle.dl_dump.proofs.PlainLemmas.{plain_around}
use Rattle.dl_dump.proofs.dumping.dump_details_around.Goals as goal

pub returns-clause-ran : goal.returns-clause-ran
returns-clause-ran g c =
    let ran = c.dump_around.ensures.ran in (
      ran.0,
      ran.1,
      λ none. plain_around _ (search) (search) _ _ _ _ _ _ (g.D.DamageSink.hears c.args.damages.now c.dump_around.new.damages) c.dump_around.result
          (ran.2 none),
    )
