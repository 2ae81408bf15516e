use Rattle.dl_dump.proofs.PlainLemmas.{plain_dumps}
use Rattle.dl_dump.proofs.dumping.dump_details.Goals as goal

pub returns-clause-ran : goal.returns-clause-ran
returns-clause-ran g c =
    let ran = c.dump_with.ensures.ran in
    (ran.0, ran.1, plain_dumps _ (search) (search) _ _ _ _ _ _ _ ran.2)
