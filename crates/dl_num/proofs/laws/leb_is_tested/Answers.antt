use Rattle.dl_num.proofs.LebLaws.{leb_tested, leb_is_front}
use Rattle.dl_num.proofs.laws.leb_is_tested.Goals as goal

pub returns-clause-test : goal.returns-clause-test
returns-clause-test c = leb_tested

pub returns-clause-front : goal.returns-clause-front
returns-clause-front c = leb_is_front
