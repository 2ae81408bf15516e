use Rattle.dl_num.proofs.LebLaws.{one_unsigned, one_signed}
use Rattle.dl_num.proofs.laws.one_value.Goals as goal

pub returns-clause-unsigned : goal.returns-clause-unsigned
returns-clause-unsigned c = one_unsigned

pub returns-clause-signed : goal.returns-clause-signed
returns-clause-signed c = one_signed
