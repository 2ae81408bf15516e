use Rattle.dl_num.proofs.LebLaws.{no_uleb_begins, no_sleb_begins}
use Rattle.dl_num.proofs.laws.no_spelling_begins_another.Goals as goal

pub returns-clause-unsigned : goal.returns-clause-unsigned
returns-clause-unsigned c = no_uleb_begins

pub returns-clause-signed : goal.returns-clause-signed
returns-clause-signed c = no_sleb_begins
