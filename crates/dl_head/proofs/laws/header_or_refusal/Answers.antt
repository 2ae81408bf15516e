use Rattle.dl_head.proofs.HeaderLaws.{header_is_not_foreign}
use Rattle.dl_head.proofs.QuietLemmas.{header_is_not_refused, foreign_is_not_refused}
use Rattle.dl_head.proofs.laws.header_or_refusal.Goals as goal

pub returns-clause-own : goal.returns-clause-own
returns-clause-own c = header_is_not_foreign

pub returns-clause-header : goal.returns-clause-header
returns-clause-header c = header_is_not_refused

pub returns-clause-foreign : goal.returns-clause-foreign
returns-clause-foreign c = foreign_is_not_refused
