use Rattle.dl_head.proofs.HeaderLaws.{header_is_found, found_is_header}
use Rattle.dl_head.proofs.laws.header_at_front.Goals as goal

pub returns-clause-found : goal.returns-clause-found
returns-clause-found c = header_is_found

pub returns-clause-header : goal.returns-clause-header
returns-clause-header c = found_is_header
