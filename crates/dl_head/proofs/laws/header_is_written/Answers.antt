use Rattle.dl_head.proofs.WrittenHeaders.{header_is_written, length_is_written}
use Rattle.dl_head.proofs.laws.header_is_written.Goals as goal

pub returns-clause-header : goal.returns-clause-header
returns-clause-header c = header_is_written

pub returns-clause-length : goal.returns-clause-length
returns-clause-length c = length_is_written
