use Rattle.dl_num.proofs.FixedLaws.{fixed_reads_back, fixed_has_its_size, bytes_read_back, fixed_is_below}
use Rattle.dl_num.proofs.laws.fixed_reads_back.Goals as goal

pub returns-clause-number : goal.returns-clause-number
returns-clause-number c = fixed_reads_back

pub returns-clause-size : goal.returns-clause-size
returns-clause-size c = fixed_has_its_size

pub returns-clause-bytes : goal.returns-clause-bytes
returns-clause-bytes c = bytes_read_back

pub returns-clause-below : goal.returns-clause-below
returns-clause-below c = fixed_is_below
