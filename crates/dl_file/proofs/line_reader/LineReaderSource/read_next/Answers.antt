use Rattle.dl_file.specs.LineReader.{LineReaderFails, line_damage, line_fault}
use Rattle.dl_file.proofs.FollowLemmas.{ends_whole, goes_on}
use Rattle.dl_file.proofs.line_reader.LineReaderSource.read_next.Goals as goal

pub returns-clause-goes : goal.returns-clause-goes
returns-clause-goes g c =
    goes_on (line_damage g.S.ReadAt.all_bytes) line_fault (LineReaderFails g.S.ReadAt.all_bytes g.S.ReadAt.fails_with) c.args.self.now
    c.read.new.self _ c.read.result c.read.new.buffer c.read.ensures.ends c.read.ensures.damage c.read.ensures.fails
    c.read.ensures.later c.read.ensures.fault

pub returns-clause-ends : goal.returns-clause-ends
returns-clause-ends g c =
    ends_whole (line_damage g.S.ReadAt.all_bytes c.args.self.now) (line_damage g.S.ReadAt.all_bytes c.read.new.self) _
    (line_fault c.read.new.self) c.read.result c.read.new.buffer c.read.ensures.ends c.read.ensures.damage
