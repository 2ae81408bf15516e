use Rattle.dl_elf.specs.Reader.{reader_error, reader_remaining}
use Rattle.dl_file.proofs.AnswerLemmas.{plain_ends, plain_tells}
use Rattle.dl_file.proofs.content_reader.ContentReaderRead.read.Goals as goal

pub returns-in-Plain-clause-ends : goal.returns-in-Plain-clause-ends
returns-in-Plain-clause-ends g c =
    rw c.in-Plain.is (plain_ends (reader_remaining g.S.ReadAt.all_bytes c.read.new.self) (reader_error c.read.new.self) c.read.result c.read.new.buffer)

pub returns-in-Plain-clause-fault : goal.returns-in-Plain-clause-fault
returns-in-Plain-clause-fault g c = plain_tells (reader_error c.read.new.self) c.read.result c.read.ensures.error
