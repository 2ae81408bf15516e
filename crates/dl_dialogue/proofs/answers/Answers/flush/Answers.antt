use Rattle.dl_dialogue.proofs.AnswerLemmas.{flushes_all}
use Rattle.dl_dialogue.proofs.BlameLemmas.{written_reads, written_writer}
use Rattle.dl_dialogue.proofs.answers.Answers.flush.Goals as goal

pub returns-clause-flushed : goal.returns-clause-flushed
returns-clause-flushed g c = λ m start asked stands.
    rw c.written.ensures (flushes_all m start (g.W.Write.contents c.args.output.now)
    (g.W.Write.contents c.flush.new.output) asked c.args.printer.now c.flush.new.self c.args.self.now c.flush.result stands
    c.flush.ensures.printed c.flush.ensures.empty)

pub returns-clause-blames_writer : goal.returns-clause-blames_writer
returns-clause-blames_writer g c = rw c.written.ensures (written_writer _ c.flush.result c.flush.ensures.blames)

pub returns-clause-reads : goal.returns-clause-reads
returns-clause-reads g c = rw c.written.ensures (written_reads c.flush.result)
