use Rattle.std.proofs.Common.{ap, refl, ◌∙◌}
use Rattle.std.specs.Prelude.{option_map}
use Rattle.dl_addr.specs.Commands.{is_answered}
use Rattle.dl_addr.specs.Locations.{location_seen}
use Rattle.dl_dialogue.proofs.AnswerLemmas.{answers_one, some_mapped, stops_before}
use Rattle.dl_dialogue.proofs.BlameLemmas.{stopped_reads, stopped_writer, written_reads, written_writer}
use Rattle.dl_dialogue.specs.Faults.{TellFails}
use Rattle.dl_dialogue.proofs.StayLemmas.{determined, tell_fails}
use Rattle.dl_dialogue.proofs.answers.Answers.answer.Goals as goal

pub returns-in-Ok-clause-answers : goal.returns-in-Ok-clause-answers
returns-in-Ok-clause-answers g c = λ first m start before stays determines stands.
    rw c.written.ensures (answers_one m before c.args.asked start (g.W.Write.contents c.args.output.now)
    (g.W.Write.contents c.print_location.new.output) c.args.printer.now c.args.self.now stands (TellFails (g.T.Tell.fails_with first) (g.T.Tell.asks first) (g.M.Memory.refuses c.args.memory.now))
    (option_map location_seen c.in-Ok.location) c.is_answered.result c.print_location.result c.print_location.new.printer _
    (c.in-Ok.ensures.told m stands.base (determined stays determines))
    (c.is_answered.ensures ∙ ap (is_answered c.args.asked) (c.is_some.ensures
    ∙ some_mapped location_seen c.in-Ok.location)) refl refl c.also-self.ensures c.print_location.ensures.printed)

pub returns-in-Err-clause-answers : goal.returns-in-Err-clause-answers
returns-in-Err-clause-answers g c = λ first m start before stays determines stands.
    rw c.stopped.ensures (stops_before m before c.args.asked start (g.W.Write.contents c.args.output.now)
    (g.W.Write.contents c.flush.new.output) c.args.printer.now c.args.self.now stands (TellFails (g.T.Tell.fails_with first) (g.T.Tell.asks first) (g.M.Memory.refuses c.args.memory.now))
    c.in-Err.fault c.flush.new.self c.flush.result _ (tell_fails stays (g.M.Memory.refuses c.args.memory.now) c.in-Err.fault c.in-Err.ensures.fails)
    c.flush.ensures.printed
    c.flush.ensures.empty)

pub returns-in-Ok-clause-blames_writer : goal.returns-in-Ok-clause-blames_writer
returns-in-Ok-clause-blames_writer g c =
    rw c.written.ensures (written_writer _ c.print_location.result c.print_location.ensures.blames_writer)

pub returns-in-Err-clause-blames_writer : goal.returns-in-Err-clause-blames_writer
returns-in-Err-clause-blames_writer g c =
    rw c.stopped.ensures (stopped_writer _ c.flush.result c.in-Err.fault c.flush.ensures.blames)

pub returns-in-Ok-clause-reads : goal.returns-in-Ok-clause-reads
returns-in-Ok-clause-reads g c = rw c.written.ensures (written_reads c.print_location.result)

pub returns-in-Err-clause-reads : goal.returns-in-Err-clause-reads
returns-in-Err-clause-reads g c = rw c.stopped.ensures (stopped_reads c.flush.result c.in-Err.fault)
