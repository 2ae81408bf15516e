use Rattle.std.proofs.Common.{◌++◌, append-nil, get_or, refl, subst, sym, take}
use Rattle.std.proofs.lemmas.Result.{err_from_is_err_and}
use Rattle.dl_dialogue.proofs.DialogueLemmas.{piece_spoken, spoken_more, stopped_within}
use Rattle.dl_dialogue.specs.Faults.{TellFails}
use Rattle.dl_dialogue.specs.Standing.{Speaks}
use Rattle.dl_dialogue.proofs.StayLemmas.{stays_itself, stays_on}
use Rattle.dl_dialogue.proofs.dialogue.Dialogue.take.Goals as goal

pub loop-byte-init : goal.loop-byte-init
loop-byte-init g c = (
  stays_itself c.args.teller.now,
  λ first m hex start done stays determines talks.
      subst (λ d. Speaks m hex start (g.W.Write.contents c.args.output.now) d c.args.printer.now c.args.self.now)
      (sym (append-nil done)) talks.speaks,
)

pub returns-in_err-take_byte-clause-stays : goal.returns-in_err-take_byte-clause-stays
returns-in_err-take_byte-clause-stays g c = stays_on c.loop-byte.invariant.0 c.in_err-take_byte.ensures.stays

pub returns-in_err-take_byte-clause-answers : goal.returns-in_err-take_byte-clause-answers
returns-in_err-take_byte-clause-answers g c = λ first m hex start done stays determines talks.
    let p = err_from_is_err_and c.from_residual.result c.from_residual.ensures.1 in
    let i = c.loop-byte.byte-index in
    let piece = c.args.piece.now in
    rw (p.1, p.2) (stopped_within m hex (TellFails (g.T.Tell.fails_with first) (g.T.Tell.asks first) (g.M.Memory.refuses c.args.memory.now)) start
    (g.W.Write.contents c.take_byte.new.output) done piece i (get_or piece i 0) _ c.loop-byte-test.true refl
    (c.in_err-take_byte.ensures.answers first m hex start (done ++ take i piece) (stays_on stays c.loop-byte.invariant.0)
    determines (c.loop-byte.invariant.1 first m hex start done stays determines talks)))

pub loop-byte-preserved : goal.loop-byte-preserved
loop-byte-preserved g c =
    let i = c.loop-byte.byte-index in
    let piece = c.args.piece.now in (
      stays_on c.loop-byte.invariant.0 c.in_ok-take_byte.ensures.stays,
      λ first m hex start done stays determines talks.
          spoken_more m hex start (g.W.Write.contents c.take_byte.new.output) done piece i (get_or piece i 0) c.take_byte.new.printer c.take_byte.new.self
          c.loop-byte-test.true refl
          (c.in_ok-take_byte.ensures.answers first m hex start (done ++ take i piece) (stays_on stays c.loop-byte.invariant.0)
          determines (c.loop-byte.invariant.1 first m hex start done stays determines talks)),
    )

pub returns-clause-stays : goal.returns-clause-stays
returns-clause-stays g c = c.loop-byte.invariant.0

pub returns-clause-answers : goal.returns-clause-answers
returns-clause-answers g c = λ first m hex start done stays determines talks.
    piece_spoken m hex (TellFails (g.T.Tell.fails_with first) (g.T.Tell.asks first) (g.M.Memory.refuses c.args.memory.now)) start (g.W.Write.contents c.loop-byte.output)
    (g.W.Write.contents c.flush.new.output) done c.args.piece.now c.loop-byte.byte-index c.loop-byte.printer c.flush.new.printer c.loop-byte.self
    c.flush.result c.loop-byte-test.false (c.loop-byte.invariant.1 first m hex start done stays determines talks)
    (λ asked stands. c.flush.ensures.flushed m start asked stands)
