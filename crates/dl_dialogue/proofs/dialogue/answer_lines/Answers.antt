use Rattle.std.proofs.Common.{Err, rules, arith, refl, [], ◌<◌, ◌++◌, ap, ◌∙◌, length, length-append, subst, append-nil}
use Rattle.std.proofs.KnownBytes.{Consumes-nil, Consumes-trans}
use Rattle.std.specs.Io.KnownBytes.{Consumes}
use Rattle.std.proofs.lemmas.Result.{err_from_is_err_and}
use Rattle.dl_sections.proofs.BlameLemmas.{blames_next}
use Rattle.dl_dialogue.proofs.BlameLemmas.{no_input}
use Rattle.dl_dialogue.proofs.DialogueLemmas.{end_answers, fault_answers, nothing_of}
use Rattle.dl_dialogue.specs.Faults.{TellFails}
use Rattle.dl_dialogue.proofs.StayLemmas.{stays_itself, stays_on}
use Rattle.dl_dialogue.proofs.dialogue.answer_lines.Goals as goal

pub loop-init : goal.loop-init
loop-init g c = (
  [],
  Consumes-nil _,
  stays_itself c.args.teller.now,
  λ f determines. c.new-dialogue.ensures f (g.W.Write.contents c.args.output.now) c.new-printer.result
      c.new-printer.ensures.nothing_pending c.new-printer.ensures.nothing_out,
  omega arith,
  λ first is. is,
)

pub loop-preserved : goal.loop-preserved
loop-preserved g c =
    let i = c.loop.invariant in
    let piece = c.in-Ok.piece.now in (
      i.0 ++ piece,
      Consumes-trans _ _ _ _ _ i.1 c.in-Ok.ensures.ok,
      stays_on i.2 c.in_ok-take.ensures.stays,
      λ f determines. c.in_ok-take.ensures.answers c.args.teller.now (record { style = c.args.style; base = c.args.base; told = f })
          c.args.hex (g.W.Write.contents c.args.output.now) i.0 i.2 determines (i.3 f determines),
      (let some : 0 < length piece = search rules in omega (arith, i.4, some, length-append i.0 piece)),
      λ first is. (c.next_piece.ensures.blames first (i.5 first is)).0,
    )

pub returns-in_default-clause-answers : goal.returns-in_default-clause-answers
returns-in_default-clause-answers g c =
    (c.loop.invariant.0, search rules, λ f determines. (c.loop.invariant.3 f determines).out)

pub returns-then-is_empty-clause-answers : goal.returns-then-is_empty-clause-answers
returns-then-is_empty-clause-answers g c =
    let i = c.loop.invariant in
    let piece = c.in-Ok.piece.now in
    let none = nothing_of piece c.if-is_empty.ensures in
    let all = subst (λ b. Consumes (g.R.Read.remaining c.args.input.now) (g.R.Read.remaining c.next_piece.new.reader) b)
    (ap (λ b. i.0 ++ b) none ∙ append-nil i.0)
    (Consumes-trans _ _ _ _ _ i.1 c.in-Ok.ensures.ok) in (
      i.0,
      all,
      λ f determines. end_answers (record { style = c.args.style; base = c.args.base; told = f }) c.args.hex (TellFails (g.T.Tell.fails_with c.args.teller.now) (g.T.Tell.asks c.args.teller.now) (g.M.Memory.refuses c.args.memory.now)) i.0
          (g.R.Read.remaining c.next_piece.new.reader) (g.W.Write.contents c.args.output.now)
          (g.W.Write.contents c.end.new.output) c.end.result (c.in-Ok.ensures.end none)
          (c.end.ensures.answers c.args.teller.now (record { style = c.args.style; base = c.args.base; told = f }) c.args.hex
          (g.W.Write.contents c.args.output.now) i.0 i.2 determines (i.3 f determines)),
    )

pub returns-in_err-take-clause-answers : goal.returns-in_err-take-clause-answers
returns-in_err-take-clause-answers g c =
    let i = c.loop.invariant in
    let bytes = i.0 ++ c.in-Ok.piece.now in
    let p = err_from_is_err_and c.from_residual.result c.from_residual.ensures.1 in (
      bytes,
      Consumes-trans _ _ _ _ _ i.1 c.in-Ok.ensures.ok,
      λ f determines. rw (p.1, p.2) (fault_answers (record { style = c.args.style; base = c.args.base; told = f }) c.args.hex (TellFails (g.T.Tell.fails_with c.args.teller.now) (g.T.Tell.asks c.args.teller.now) (g.M.Memory.refuses c.args.memory.now)) bytes
          (g.R.Read.remaining c.next_piece.new.reader) (g.W.Write.contents c.args.output.now)
          (g.W.Write.contents c.take.new.output) _
          (c.in_err-take.ensures.answers c.args.teller.now (record { style = c.args.style; base = c.args.base; told = f }) c.args.hex
          (g.W.Write.contents c.args.output.now) i.0 i.2 determines (i.3 f determines))),
    )

pub returns-clause-answers : goal.returns-clause-answers
returns-clause-answers g c =
    (c.loop.invariant.0, c.loop.invariant.1, λ f determines. (c.loop.invariant.3 f determines).out)

pub returns-in_default-clause-blames : goal.returns-in_default-clause-blames
returns-in_default-clause-blames g c = blames_next _ c.loop.invariant.5 c.in_default.ensures.blames (λ e. refl)

pub returns-then-is_empty-clause-blames : goal.returns-then-is_empty-clause-blames
returns-then-is_empty-clause-blames g c =
    blames_next _ c.loop.invariant.5 c.next_piece.ensures.blames (λ e. absurd (no_input c.end.result c.end.ensures.reads e.0))

pub returns-in_err-take-clause-blames : goal.returns-in_err-take-clause-blames
returns-in_err-take-clause-blames g c =
    let p = err_from_is_err_and c.from_residual.result c.from_residual.ensures.1 in
    rw (p.1, p.2) (blames_next _ c.loop.invariant.5 c.next_piece.ensures.blames (λ e.
    absurd (no_input (Err c.in_err-take.field-0.0) c.in_err-take.ensures.reads e.0)))

pub returns-clause-blames : goal.returns-clause-blames
returns-clause-blames g c first is = (
  c.loop.invariant.5 first is,
  λ e. absurd (e.1 (c.loop.invariant.0, c.loop.invariant.1, omega (arith, c.loop.invariant.4))),
)
