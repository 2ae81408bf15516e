use Rattle.std.proofs.Common.{◌≡◌, ◌==◌, ℕ, rules, arith, length, vec_len, [], sym, ap, ◌∙◌}
use Rattle.std.specs.Option.{option_copied}
use Rattle.std.proofs.KnownBytes.{Consumes-nil}
use Rattle.std.proofs.lemmas.Bool.{eqb-true}
use Rattle.std.proofs.lemmas.Grind.{common_steps}
use Rattle.dl_cmd.specs.Job.{addr_words_made}
use Rattle.dl_dialogue.specs.Answers.{Manner}
use Rattle.dl_locating.proofs.AnsweringLemmas.{lines_asked, manner, words_asked}
use Rattle.dl_locating.proofs.BlameLemmas.{given_no_read, given_writer}
use Rattle.dl_locating.proofs.answering.answer_asked.Goals as goal

pub returns-then-is_empty-clause-answers : goal.returns-then-is_empty-clause-answers
returns-then-is_empty-clause-answers g c =
    let w = addr_words_made c.args.words.now in
    let u = c.args.understood.now in
    let none : vec_len u.asked ≡ 0 = eqb-true (vec_len u.asked) 0 (sym c.is_empty.ensures ∙ c.if-is_empty.true) in
    let empty : length u.asked.items ≡ 0 = first_of (omega arith, search rules, grind (arith, common_steps)) in
    let e = c.answer_lines.ensures.answers in
    let start = g.W.Write.contents c.args.output.now in (
      e.0,
      e.1,
      λ f determines understood.
          let m : Manner = record { style = c.style-style.result; base = u.base; told = f } in
          lines_asked (g.M.Memory.refuses c.args.memory.now) w u f m (g.T.Tell.fails_with c.args.teller.now) (g.T.Tell.asks c.args.teller.now) e.0
          (g.R.Read.remaining c.answer_lines.new.input) start (g.W.Write.contents c.answer_lines.new.output)
          c.answer_lines.result understood
          (manner w u f c.style-style.result understood c.style-style.ensures.form c.style-style.ensures.basenames
          (ap option_copied c.style-style.ensures.section ∙ c.part_name.ensures)) empty
          (e.2 f determines),
    )

pub returns-clause-answers : goal.returns-clause-answers
returns-clause-answers g c =
    let w = addr_words_made c.args.words.now in
    let u = c.args.understood.now in
    let len : vec_len u.asked ≡ length u.asked.items = first_of (omega arith, search rules, grind (arith, common_steps)) in
    let start = g.W.Write.contents c.args.output.now in (
      [],
      Consumes-nil _,
      λ f determines understood.
          let m : Manner = record { style = c.style-style.result; base = u.base; told = f } in
          words_asked (g.M.Memory.refuses c.args.memory.now) w u f m (g.T.Tell.fails_with c.args.teller.now) (g.T.Tell.asks c.args.teller.now) (g.R.Read.remaining c.args.input.now) start
          (g.W.Write.contents c.answer_all.new.output) c.answer_all.result c.answered_given.result c.as_slice.result.now
          understood
          (manner w u f c.style-style.result understood c.style-style.ensures.form c.style-style.ensures.basenames
          (ap option_copied c.style-style.ensures.section ∙ c.part_name.ensures))
          (ap (λ (n : ℕ). n == 0) (sym len) ∙ sym c.is_empty.ensures ∙ c.if-is_empty.false) c.as_slice.ensures.value
          (c.answer_all.ensures.answers f determines) c.answered_given.ensures,
    )

pub returns-clause-blames_writer : goal.returns-clause-blames_writer
returns-clause-blames_writer g c =
    rw c.answered_given.ensures (given_writer _ c.answer_all.result c.answer_all.ensures.blames_writer)

pub returns-clause-blames : goal.returns-clause-blames
returns-clause-blames g c first is = (
  is,
  λ e. absurd (given_no_read c.answer_all.result c.answer_all.ensures.reads (sym c.answered_given.ensures ∙ e.0)),
)
