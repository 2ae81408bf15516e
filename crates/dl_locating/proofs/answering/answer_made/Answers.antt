use Rattle.std.proofs.Common.{None, ap, subst, sym, ◌∙◌}
use Rattle.dl_cmd.specs.Job.{addr_words_made}
use Rattle.dl_index.specs.IsIndex.{IsIndex}
use Rattle.dl_locating.specs.Answering.{AnswersAsked, AsksOf}
use Rattle.dl_locating.specs.OverIndex.{location_in}
use Rattle.dl_locating.proofs.AnsweringLemmas.{never_empty}
use Rattle.dl_locating.proofs.answering.answer_made.Goals as goal

pub returns-in-Ok-clause-answers : goal.returns-in-Ok-clause-answers
returns-in-Ok-clause-answers g c =
    let e = c.answer_asked.ensures.answers in
    let bytes = c.args.index.now in
    let same = c.in-Ok.ensures.bytes in (
      e.0,
      e.1,
      λ understood. record {
        made = λ is. subst (λ b. AnswersAsked (g.M.Memory.refuses c.args.memory.now) (addr_words_made c.args.words.now) (location_in bytes)
            (λ _. ⊥) (AsksOf b) e.0 (g.R.Read.remaining c.answer_asked.new.input) (g.W.Write.contents c.args.output.now)
            (g.W.Write.contents c.answer_asked.new.output) c.answer_asked.result) same
            (e.2 (location_in bytes) (λ address told tells.
            tells (subst IsIndex (sym same) is) ∙ ap (λ b. location_in b address) same) understood);
        none = λ empty. absurd (never_empty bytes c.in-Ok.ensures.headed empty);
      },
    )

pub returns-in-Err-clause-answers : goal.returns-in-Err-clause-answers
returns-in-Err-clause-answers g c =
    let e = c.answer_asked-in-Err.ensures.answers in (
      e.0,
      e.1,
      λ understood. record {
        made = λ is. absurd (let e = c.in-Err.ensures.ok is.headed in cc);
        none = λ empty. e.2 (λ a. None) (λ address told none. none) understood;
      },
    )
