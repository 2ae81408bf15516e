use Rattle.std.proofs.Common.{Some, ap, subst, sym, ◌∙◌}
use Rattle.dl_cmd.specs.Job.{addr_words_made}
use Rattle.dl_index.specs.IsIndex.{IsIndex}
use Rattle.dl_index_file.specs.Opening.{source_of}
use Rattle.dl_index_file.specs.Reading.{ReadFails}
use Rattle.dl_locating.specs.Answering.{AnswersAsked, AsksOf}
use Rattle.dl_locating.specs.OverIndex.{location_in}
use Rattle.dl_locating.proofs.ReadsLemmas.{answers_wider}
use Rattle.dl_locating.proofs.over_index.answer_from.Goals as goal

pub returns-in-Some-clause-answers : goal.returns-in-Some-clause-answers
returns-in-Some-clause-answers g c =
    let w = addr_words_made c.args.words.now in
    let e = c.answer_made.ensures.answers in
    let start = g.W.Write.contents c.args.output.now in (
      e.0,
      e.1,
      λ understood b known short whole.
          let same = c.as_slice.ensures.value ∙ c.in-Some.ensures b known short in
          answers_wider (g.M.Memory.refuses c.args.memory.now) (λ _. ⊥) (ReadFails (Some b) (g.S.ReadAt.fails_with (source_of c.args.index.now)))
          (λ error fails. absurd fails) (AsksOf b) (AsksOf b) (λ n few. few) w (location_in b) e.0 (g.R.Read.remaining c.answer_made.new.input) start
          (g.W.Write.contents c.answer_made.new.output) c.answer_made.result
          (subst (λ i. AnswersAsked (g.M.Memory.refuses c.args.memory.now) w (location_in i) (λ _. ⊥) (AsksOf i) e.0 (g.R.Read.remaining c.answer_made.new.input) start
          (g.W.Write.contents c.answer_made.new.output) c.answer_made.result) same
          ((e.2 understood).made (subst IsIndex (sym same) whole))),
    )

pub returns-clause-answers : goal.returns-clause-answers
returns-clause-answers g c =
    let w = addr_words_made c.args.words.now in
    let e = c.answer_asked.ensures.answers in
    let known_of = g.S.ReadAt.all_bytes in
    let same = c.of-finder.ensures in (
      e.0,
      e.1,
      λ understood b known short whole.
          answers_wider (g.M.Memory.refuses c.args.memory.now) _ (ReadFails (Some b) (g.S.ReadAt.fails_with (source_of c.args.index.now)))
          (λ error fails. subst (λ k. ReadFails k (g.S.ReadAt.fails_with (source_of c.args.index.now)) error) known
          (subst (λ i. ReadFails (known_of (source_of i)) (g.S.ReadAt.fails_with (source_of i)) error) same fails))
          _ (AsksOf b) (λ n few. few b (ap (λ i. known_of (source_of i)) same ∙ known) short)
          w (location_in b) e.0 _ _ _ c.answer_asked.result
          (e.2 (location_in b) (λ address told tells. tells b (ap (λ i. known_of (source_of i)) same ∙ known) short whole)
          understood),
    )
