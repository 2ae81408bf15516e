use Rattle.std.proofs.Common.{[], inl, inr, refl, sym, subst, ◌∙◌}
use Rattle.std.proofs.KnownBytes.{Consumes-nil, Keeps-refl}
use Rattle.dl_cmd.specs.Job.{addr_words_made}
use Rattle.dl_locating.specs.OverElfFile.{AnswersMade}
use Rattle.dl_sections.proofs.BlameLemmas.{blames_where}
use Rattle.dl_locating.proofs.AnsweringLemmas.{index_none, index_some}
use Rattle.dl_locating.proofs.BlameLemmas.{after_read, after_writer}
use Rattle.dl_locating.proofs.over_elf_file.by_index.Goals as goal

pub returns-in_default-clause-located : goal.returns-in_default-clause-located
returns-in_default-clause-located g c =
    let made = c.make_index-answer.ensures.made in (
      [],
      Consumes-nil _,
      λ understood f known short. (
        c.table_of-table.result,
        c.table_of-table.ensures,
        made.0,
        c.make_index-answer.result.answer,
        made.1 f known short,
        inl (
          index_none (g.M.Memory.refuses c.args.memory.now) made.0 c.make_index-answer.result.answer c.make_index-answer.result.index
              made.2 c.in_default.is,
          (refl, refl, Keeps-refl _),
        ),
      ),
    )

pub returns-clause-located : goal.returns-clause-located
returns-clause-located g c =
    let w = addr_words_made c.args.words.now in
    let made = c.make_index-answer.ensures.made in
    let index = index_some (g.M.Memory.refuses c.args.memory.now) made.0 c.make_index-answer.result.answer c.make_index-answer.result.index
    c.in-Some.index made.2 c.in-Some.is in
    let e = c.answer_made-answered.ensures.answers in (
      e.0,
      e.1,
      λ understood f known short. (
        c.table_of-table.result,
        c.table_of-table.ensures,
        made.0,
        c.make_index-answer.result.answer,
        made.1 f known short,
        inr (
          index.0,
          c.answer_made-answered.result,
          subst (λ b. AnswersMade (g.M.Memory.refuses c.args.memory.now) w b e.0 (g.R.Read.remaining c.answer_made-answered.new.input)
              (g.W.Write.contents c.args.output.now) (g.W.Write.contents c.answer_made-answered.new.output)
              c.answer_made-answered.result) (c.as_slice.ensures.value ∙ index.1) (e.2 understood),
          c.located_after.ensures,
        ),
      ),
    )

pub returns-in_default-clause-blames : goal.returns-in_default-clause-blames
returns-in_default-clause-blames g c first is = (is, λ e. absurd (let e = e.0 in cc))

pub returns-clause-blames : goal.returns-clause-blames
returns-clause-blames g c =
    blames_where c.answer_made-answered.ensures.blames (λ e. (
      after_read ⊥ c.args.path c.make_index-answer.result.answer c.answer_made-answered.result c.make_index-answer.ensures.blames
          (sym c.located_after.ensures ∙ e.0),
      e.1,
    ))

pub returns-clause-blames_writer : goal.returns-clause-blames_writer
returns-clause-blames_writer g c =
    rw c.located_after.ensures (after_writer g.W.Destination.fails c.args.path c.make_index-answer.result.answer c.answer_made-answered.result
    c.make_index-answer.ensures.blames c.answer_made-answered.ensures.blames_writer)
