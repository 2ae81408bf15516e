use Rattle.std.proofs.Common.{None, ◌≡◌, ◌==◌, ℕ, rules, arith, length, vec_len, [], Err, inl, inr, refl, sym, ap, ◌∙◌}
use Rattle.std.specs.Option.{option_copied}
use Rattle.std.proofs.lemmas.Bool.{eqb-true}
use Rattle.std.proofs.lemmas.Grind.{common_steps}
use Rattle.std.proofs.KnownBytes.{Consumes-nil}
use Rattle.std.proofs.lemmas.Result.{err_from_is_err_and}
use Rattle.dl_cmd.specs.Job.{addr_words_made}
use Rattle.dl_sections.proofs.BlameLemmas.{blames_where}
use Rattle.dl_locating.proofs.BlameLemmas.{located_read, located_writer, no_read, words_reads, words_writer}
use Rattle.dl_locating.proofs.LocateLemmas.{asks_all, section_done, section_stops}
use Rattle.dl_locating.proofs.WordsLemmas.{map_none}
use Rattle.dl_locating.proofs.locating.in_section.Goals as goal

pub returns-then-not-suits_input-clause-located : goal.returns-then-not-suits_input-clause-located
returns-then-not-suits_input-clause-located g c = (
  [],
  Consumes-nil _,
  section_stops (g.M.Memory.refuses c.args.memory.now) _ _ _ _ _ _ _ refl (inr (inl (sym c.suits_input.ensures ∙ c.if-not-suits_input.true), refl)),
)

pub returns-in_err-base-clause-located : goal.returns-in_err-base-clause-located
returns-in_err-base-clause-located g c =
    let p = err_from_is_err_and c.from_residual.result c.from_residual.ensures.1 in (
      [],
      Consumes-nil _,
      section_stops (g.M.Memory.refuses c.args.memory.now) _ _ _ _ _ _ c.in_err-base.field-0.0 (p.1
          ∙ ap Err p.2) (inl c.in_err-base.ensures.stops),
    )

pub returns-then-is_empty-clause-located : goal.returns-then-is_empty-clause-located
returns-then-is_empty-clause-located g c =
    let asked = c.in_ok-base.field-0.asked in
    let none : vec_len asked ≡ 0 = eqb-true (vec_len asked) 0 (sym c.is_empty.ensures ∙ c.if-is_empty.true) in
    let empty : length asked.items ≡ 0 = first_of (omega arith, search rules, grind (arith, common_steps)) in (
      [],
      Consumes-nil _,
      section_stops (g.M.Memory.refuses c.args.memory.now) _ _ _ _ _ _ _ refl (inr (inr (map_none _ _ _ c.in_ok-base.ensures.asked empty), refl)),
    )

pub returns-clause-located : goal.returns-clause-located
returns-clause-located g c =
    let told = c.in_ok-base.ensures in
    let q = c.question-question.ensures in
    let e = c.on_input-answer.ensures.ran in
    let asked = c.in_ok-base.field-0.asked in
    let len : vec_len asked ≡ length asked.items = first_of (omega arith, search rules, grind (arith, common_steps)) in (
      e.0,
      e.1,
      section_done (g.M.Memory.refuses c.args.memory.now) (g.F.FileSource.held c.args.files.now) (g.F.FileSource.fails_with c.args.files.now)
          (addr_words_made c.args.words.now) _ c.question-question.result e.0
          _ _ _ _ c.asking-command.result c.on_input-answer.result _ (sym c.suits_input.ensures ∙ c.if-not-suits_input.false)
          told.asked (ap (λ (n : ℕ). n == 0) (sym len) ∙ sym c.is_empty.ensures ∙ c.if-is_empty.false)
          (asks_all (addr_words_made c.args.words.now) c.in_ok-base.field-0 _ _ c.said_directory.result c.question-question.result
          (record { base = told.base; asked = told.asked; understood = told.understood }) q.asked
          c.as_slice.ensures.value q.base (q.code ∙ c.everywhere.ensures) q.directories c.said_directory.ensures q.form
          q.basenames (ap option_copied q.section ∙ c.part_name.ensures))
          refl c.asking-command.ensures (e.2 tt) c.by_answer.ensures,
    )

pub returns-then-not-suits_input-clause-blames : goal.returns-then-not-suits_input-clause-blames
returns-then-not-suits_input-clause-blames g c first is = (is, λ e. absurd (let e = e.0 in cc))

pub returns-in_err-base-clause-blames : goal.returns-in_err-base-clause-blames
returns-in_err-base-clause-blames g c first is =
    let p = err_from_is_err_and c.from_residual.result c.from_residual.ensures.1 in (
      is,
      λ e. absurd (no_read (Err c.in_err-base.field-0.0) (words_reads (g.M.Memory.refuses c.args.memory.now) (addr_words_made c.args.words.now)
          c.in_err-base.field-0.0 c.in_err-base.ensures.stops) (sym (p.1 ∙ ap Err p.2) ∙ e.0)),
    )

pub returns-in_err-base-clause-blames_writer : goal.returns-in_err-base-clause-blames_writer
returns-in_err-base-clause-blames_writer g c =
    let p = err_from_is_err_and c.from_residual.result c.from_residual.ensures.1 in
    rw (p.1, p.2) (words_writer g.W.Destination.fails (g.M.Memory.refuses c.args.memory.now) (addr_words_made c.args.words.now)
    c.in_err-base.field-0.0 c.in_err-base.ensures.stops)

pub returns-then-is_empty-clause-blames : goal.returns-then-is_empty-clause-blames
returns-then-is_empty-clause-blames g c first is = (is, λ e. absurd (let e = e.0 in cc))

pub returns-clause-blames : goal.returns-clause-blames
returns-clause-blames g c =
    blames_where c.on_input-answer.ensures.blames (λ e.
    (tt, located_read c.on_input-answer.result None (sym c.by_answer.ensures ∙ e.0), e.2))

pub returns-clause-blames_writer : goal.returns-clause-blames_writer
returns-clause-blames_writer g c =
    rw c.by_answer.ensures (located_writer g.W.Destination.fails c.on_input-answer.result None (c.on_input-answer.ensures.blames_writer tt))
