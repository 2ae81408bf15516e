use Rattle.std.proofs.Common.{◌∙◌, ap, refl, sym}
use Rattle.std.proofs.KnownBytes.{Appends-nil}
use Rattle.std.proofs.lemmas.Result.{err_from_is_err_and}
use Rattle.dl_print.proofs.Outs.{HasPrinted-nothing}
use Rattle.dl_print.specs.ValueText.{Strings}
use Rattle.dl_sections.proofs.BlameLemmas.{blames_where, same_answer}
use Rattle.dl_dump.proofs.UnitCommandLemmas.{dumps, dumps_not_in, never_read, none_begins, only_over}
use Rattle.dl_dump.proofs.UnitLemmas.{begins}
use Rattle.dl_dump.proofs.unit_dumping.dump_unit.Goals as goal

pub returns-in_err-survey-clause-ran : goal.returns-in_err-survey-clause-ran
returns-in_err-survey-clause-ran g c =
    let e = err_from_is_err_and c.from_residual.result c.from_residual.ensures.1 in
    let start = g.W.Write.contents c.args.output.now in
    let read = c.in_err-survey.ensures.ran in
    let nothing = HasPrinted-nothing start start c.new.result (Appends-nil start) c.new.ensures.nothing_pending
    c.new.ensures.nothing_out in
    rw (e.1, e.2) (
      read.0,
      read.1,
      dumps_not_in _ _ _ _ _ _ _ _ (record { at = refl; current = refl; begun = refl; damage = refl }) _
          (ap (λ (s : Strings). record { details = c.args.details.now; strings = s }) c.new-strings.ensures) _
          (read.2 (begins nothing) (Appends-nil start)),
    )

pub returns-in_err-survey-clause-blames : goal.returns-in_err-survey-clause-blames
returns-in_err-survey-clause-blames g c =
    let e = err_from_is_err_and c.from_residual.result c.from_residual.ensures.1 in
    let start = g.W.Write.contents c.args.output.now in
    let nothing = HasPrinted-nothing start start c.new.result (Appends-nil start) c.new.ensures.nothing_pending
    c.new.ensures.nothing_out in
    rw (e.1, e.2) (blames_where c.in_err-survey.ensures.blames (λ blamed. (
      record { tells = begins nothing; out = Appends-nil start; never = λ visits no. no },
      same_answer _ blamed,
    )))

pub returns-clause-ran : goal.returns-clause-ran
returns-clause-ran g c =
    let start = g.W.Write.contents c.args.output.now in
    let read = c.in_ok-survey.ensures.ran in
    let nothing = HasPrinted-nothing start start c.new.result (Appends-nil start) c.new.ensures.nothing_pending
    c.new.ensures.nothing_out in (
      read.0,
      read.1,
      rw (c.unit_at.ensures, ← c.new-strings.ensures) (dumps _ _ _ _ _ _ _ _
          (record { at = refl; current = refl; begun = refl; damage = refl }) _ (read.2 (begins nothing) (Appends-nil start))),
    )

pub returns-clause-blames : goal.returns-clause-blames
returns-clause-blames g c =
    blames_where c.in_ok-survey.ensures.blames
    (λ blamed. absurd (never_read _ _ _ (sym c.unit_at.ensures ∙ blamed)))

pub returns-in_err-survey-clause-over : goal.returns-in_err-survey-clause-over
returns-in_err-survey-clause-over g c told =
    let e = err_from_is_err_and c.from_residual.result c.from_residual.ensures.1 in
    absurd (let never = rw (e.1, e.2) at told in cc)

pub returns-clause-over : goal.returns-clause-over
returns-clause-over g c told =
    let start = g.W.Write.contents c.args.output.now in
    let nothing = HasPrinted-nothing start start c.new.result (Appends-nil start) c.new.ensures.nothing_pending
    c.new.ensures.nothing_out in
    let none = none_begins _ _ _ (sym c.unit_at.ensures ∙ told) in
    only_over _ _ start _ (g.R.Source.over c.read_units_around.new.input) none.0
    (c.in_ok-survey.ensures.over (begins nothing) (Appends-nil start) none.1)
