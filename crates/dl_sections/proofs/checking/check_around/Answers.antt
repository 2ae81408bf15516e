use Rattle.dl_sections.proofs.Names.{[], Appends-nil, err_from_is_err_and, HasPrinted-nothing, HasPrinted-out}
use Rattle.dl_print.specs.Text.{survey_line}
use Rattle.dl_sections.proofs.CheckingLemmas.{begins, counts_lost, counts_out, failed_around}
use Rattle.dl_sections.proofs.BlameLemmas.{blames_where}
use Rattle.dl_sections.proofs.EndLemmas.{only_left}
use Rattle.dl_sections.proofs.checking.check_around.Goals as goal

pub returns-in_err-survey : goal.returns-in_err-survey
returns-in_err-survey g c =
    let p = err_from_is_err_and c.from_residual.result c.from_residual.ensures.1 in
    rw (p.1, p.2) (record {
      ran = failed_around _ _ _ _ _ _ _ _ _ _ (search) _ c.in_err-survey.ensures.ran;
      blames = blames_where c.in_err-survey.ensures.blames (λ e. (record { tells = begins e.0; out = Appends-nil _; never = λ visits no. no }, e.1));
      blames_writer = λ hears. c.in_err-survey.ensures.blames_writer (begins hears) (Appends-nil _);
      over = λ hears. tt;
    })

pub returns-in_err-survey-2 : goal.returns-in_err-survey-2
returns-in_err-survey-2 g c =
    let p = err_from_is_err_and c.from_residual-in_err-survey-2.result c.from_residual-in_err-survey-2.ensures.1 in
    let new = c.new-printer in
    rw (p.1, p.2) (record {
      ran = counts_lost _ _ _ _ _ _ _ _ _ _ (search) _ c.in_ok-survey.ensures.ran
          (g.W.Write.contents c.survey.new.output) _ (λ out. rw (← c.damaged_units.ensures) (c.in_err-survey-2.ensures.printed _ []
          (HasPrinted-nothing _ _ new.result out new.ensures.nothing_pending new.ensures.nothing_out)));
      blames = blames_where c.in_ok-survey.ensures.blames (λ e. absurd cc);
      blames_writer = λ hears. c.in_err-survey-2.ensures.blames;
      over = λ hears. tt;
    })

pub returns-in_err-flush : goal.returns-in_err-flush
returns-in_err-flush g c =
    let p = err_from_is_err_and c.from_residual-in_err-flush.result c.from_residual-in_err-flush.ensures.1 in
    let new = c.new-printer in
    rw (p.1, p.2) (record {
      ran = counts_lost _ _ _ _ _ _ _ _ _ _ (search) _ c.in_ok-survey.ensures.ran
          (g.W.Write.contents c.flush.new.output) _ (λ out. rw (← c.damaged_units.ensures) (c.in_err-flush.ensures.printed _ _
          (c.in_ok-survey-2.ensures.printed _ []
          (HasPrinted-nothing _ _ new.result out new.ensures.nothing_pending new.ensures.nothing_out))));
      blames = blames_where c.in_ok-survey.ensures.blames (λ e. absurd cc);
      blames_writer = λ hears. c.in_err-flush.ensures.blames;
      over = λ hears. tt;
    })

pub returns : goal.returns
returns g c =
    let new = c.new-printer in
    let start = g.W.Write.contents c.args.output.now in
    let now = g.W.Write.contents c.flush.new.output in
    let line = survey_line c.in_ok-survey.survey.summary c.damaged_units.result in
    record {
      ran = counts_out _ _ _ _ _ _ _ _ _ _ (search) _ c.in_ok-survey.ensures.ran now (λ out. rw (← c.damaged_units.ensures) (HasPrinted-out start now line
          c.flush.new.self (c.in_ok-flush.ensures.printed start line (c.in_ok-survey-2.ensures.printed start []
          (HasPrinted-nothing _ _ new.result out new.ensures.nothing_pending new.ensures.nothing_out)))
          c.in_ok-flush.ensures.empty));
      blames = blames_where c.in_ok-survey.ensures.blames (λ e. absurd cc);
      blames_writer = λ hears. tt;
      over = λ hears whole. only_left (λ done. done.1) (c.in_ok-survey.ensures.over (begins hears) (Appends-nil _) whole);
    }
