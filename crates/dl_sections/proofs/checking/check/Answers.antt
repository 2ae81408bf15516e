use Rattle.dl_sections.proofs.Names.{[], Appends-nil, err_from_is_err_and, HasPrinted-out, summary_line}
use Rattle.dl_sections.proofs.CheckingLemmas.{begins, failed, line_lost, line_out, nothing_printed}
use Rattle.dl_sections.proofs.BlameLemmas.{blames_where}
use Rattle.dl_sections.proofs.EndLemmas.{only_left}
use Rattle.dl_sections.proofs.checking.check.Goals as goal

pub returns-in_err-summary : goal.returns-in_err-summary
returns-in_err-summary g c =
    let p = err_from_is_err_and c.from_residual.result c.from_residual.ensures.1 in
    rw (p.1, p.2) (record {
      ran = failed _ _ _ _ _ _ _ _ _ tt _ c.in_err-summary.ensures.ran;
      blames = blames_where c.in_err-summary.ensures.blames (λ e. (record { tells = begins tt; out = Appends-nil _; never = λ visits no. no }, e));
      blames_writer = c.in_err-summary.ensures.blames_writer (begins tt) (Appends-nil _);
      over = tt;
    })

pub returns-in_err-summary-2 : goal.returns-in_err-summary-2
returns-in_err-summary-2 g c =
    let p = err_from_is_err_and c.from_residual-in_err-summary-2.result c.from_residual-in_err-summary-2.ensures.1 in
    let new = c.new-printer in
    let nothing = nothing_printed _ _ _ _ _ _ _ _ _ tt _ c.in_ok-summary.ensures.ran new.result new.ensures.nothing_pending
    new.ensures.nothing_out in
    rw (p.1, p.2) (record {
      ran = line_lost _ _ _ _ _ _ _ _ _ tt _ c.in_ok-summary.ensures.ran (g.W.Write.contents c.summary.new.output) _
          (c.in_err-summary-2.ensures.printed _ [] nothing);
      blames = blames_where c.in_ok-summary.ensures.blames (λ e. absurd cc);
      blames_writer = c.in_err-summary-2.ensures.blames;
      over = tt;
    })

pub returns-in_err-flush : goal.returns-in_err-flush
returns-in_err-flush g c =
    let p = err_from_is_err_and c.from_residual-in_err-flush.result c.from_residual-in_err-flush.ensures.1 in
    let new = c.new-printer in
    let nothing = nothing_printed _ _ _ _ _ _ _ _ _ tt _ c.in_ok-summary.ensures.ran new.result new.ensures.nothing_pending
    new.ensures.nothing_out in
    rw (p.1, p.2) (record {
      ran = line_lost _ _ _ _ _ _ _ _ _ tt _ c.in_ok-summary.ensures.ran (g.W.Write.contents c.flush.new.output) _
          (c.in_err-flush.ensures.printed _ (summary_line c.in_ok-summary.summary)
          (c.in_ok-summary-2.ensures.printed _ [] nothing));
      blames = blames_where c.in_ok-summary.ensures.blames (λ e. absurd cc);
      blames_writer = c.in_err-flush.ensures.blames;
      over = tt;
    })

pub returns : goal.returns
returns g c =
    let new = c.new-printer in
    let start = g.W.Write.contents c.args.output.now in
    let now = g.W.Write.contents c.flush.new.output in
    let line = summary_line c.in_ok-summary.summary in
    let nothing = nothing_printed _ _ _ _ _ _ _ _ _ tt _ c.in_ok-summary.ensures.ran new.result new.ensures.nothing_pending
    new.ensures.nothing_out in
    let printed = c.in_ok-flush.ensures.printed start line (c.in_ok-summary-2.ensures.printed start [] nothing) in
    record {
      ran = line_out _ _ _ _ _ _ _ _ _ tt _ c.in_ok-summary.ensures.ran now
          (HasPrinted-out start now line c.flush.new.self printed c.in_ok-flush.ensures.empty);
      blames = blames_where c.in_ok-summary.ensures.blames (λ e. absurd cc);
      blames_writer = tt;
      over = only_left (λ done. done.1) (c.in_ok-summary.ensures.over (begins tt) (Appends-nil _));
    }
