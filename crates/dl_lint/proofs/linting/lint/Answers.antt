use Rattle.std.proofs.Common.{Ok, Err, refl}
use Rattle.std.proofs.KnownBytes.{Appends-nil}
use Rattle.std.proofs.lemmas.Result.{err_from_is_err_and}
use Rattle.dl_print.proofs.Outs.{HasPrinted-nothing}
use Rattle.dl_sections.proofs.BlameLemmas.{blames_where, same_answer}
use Rattle.dl_sections.proofs.EndLemmas.{only_left}
use Rattle.dl_lint.proofs.CommandLemmas.{lints_all, lints_some, not_blamed}
use Rattle.dl_lint.proofs.LintingLemmas.{begins}
use Rattle.dl_lint.proofs.linting.lint.Goals as goal

pub returns-in_err-summary : goal.returns-in_err-summary
returns-in_err-summary g c =
    let p = err_from_is_err_and c.from_residual.result c.from_residual.ensures.1 in
    let start = g.W.Write.contents c.args.output.now in
    let read = c.in_err-summary.ensures in
    let nothing = HasPrinted-nothing start start c.new.result (Appends-nil start) c.new.ensures.nothing_pending
    c.new.ensures.nothing_out in
    rw (p.1, p.2) (record {
      ran = (
        read.ran.0,
        read.ran.1,
        lints_some _ _ _ _ _ _ _ _ _ _ _ (read.ran.2 (begins tt refl c.at_start.ensures (c.before_units.ensures c.args.question.now.rules) (c.before_units-2.ensures c.args.question.now)
            c.ends_of.ensures c.none.ensures nothing) (Appends-nil start)),
      );
      blames = blames_where read.blames (λ e. (
        record {
          tells = (begins tt refl c.at_start.ensures (c.before_units.ensures c.args.question.now.rules) (c.before_units-2.ensures c.args.question.now)
              c.ends_of.ensures c.none.ensures nothing);
          out = Appends-nil start;
          never = λ visits no. (let e = no.0 in absurd cc);
        },
        same_answer _ e,
      ));
      blames_writer = read.blames_writer (begins tt refl c.at_start.ensures (c.before_units.ensures c.args.question.now.rules) (c.before_units-2.ensures c.args.question.now)
          c.ends_of.ensures c.none.ensures nothing) (Appends-nil start);
      over = tt;
    })

pub returns-in_err-counts : goal.returns-in_err-counts
returns-in_err-counts g c =
    let p = err_from_is_err_and c.from_residual-in_err-counts.result c.from_residual-in_err-counts.ensures.1 in
    let start = g.W.Write.contents c.args.output.now in
    let read = c.in_ok-summary.ensures in
    let nothing = HasPrinted-nothing start start c.new.result (Appends-nil start) c.new.ensures.nothing_pending
    c.new.ensures.nothing_out in
    let ran = read.ran.2 (begins tt refl c.at_start.ensures (c.before_units.ensures c.args.question.now.rules) (c.before_units-2.ensures c.args.question.now)
    c.ends_of.ensures c.none.ensures nothing) (Appends-nil start) in
    rw (p.1, p.2) (record {
      ran = (
        read.ran.0,
        read.ran.1,
        lints_all _ _ _ _ _ _ _ _ _ _ _ _ ran (Err _) (c.in_err-counts.ensures.told.1 _ start),
      );
      blames = blames_where read.blames (λ e. absurd (not_blamed _ _ _ _ _ _ _ _ _ _ _ _ ran _ (c.in_err-counts.ensures.told.1 _ start) (same_answer _ e)));
      blames_writer = c.in_err-counts.ensures.blames_writer;
      over = tt;
    })

pub returns : goal.returns
returns g c =
    let start = g.W.Write.contents c.args.output.now in
    let read = c.in_ok-summary.ensures in
    let nothing = HasPrinted-nothing start start c.new.result (Appends-nil start) c.new.ensures.nothing_pending
    c.new.ensures.nothing_out in
    let ran = read.ran.2 (begins tt refl c.at_start.ensures (c.before_units.ensures c.args.question.now.rules) (c.before_units-2.ensures c.args.question.now)
    c.ends_of.ensures c.none.ensures nothing) (Appends-nil start) in
    record {
      ran = (
        read.ran.0,
        read.ran.1,
        lints_all _ _ _ _ _ _ _ _ _ _ _ _ ran (Ok _) (c.in_ok-counts.ensures.told.1 _ start),
      );
      blames = blames_where read.blames (λ e. absurd cc);
      blames_writer = tt;
      over = only_left (λ done. done.1) (read.over (begins tt refl c.at_start.ensures (c.before_units.ensures c.args.question.now.rules) (c.before_units-2.ensures c.args.question.now)
          c.ends_of.ensures c.none.ensures nothing) (Appends-nil start));
    }
