use Rattle.dl_sections.proofs.Names.{Appends-nil, err_from_is_err_and, None, refl}
use Rattle.dl_sections.proofs.PassingLemmas.{counted, failed}
use Rattle.dl_sections.proofs.BlameLemmas.{blames_where, same_answer}
use Rattle.dl_sections.proofs.passing_over.passed_over.Goals as goal

pub returns-in_err-summary : goal.returns-in_err-summary
returns-in_err-summary g c =
    let p = err_from_is_err_and c.from_residual.result c.from_residual.ensures.1 in
    let read = c.in_err-summary.ensures.ran in
    rw (p.1, p.2) (record {
      ran = (read.0, read.1, failed _ _ _ _ _ _ _ _ _ (read.2 (Appends-nil None, refl) (Appends-nil None)));
      blames = blames_where c.in_err-summary.ensures.blames (λ e. (
        record { tells = (Appends-nil None, refl); out = Appends-nil None; never = λ visits no. no },
        same_answer _ e,
      ));
    })

pub returns : goal.returns
returns g c =
    let read = c.in_ok-summary.ensures.ran in record {
      ran = (
        read.0,
        read.1,
        counted _ _ _ _ _ c.read_units.new.visitor _ _ c.in_ok-summary.summary c.passed_over.result
            (read.2 (Appends-nil None, refl) (Appends-nil None)) c.passed_over.ensures,
      );
      blames = blames_where c.in_ok-summary.ensures.blames (λ e. absurd cc);
    }
