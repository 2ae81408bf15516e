use Rattle.std.proofs.Common.{⊎_elim, arith}
use Rattle.dl_index.proofs.index.IndexRef.stretch.Goals as goal

pub returns-in_err-start-clause-whole : goal.returns-in_err-start-clause-whole
returns-in_err-start-clause-whole c is less =
    absurd
    (⊎_elim
    (λ past. omega arith)
    (λ above. (let top = is.ordered.top c.args.k less in omega arith))
    c.in_err-start.ensures)
