use Rattle.std.proofs.Common.{◌-◌, ap, ◌∙◌}
use Rattle.dl_index.proofs.ColumnLemmas.{entries_are, last_of_same}
use Rattle.dl_index.proofs.index.IndexRef.last_upto.Goals as goal

pub returns-clause-last : goal.returns-clause-last
returns-clause-last c =
    let self = c.args.self.now in
    let starts = self.cut.starts in
    let offset = c.in_ok-offset.ensures.1 ∙ ap (λ base. c.args.address - base) self.laid_out.sizes.base in
    last_of_same _ _ _ _ _ _ _ (entries_are starts) starts.len offset c.last_upto.ensures.last
