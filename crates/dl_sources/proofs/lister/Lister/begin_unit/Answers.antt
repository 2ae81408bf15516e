use Rattle.std.proofs.Common.{ℕ, [], subst}
use Rattle.dl_sources.specs.Counting.{Counting}
use Rattle.dl_sources.proofs.lister.Lister.begin_unit.Goals as goal

pub returns-clause-counts : goal.returns-clause-counts
returns-clause-counts g c live =
    subst (λ (n : ℕ). Counting live n c.in_ok-self.field-0 []) c.files_end.ensures.end (c.in_ok-self.ensures.begun live)
