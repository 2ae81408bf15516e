use Rattle.std.proofs.Common.{IfSome, subst}
use Rattle.dl_index_file.specs.Finding.{IsKeptAnswer}
use Rattle.dl_index_file.specs.Steps.{StretchTells}
use Rattle.dl_index_file.proofs.finder.FileFinder.found.Goals as goal

pub returns-then-last-k-clause-tells : goal.returns-then-last-k-clause-tells
returns-then-last-k-clause-tells g c f is short =
    subst (λ k. StretchTells f k c.in-Some.last.found) c.if-last-k.true
    (subst (λ l. IfSome l (IsKeptAnswer f)) c.in-Some.is (c.args.self.now.kept f is short))
