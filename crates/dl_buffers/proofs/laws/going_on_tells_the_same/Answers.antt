use Rattle.dl_buffers.proofs.AlikeLemmas.{checks_alike, finds_alike, tells_first}
use Rattle.dl_buffers.proofs.laws.going_on_tells_the_same.Goals as goal

pub returns-clause-counts : goal.returns-clause-counts
returns-clause-counts c = checks_alike

pub returns-clause-first : goal.returns-clause-first
returns-clause-first c = tells_first

pub returns-clause-found : goal.returns-clause-found
returns-clause-found c = finds_alike
