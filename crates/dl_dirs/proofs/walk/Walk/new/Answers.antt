use Rattle.std.proofs.Common.{[], arith}
use Rattle.dl_dirs.proofs.walk.Walk.new.Goals as goal

pub returns-clause-few : goal.returns-clause-few
returns-clause-few c = record {
  es = [];
  holds = c.new-3.ensures.holds;
  over = 0;
  fits = c.new-3.ensures.few;
  within = omega arith;
}
