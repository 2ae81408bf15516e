use Rattle.std.proofs.Common.{[]}
use Rattle.dl_forms.proofs.WalkLemmas.{begins_none, nil_onward}
use Rattle.dl_forms.proofs.walk.StringWalk.new.Goals as goal

pub returns-clause-stands : goal.returns-clause-stands
returns-clause-stands c =
    ([], c.new.ensures.dialect, begins_none c.new.result c.new.ensures.stands, nil_onward c.args.dialect)
