use Rattle.std.proofs.Common.{refl, sym, ap}
use Rattle.dl_head.specs.declared.reader.HeadStep.{HeadStep}
use Rattle.dl_head.proofs.OneByteMore.{ended_as, ended_whole, still_goes}
use Rattle.dl_head.proofs.reader.HeadReader.offer.Goals as goal

pub returns-in-Some-clause-ended : goal.returns-in-Some-clause-ended
returns-in-Some-clause-ended c b r s answers other = (
  ap (λ (h : HeadStep). (0, h)) (ended_as c.args.self.now b c.in-Some.last r (sym c.in-Some.ensures) s answers),
  refl,
)

pub returns-in-Some-clause-progress : goal.returns-in-Some-clause-progress
returns-in-Some-clause-progress c b s more =
    absurd (ended_whole c.args.self.now b c.in-Some.last (sym c.in-Some.ensures) s more)

pub returns-in-None-clause-ended : goal.returns-in-None-clause-ended
returns-in-None-clause-ended c b r s answers other =
    absurd (still_goes c.args.self.now b r (sym c.in-None.ensures) s answers other)
