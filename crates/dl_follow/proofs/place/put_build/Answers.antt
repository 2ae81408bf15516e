use Rattle.dl_follow.proofs.place.put_build.Goals as goal

pub returns : goal.returns
returns c = rw (c.halves.ensures.first, c.halves.ensures.others) at c.put_parts.ensures
