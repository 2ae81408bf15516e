use Rattle.std.proofs.Common.{[], refl}
use Rattle.dl_buffers.proofs.RoomLemmas.{over_none}
use Rattle.dl_buffers.proofs.naming.join.Goals as goal

pub returns-clause-written : goal.returns-clause-written
returns-clause-written c = c.join_after.ensures.written c.args.room.now [] (over_none c.args.room.now) refl

pub returns-clause-len : goal.returns-clause-len
returns-clause-len c = c.join_after.ensures.len [] refl
