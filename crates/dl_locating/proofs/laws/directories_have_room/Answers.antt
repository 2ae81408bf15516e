use Rattle.dl_locating.proofs.RoomLemmas.{directories_have_room}
use Rattle.dl_locating.proofs.laws.directories_have_room.Goals as goal

pub returns : goal.returns
returns c = directories_have_room
