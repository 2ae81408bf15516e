use Rattle.dl_path.proofs.RoomLemmas.{parts_have_room}
use Rattle.dl_path.proofs.laws.parts_have_room.Goals as goal

pub returns : goal.returns
returns c = parts_have_room
