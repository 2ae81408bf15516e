use Rattle.dl_head.proofs.ReadSound.{header_is_sound}
use Rattle.dl_head.proofs.laws.header_is_sound.Goals as goal

pub returns : goal.returns
returns c = header_is_sound
