use Rattle.dl_crc.proofs.CrcLemmas.{pieces_are_whole}
use Rattle.dl_crc.proofs.laws.pieces_are_whole.Goals as goal

pub returns : goal.returns
returns c = pieces_are_whole
