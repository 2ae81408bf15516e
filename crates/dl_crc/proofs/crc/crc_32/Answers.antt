use Rattle.std.proofs.Common.{[]}
use Rattle.dl_crc.proofs.crc.crc_32.Goals as goal

pub returns : goal.returns
returns c = c.finish.ensures c.args.bytes.now (c.update.ensures [] c.new-crc.ensures)
