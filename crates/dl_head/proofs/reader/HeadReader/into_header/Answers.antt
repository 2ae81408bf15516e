use Rattle.std.proofs.Common.{refl}
use Rattle.dl_head.proofs.HeaderGiven.{gives_of}
use Rattle.dl_head.proofs.reader.HeadReader.into_header.Goals as goal

pub returns : goal.returns
returns c = gives_of c.args.self _ refl
