use Rattle.std.proofs.Common.{sym}
use Rattle.dl_head.proofs.HeaderGiven.{gives_of}
use Rattle.dl_head.proofs.reader.HeadReader.header.Goals as goal

pub returns : goal.returns
returns c = gives_of c.args.self.now _ (sym c.as_ref.ensures.value)
