use Rattle.dl_index.proofs.LayoutLemmas.{len_of}
use Rattle.dl_index.proofs.layout.Layout.is_of.Goals as goal

pub returns-then-bytes-self : goal.returns-then-bytes-self
returns-then-bytes-self c is = c.if-bytes-self.true (len_of c.args.self.now c.args.bytes.now is)
