use Rattle.dl_rows.proofs.ReaderLemmas.{header_here}
use Rattle.dl_rows.proofs.reader.Reader.header.Goals as goal

pub returns : goal.returns
returns c b s =
    header_here c.args.self.now.dialect c.in-AfterHeader.header c.in-AfterHeader.field-2 b (rw c.in-AfterHeader.is at s).in_body
