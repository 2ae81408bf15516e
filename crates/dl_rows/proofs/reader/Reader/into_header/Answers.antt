use Rattle.dl_rows.proofs.ReaderLemmas.{header_here}
use Rattle.dl_rows.proofs.reader.Reader.into_header.Goals as goal

pub returns-in-AfterHeader : goal.returns-in-AfterHeader
returns-in-AfterHeader c b s =
    header_here c.args.self.dialect c.in-AfterHeader.header c.in-AfterHeader.field-2 b (rw c.in-AfterHeader.is at s).in_body
