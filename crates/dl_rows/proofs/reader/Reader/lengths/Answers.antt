use Rattle.dl_rows.proofs.ReaderLemmas.{header_here}
use Rattle.dl_rows.proofs.reader.Reader.lengths.Goals as goal

pub returns : goal.returns
returns c b s =
    let after = rw c.in-AfterHeader.is at s in
    let here = header_here c.args.self.now.dialect c.in-AfterHeader.field-0 c.in-AfterHeader.field-2 b after.in_body in
    (c.in-AfterHeader.field-0, here.0, here.1, after.lengths_are)
