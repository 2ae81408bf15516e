use Rattle.dl_rows.proofs.ReaderFeeds.{finish_cut}
use Rattle.dl_rows.proofs.reader.finish_in_header.Goals as goal

pub returns : goal.returns
returns c dialect b s =
    finish_cut dialect c.args.head.now b c.taken-taken.result (c.taken-taken.ensures b s.stands) c.if-taken-eq0.false s
