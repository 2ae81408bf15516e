use Rattle.std.proofs.Common.{[], refl}
use Rattle.dl_rows.proofs.ReaderFeeds.{fed_alone}
use Rattle.dl_rows.proofs.reader.Reader.feed.Goals as goal

pub returns-clause-fed : goal.returns-clause-fed
returns-clause-fed c b s =
    fed_alone c.args.self.now.dialect b c.args.piece.now c.feed_program.result c.feed_program.new.self _
    (c.feed_program.ensures.fed b [] _ s refl)
