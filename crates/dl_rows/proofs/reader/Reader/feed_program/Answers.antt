use Rattle.std.proofs.Common.{refl}
use Rattle.dl_rows.proofs.HeardLemmas.{no_row_paused}
use Rattle.dl_rows.proofs.ReaderFeeds.{feeds_body, feeds_foreign, feeds_head, feeds_stopped}
use Rattle.dl_rows.proofs.reader.Reader.feed_program.Goals as goal

pub returns-in-InHeader-clause-fed : goal.returns-in-InHeader-clause-fed
returns-in-InHeader-clause-fed g c b before first s hears =
    feeds_head c.args.self.now c.feed_head.new.self c.in-InHeader.is s (c.feed_head.ensures.fed b s)
    c.feed_head.ensures.no_row hears

pub returns-in-StoppedInHeader-clause-fed : goal.returns-in-StoppedInHeader-clause-fed
returns-in-StoppedInHeader-clause-fed g c b before first s hears =
    feeds_stopped c.args.self.now _ c.in-StoppedInHeader.is refl refl s hears

pub returns-in-Foreign-clause-fed : goal.returns-in-Foreign-clause-fed
returns-in-Foreign-clause-fed g c b before first s hears =
    feeds_foreign c.args.self.now _ c.in-Foreign.is refl refl s
    (λ version in_foreign. c.pass_over.ensures.fed c.args.self.now.dialect version b in_foreign)
    (no_row_paused c.pass_over.result.event c.pass_over.ensures.pause) hears

pub returns-in-AfterHeader-clause-fed : goal.returns-in-AfterHeader-clause-fed
returns-in-AfterHeader-clause-fed g c b before first s hears =
    feeds_body c.args.self.now _ c.in-AfterHeader.is refl refl s
    (λ at. c.feed.ensures.fed b before first at hears)
