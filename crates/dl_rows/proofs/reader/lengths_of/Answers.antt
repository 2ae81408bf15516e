use Rattle.dl_rows.proofs.HeadFeeds.{lengths_given, lengths_taken}
use Rattle.dl_rows.proofs.reader.lengths_of.Goals as goal

pub unreachable-requires : goal.unreachable-requires
unreachable-requires c = lengths_given c.args.head.now c.lengths.result c.requires c.lengths.ensures c.in_default.is

pub returns : goal.returns
returns c = lengths_taken c.args.head.now c.lengths.result c.in-Some.lengths c.lengths.ensures c.in-Some.is
