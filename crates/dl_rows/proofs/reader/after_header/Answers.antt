use Rattle.std.proofs.Common.{◌==◌, not, ap}
use Rattle.dl_rows.proofs.HeadFeeds.{header_knows, header_given}
use Rattle.dl_rows.proofs.JoinLemmas.{after_the_header}
use Rattle.dl_rows.proofs.reader.after_header.Goals as goal

pub bytes_of-bytes-requires : goal.bytes_of-bytes-requires
bytes_of-bytes-requires c = header_knows c.args.head c.requires

pub unreachable-requires : goal.unreachable-requires
unreachable-requires c = header_given c.args.head c.into_header.result c.requires c.into_header.ensures c.in_default.is

pub returns-clause-stands : goal.returns-clause-stands
returns-clause-stands c b stands all = record {
  in_body = after_the_header c.args.head.dialect c.in-Some.header _ b (c.in-Some.ensures b stands) all
      (c.bytes_of-bytes.ensures b stands)
      (c.new-program.ensures.stands c.args.head.dialect.order c.in-Some.header.params
      (ap (λ p. not (p.default_is_stmt == 0)) c.params.ensures.value));
  lengths_are = c.lengths_of-lengths.ensures b c.in-Some.header stands (c.in-Some.ensures b stands);
}
