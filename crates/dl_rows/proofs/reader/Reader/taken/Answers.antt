use Rattle.std.proofs.Common.{sym, ap, ◌∙◌}
use Rattle.dl_rows.specs.ReaderStates.{taken_in}
use Rattle.dl_rows.proofs.HeadFeeds.{begun_in, taken_is}
use Rattle.dl_rows.proofs.reader.Reader.taken.Goals as goal

pub returns-in-InHeader-clause-field : goal.returns-in-InHeader-clause-field
returns-in-InHeader-clause-field c =
    let begun = begun_in c.in-InHeader.is c.args.self.now.begun in
    taken_is c.in-InHeader.head c.taken.result begun c.taken.ensures ∙ ap taken_in (sym c.in-InHeader.is)
