use Rattle.std.proofs.Common.{[]}
use Rattle.dl_rows.proofs.ReaderFeeds.{nothing_yet, new_stands}
use Rattle.dl_rows.proofs.reader.Reader.of.Goals as goal

pub invariant_of-result : goal.invariant_of-result
invariant_of-result c = record { begun = ∣ ([], c.new.ensures.stands, nothing_yet c.new.result.dialect) ∣₁ }

pub returns-clause-stands : goal.returns-clause-stands
returns-clause-stands c = new_stands c.args.dialect c.new.result c.new.ensures.dialect c.new.ensures.stands
