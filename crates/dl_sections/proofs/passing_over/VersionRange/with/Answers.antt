use Rattle.dl_sections.proofs.PassingLemmas.{least_of_more, greatest_of_more}
use Rattle.dl_sections.proofs.passing_over.VersionRange.with.Goals as goal

pub returns : goal.returns
returns c versions (least, greatest) =
    let own = c.args.self in
    rw (c.min.ensures, c.max.ensures) (
      least_of_more versions c.args.version own.least least,
      greatest_of_more versions c.args.version own.greatest greatest,
    )
